use Rattle.std.proofs.Common.{◌≡◌, ℕ, ◌+◌, ltb, [], ◌∷◌, cond, ℤ, nat_abs, Some, refl, ap, ◌∙◌, add-one, rules, tests}
use Rattle.std.specs.List.{position_from}
use Rattle.std.proofs.lemmas.Iterator.Consumers.{YieldsList-from_first}
use Rattle.std.proofs.lemmas.Iterator.Adapters.{position_from-zero}
use Rattle.std.proofs.lemmas.Iterator.Search.{position_from_yields_List}
use Rattle.algebra.specs.Row.{Row, beyond_from}
use Rattle.cells.specs.Components.{components_left}
use Rattle.tree_sheet.proofs.enter.first_beyond.Goals as goal

positions : (limit i : ℕ) (r : Row) → position_from (λ x. ltb limit (nat_abs x)) i r ≡ beyond_from limit i r
positions limit i [] = refl
positions limit i (x ∷ xs) = ap (λ o. cond (ltb limit (nat_abs x)) (Some i) o) (positions limit (i + 1) xs ∙ ap (λ j. beyond_from limit j xs) (add-one i))

pub returns : goal.returns
returns g c =
    let r = g.K.Kind.row c.args.cell in
    let test = λ (x : ℤ). ltb c.args.limit (nat_abs x) in
    position_from_yields_List test _ _ c.position.result c.position.ensures.ran
    (YieldsList-from_first (λ x. x) (components_left g.K.Kind.row) r c.of.ensures) (λ x b q k. search (rules, tests))
    ∙ position_from-zero test r
    ∙ positions c.args.limit 0 r
