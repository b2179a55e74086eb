use Rattle.std.proofs.Common.{◌≡◌, ℕ, ◌<◌, ◌≤◌, List, [], length, get_or, slice_set, ℤ, nat_abs, sym, ◌∙◌, subst, arith, w64, to_z, of_z}
use Rattle.std.proofs.lemmas.Result.{MatchResult-from_err}
use Rattle.std.proofs.lemmas.Int.{to_z-of_z}
use Rattle.algebra.specs.Row.{part}
use Rattle.cells.specs.Calls.{carry_limit, replace_rules}
use Rattle.console.specs.Words.{Integer, texts}
use Rattle.denial.specs.Rules.{Answers}
use Rattle.console.proofs.Exits.{map_err-err, map_err-ok}
use Rattle.console.proofs.Rows.{component-more, integer-as, not-refused, same-integer}
use Rattle.console.proofs.Texts.{texts-at}
use Rattle.console.proofs.word.cell.Goals as goal

pub returns-in_err-x : goal.returns-in_err-x
returns-in_err-x g c =
    let words = c.args.words.now in
    let i = c.loop-i.i in
    MatchResult-from_err _ _ _ c.from_residual.ensures.0 (λ _ x h. c.in_err-x.ensures.1 (part x i)
    (subst (λ (w : List ℕ). Integer w (part x i)) (texts-at words i _ c.loop-i-test.true) (h.each i (omega (arith, c.if-words-width.false, c.width.ensures))).integer))

pub returns-in_err-answer : goal.returns-in_err-answer
returns-in_err-answer g c = MatchResult-from_err _ _ _ c.from_residual-in_err-answer.ensures.0 (λ _ x h.
    let words = c.args.words.now in
    let i = c.loop-i.i in
    let y = c.in_ok-x.x in
    let l : i < g.K.Kind.width = omega (arith, c.if-words-width.false, c.width.ensures) in
    let each = h.each i l in
    let here = subst (λ (w : List ℕ). Integer w (part x i)) (texts-at words i _ c.loop-i-test.true) each.integer in
    let there = c.in_ok-x.ensures in
    let same : part x i ≡ to_z w64 (of_z w64 y) = same-integer _ (part x i) y here there ∙ sym (to_z-of_z w64 y there.fits) in
    let z = to_z w64 (of_z w64 y) in
    let denial = map_err-err _ c.set_component.result c.map_err.result _ c.map_err.ensures.cases c.in_err-answer.was in
    let first = subst (Answers (replace_rules g.K.Kind.width i z) (λ a. g.K.Kind.row a ≡ slice_set (g.K.Kind.row c.loop-i.answer) i z)) denial.1 c.set_component.ensures in
    not-refused g.K.Kind.width i z denial.0 l (subst (λ (v : ℤ). nat_abs v ≤ carry_limit) same each.within) first)

pub loop-i-preserved : goal.loop-i-preserved
loop-i-preserved g c =
    let words = c.args.words.now in
    let i = c.loop-i.i in
    let row = g.K.Kind.row in
    let y = c.in_ok-x.x in
    let there = c.in_ok-x.ensures in
    let l : i < length (row c.loop-i.answer) = omega (arith, g.met.K.Kind.sized c.loop-i.answer, c.if-words-width.false, c.width.ensures) in
    let z = to_z w64 (of_z w64 y) in
    let ok = map_err-ok _ c.set_component.result c.map_err.result _ c.map_err.ensures.cases c.in_ok-answer.was in
    let set = subst (Answers (replace_rules g.K.Kind.width i z) (λ a. row a ≡ slice_set (row c.loop-i.answer) i z)) ok c.set_component.ensures in
    component-more (texts words) (row c.loop-i.answer) (row c.in_ok-answer.answer) i z l set.1 (g.met.K.Kind.held c.in_ok-answer.answer)
    (integer-as _ (get_or (texts words) i []) y z (sym (texts-at words i _ c.loop-i-test.true)) (sym (to_z-of_z w64 y there.fits)) there)
    c.loop-i.invariant
