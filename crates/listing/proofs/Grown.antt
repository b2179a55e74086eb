-- The lines of the nodes, added one after another.
use Rattle.std.proofs.Common.{◌≡◌, ℕ, ◌+◌, List, [], ◌∷◌, ◌++◌, Ok, Result, sym, ap, ◌∙◌, subst, zero-add}
use Rattle.std.specs.List.{range_with_len, flat_map}
use Rattle.std.proofs.lemmas.List.{flat_map_more, map-id}
use Rattle.std.proofs.lemmas.List.FromFn.{map-range_with_len_more}
use Rattle.algebra.specs.Row.{Row}
use Rattle.denial.specs.Rules.{Rule, Answers}
use Rattle.denial.specs.declared.denial.Denial.{Denial}
use Rattle.listing_lines.specs.Lines.{node_line}
use Rattle.listing.specs.Text.{node_lines}

counting_more : (n : ℕ) → range_with_len 0 (n + 1) ≡ range_with_len 0 n ++ n ∷ []
counting_more n =
    sym (map-id (range_with_len 0 (n + 1))) ∙ map-range_with_len_more (λ x. x) 0 n n (zero-add n) ∙ ap (λ xs. xs ++ n ∷ []) (map-id (range_with_len 0 n))

-- one node more
pub nodes-more : (rows : ℕ → Row) (d v : ℕ) (r : Row) (old text text' : List ℕ)
    → r ≡ rows v → text ≡ old ++ node_lines rows d v → text' ≡ text ++ node_line v r d → text' ≡ old ++ node_lines rows d (v + 1)
nodes-more rows d v r old text text' e before grows =
    let line = λ (u : ℕ). node_line u (rows u) d in
    grows ∙ (λ i. before i ++ node_line v (e i) d)
    ∙ flat_map_more line old (range_with_len 0 v) v
    ∙ ap (λ (xs : List ℕ). old ++ flat_map line xs) (sym (counting_more v))

-- what an unwrapped answer is
pub unwrapped : {A : Type 0} (rules : List Rule) (P : A → Type 0) (r : Result A Denial) (x : A) → Answers rules P r → r ≡ Ok x → P x
unwrapped rules P r x a e = (subst (Answers rules P) e a).1
