-- Tables that were worked through by hand.
use Rattle.std.specs.Prelude.{◌≡◌, ℕ, zero, suc, List, [], ◌∷◌, map, ℤ, pos, negsuc, slice_index_or}
use Rattle.algebra.specs.Row.{Row, zeros}
use Rattle.shapes.specs.Denominator.{denominator_of}
use Rattle.shapes.specs.Tree.{size}
use Rattle.inference.specs.Table.{Table}
use Rattle.inference.specs.Formulas.{X}

-- the table whose first rows are these
abbrev table : ℕ → List Row → Table
table w rows v = slice_index_or rows v (zeros w)

-- the first n rows of a table
abbrev first : ℕ → Table → List Row
first zero T = []
first (suc n) T = T 0 ∷ first n (λ v. T (suc v))

abbrev single : List ℤ → List Row
single xs = map (λ x. x ∷ []) xs

-- The formulas make the rows x over D of the rows t, on a tree of fan-out b and height L.
abbrev Gives : (w b L : ℕ) → List Row → ℕ → List Row → Type 0
Gives w b L t D x = (denominator_of b L ≡ D) × (first (size b L) (X w b L D (table w t)) ≡ x)

pub record Worked : Type 0 where
  pub three_nodes : Gives 1 2 2 (single (pos 10 ∷ pos 3 ∷ pos 5 ∷ [])) 3 (single (pos 28 ∷ pos 11 ∷ pos 17 ∷ []))
  pub three_levels : Gives 1 2 3 (single (pos 20 ∷ pos 9 ∷ pos 8 ∷ pos 2 ∷ pos 5 ∷ pos 6 ∷ pos 1 ∷ [])) 21 (single (pos 384 ∷ pos 199 ∷ pos 185 ∷ pos 68 ∷ pos 131 ∷ pos 145 ∷ pos 40 ∷ []))
  pub three_children : Gives 1 3 2 (single (pos 1 ∷ pos 0 ∷ negsuc 1 ∷ pos 1 ∷ [])) 4 (single (pos 2 ∷ pos 2 ∷ negsuc 5 ∷ pos 6 ∷ []))
  pub one_node : Gives 1 2 1 (single (pos 7 ∷ [])) 1 (single (pos 7 ∷ []))
  pub pairs : Gives 2 2 2 ((pos 10 ∷ pos 1 ∷ []) ∷ (pos 3 ∷ pos 0 ∷ []) ∷ (pos 5 ∷ negsuc 1 ∷ []) ∷ []) 3 ((pos 28 ∷ pos 0 ∷ []) ∷ (pos 11 ∷ pos 3 ∷ []) ∷ (pos 17 ∷ negsuc 2 ∷ []) ∷ [])
