-- Rows of whole numbers, their arithmetic, component by component, and the laws of a product of rows.
use Rattle.std.specs.Prelude.{◌≡◌, ℕ, zero, suc, ◌≤◌, cond, List, [], ◌∷◌, map, length, replicate, ℤ, pos, ◌+ℤ◌, ◌-ℤ◌, ◌*ℤ◌, ◌≤ℤ◌, Some, None, Option, ◌≢◌, nat_lt, slice_index_or, unsigned_abs}

-- The components of a row are numbered from 0.
abbrev pub Row : Type 0
Row = List ℤ

-- Component i, and 0 past the last.
abbrev pub part : Row → ℕ → ℤ
part r i = slice_index_or r i (pos 0)

-- The row of width w with the components f 0, …, f (w − 1).
abbrev pub tabulate : ℕ → (ℕ → ℤ) → Row
tabulate zero f = []
tabulate (suc w) f = f 0 ∷ tabulate w (λ i. f (suc i))

abbrev pub zip : (ℤ → ℤ → ℤ) → Row → Row → Row
zip f [] [] = []
zip f [] (y ∷ ys) = []
zip f (x ∷ xs) [] = []
zip f (x ∷ xs) (y ∷ ys) = f x y ∷ zip f xs ys

infixl 6 ◌⊕◌
abbrev pub ◌⊕◌ : Row → Row → Row
r ⊕ s = zip ◌+ℤ◌ r s

infixl 6 ◌⊖◌
abbrev pub ◌⊖◌ : Row → Row → Row
r ⊖ s = zip ◌-ℤ◌ r s

infixl 7 ◌⊙◌
abbrev pub ◌⊙◌ : ℤ → Row → Row
k ⊙ r = map (λ x. k *ℤ x) r

-- The row of width w that is all zeros.
abbrev pub zeros : ℕ → Row
zeros w = replicate w (pos 0)

-- The row of the cell at place v of a slice, where `row` says what a cell means; no row past the slice's end.
abbrev pub row_at : {K : Type 0} → (K → Row) → List K → ℕ → Row
row_at row cells v = slice_index_or (map row cells) v []

-- The first component whose size is over a limit, the components counted from i.
abbrev pub beyond_from : ℕ → ℕ → Row → Option ℕ
beyond_from limit i [] = None
beyond_from limit i (x ∷ xs) = cond (nat_lt limit (unsigned_abs x)) (Some i) (beyond_from limit (suc i) xs)

abbrev pub beyond : ℕ → Row → Option ℕ
beyond limit r = beyond_from limit 0 r

-- Every component's size is at most a limit.
abbrev pub Within : ℕ → Row → Type 0
Within limit r = (i : ℕ) → unsigned_abs (part r i) ≤ limit

-- The three laws of a product of rows of width w.
pub record Product (w : ℕ) (dot : Row → Row → ℤ) : Type 0 where
  pub symmetric : (r s : Row) → length r ≡ w → length s ≡ w → dot r s ≡ dot s r
  pub additive : (r r' s : Row) → length r ≡ w → length r' ≡ w → length s ≡ w → dot (r ⊕ r') s ≡ dot r s +ℤ dot r' s
  pub positive : (r : Row) → length r ≡ w → (r ≢ zeros w) → pos 1 ≤ℤ dot r r
