-- The rows of the cells of a slice, after a read and after a write.
use Rattle.std.proofs.Common.{◌≡◌, ℕ, zero, suc, ◌<◌, ◌≢◌, List, [], ◌∷◌, map, length, get_or, set, sym, ap, ◌∙◌, subst, arith}
use Rattle.std.proofs.lemmas.List.{get_or-map, map-set, get_or-set_same, get_or-set_other, length-map}
use Rattle.algebra.specs.Row.{Row, row_at}

-- a cell that was read
pub row_read : {K : Type 0} (row : K → Row) (xs : List K) (i : ℕ) (x : K) → i < length xs → x ≡ get_or xs i x → row x ≡ row_at row xs i
row_read row xs i x h e = ap row e ∙ sym (get_or-map row xs i x [] h)

pub row_copied : {K : Type 0} (row : K → Row) (xs : List K) (i : ℕ) (x : K) → i < length xs → row (get_or xs i x) ≡ row_at row xs i
row_copied row xs i x h = sym (get_or-map row xs i x [] h)

pub row_same : {K : Type 0} (row : K → Row) (xs : List K) (i : ℕ) (x : K) → i < length xs → row_at row (set xs i x) i ≡ row x
row_same row xs i x h =
    ap (λ (ys : List Row). get_or ys i []) (map-set row xs i x) ∙ get_or-set_same (map row xs) i (row x) [] (subst (λ (n : ℕ). i < n) (sym (length-map xs row)) h)

pub row_other : {K : Type 0} (row : K → Row) (xs : List K) (i j : ℕ) (x : K) → j ≢ i → row_at row (set xs i x) j ≡ row_at row xs j
row_other row xs i j x n = ap (λ (ys : List Row). get_or ys j []) (map-set row xs i x) ∙ get_or-set_other (map row xs) i j (row x) [] n

-- the rows of cells have the kind's width
pub row_sized : {K : Type 0} (row : K → Row) (w : ℕ) → ((c : K) → length (row c) ≡ w) → (xs : List K) (v : ℕ) → v < length xs → length (row_at row xs v) ≡ w
row_sized row w s [] v h = absurd (omega arith)
row_sized row w s (x ∷ xs) zero h = s x
row_sized row w s (x ∷ xs) (suc v) h = row_sized row w s xs v (omega arith)
