-- The rows of a part of a slice, and of a slice after a write to a part or to one cell.
use Rattle.std.proofs.Common.{◌≡◌, ℕ, ◌+◌, ◌<◌, ◌≤◌, ◌⊎◌, List, [], ◌++◌, map, length, get_or, take, drop, replicate, set, sym, ap, ◌∙◌, inl, inr, rules, arith}
use borrow.Rule.Slice.PartMut.{put_mid}
use Rattle.std.proofs.lemmas.Bool.{cases_eq}
use Rattle.std.proofs.lemmas.List.{places, take-map, drop-map, map-append, length-map, length-replicate, get_or-replicate}
use Rattle.algebra.specs.Row.{Row, row_at}
use Rattle.algebra.proofs.Places.{row_copied, row_same, row_other}

-- row j of the n cells from a on
pub row_of-part : {K : Type 0} (row : K → Row) (xs : List K) (a n j : ℕ) → j < n → a + n ≤ length xs → row_at row (take n (drop a xs)) j ≡ row_at row xs (a + j)
row_of-part row xs a n j h l =
    let e : map row (take n (drop a xs)) ≡ take n (drop a (map row xs)) = sym (take-map row n (drop a xs)) ∙ ap (take n) (sym (drop-map row a xs)) in
    let m = length-map xs row in
    ap (λ (rs : List Row). get_or rs j []) e ∙ search (rules, places)

map-put_mid : {K : Type 0} (row : K → Row) (a k : ℕ) (xs ys : List K) → map row (put_mid a k xs ys) ≡ put_mid a k (map row xs) (map row ys)
map-put_mid row a k xs ys =
    map-append row (take a xs) (ys ++ drop k (drop a xs))
    ∙ (λ i. sym (take-map row a xs) i ++ (map-append row ys (drop k (drop a xs)) ∙ ap (λ (zs : List Row). map row ys ++ zs) (sym (drop-map row k (drop a xs)) ∙ ap (drop k) (sym (drop-map row a xs)))) i)

-- row v after a write to the k cells from a on
pub row_below-part : {K : Type 0} (row : K → Row) (xs ys : List K) (a k v : ℕ) → v < a → a + k ≤ length xs → row_at row (put_mid a k xs ys) v ≡ row_at row xs v
row_below-part row xs ys a k v h l =
    let m = length-map xs row in
    ap (λ (rs : List Row). get_or rs v []) (map-put_mid row a k xs ys) ∙ search (rules, places)

pub row_in-part : {K : Type 0} (row : K → Row) (xs ys : List K) (a k j : ℕ) → j < length ys → a + k ≤ length xs → row_at row (put_mid a k xs ys) (a + j) ≡ row_at row ys j
row_in-part row xs ys a k j h l =
    let m = length-map xs row in
    let n = length-map ys row in
    ap (λ (rs : List Row). get_or rs (a + j) []) (map-put_mid row a k xs ys) ∙ search (rules, places)

pub row_of-replicate : {K : Type 0} (row : K → Row) (n : ℕ) (x : K) (j : ℕ) → j < n → row_at row (replicate n x) j ≡ row x
row_of-replicate row n x j h = sym (row_copied row (replicate n x) j x (omega (arith, length-replicate n x))) ∙ ap row (get_or-replicate n j x x h)

-- A cell is written at i: what F says of the places with P then stands at each of them, i among them.
pub written : {K : Type 0} (row : K → Row) (F : ℕ → Row) (P : ℕ → Type 0) (xs : List K) (i : ℕ) (x : K) → i < length xs → row x ≡ F i
    → ((u : ℕ) → P u → (u ≡ i → ⊥) → row_at row xs u ≡ F u) → (u : ℕ) → P u → row_at row (set xs i x) u ≡ F u
written row F P xs i x h e old u p = by (cases_eq u i)
  where
    by : (u ≡ i) ⊎ (u ≡ i → ⊥) → row_at row (set xs i x) u ≡ F u
    by (inl s) = ap (row_at row (set xs i x)) s ∙ row_same row xs i x h ∙ e ∙ ap F (sym s)
    by (inr n) = row_other row xs i u x n ∙ old u p n
