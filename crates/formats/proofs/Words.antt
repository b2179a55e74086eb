-- The words of a body, the rows that they make up, and the cells that are made of them.
use Rattle.std.proofs.Common.{◌≡◌, ℕ, zero, suc, ◌+◌, ◌-◌, ◌*◌, ◌/◌, ◌%◌, ◌<◌, ◌≤◌, Bool, cond, ltb, ◌≢◌, List, [], ◌∷◌, map, length, get_or, take, drop, set, ℤ, pos, nat_abs, Some, None, sym, refl, ap, ◌∙◌, ⊎_elim, mod-lt, mul_comm, div-lt_iff_lt-mul, mul-le-mul_left, zero-mul, mul-add, add-one, arith, below_more}
use native.Mathlib.Nat.{div-add-mod}
use Rattle.std.specs.List.{position, position_from}
use Rattle.std.specs.Simd.{first_chunks}
use Rattle.std.proofs.lemmas.Iterator.Adapters.{position_from-zero}
use Rattle.std.proofs.lemmas.List.{drop_more, get_or-take, get_or-drop, get_or_past, length-drop, length-take-le, take-map, drop-map}
use Rattle.std.proofs.lemmas.Bool.{cases_lt}
use Rattle.algebra.specs.Row.{Row, part, tabulate, row_at, beyond, beyond_from, Within}
use Rattle.algebra.proofs.Limits.{none_within, within_none}
use Rattle.algebra.proofs.Places.{row_same, row_other}
use Rattle.algebra.proofs.Rows.{tabulate-length}
use Rattle.formats.specs.Bytes.{bytes_at, signed, word}
use Rattle.formats.specs.NoisyTable.{body_row}

-- a row that is tabulated, and its components
pub part-tabulate : (w : ℕ) (f : ℕ → ℤ) (i : ℕ) → i < w → part (tabulate w f) i ≡ f i
part-tabulate zero f i h = absurd (omega arith)
part-tabulate (suc w) f zero h = refl
part-tabulate (suc w) f (suc i) h = part-tabulate w (λ j. f (suc j)) i (omega arith)

pub row-tabulate : (w : ℕ) (f : ℕ → ℤ) (r : Row) → length r ≡ w → ((i : ℕ) → i < w → part r i ≡ f i) → r ≡ tabulate w f
row-tabulate zero f [] e h = refl
row-tabulate zero f (x ∷ r) e h = absurd (omega arith)
row-tabulate (suc w) f [] e h = absurd (omega arith)
row-tabulate (suc w) f (x ∷ r) e h = λ j. h 0 (omega arith) j ∷ row-tabulate w (λ i. f (suc i)) r (omega arith) (λ i k. h (suc i) (omega arith)) j

pub tabulate-same : (w : ℕ) (f g : ℕ → ℤ) → ((i : ℕ) → i < w → f i ≡ g i) → tabulate w f ≡ tabulate w g
tabulate-same w f g e = row-tabulate w g (tabulate w f) (tabulate-length w f) (λ i h. part-tabulate w f i h ∙ e i h)

-- the bytes from an offset on, in a list and in the rest of one
pub bytes-taken : (n at : ℕ) (xs : List ℕ) → at + n ≤ length xs → bytes_at xs at n ≡ take n (drop at xs)
bytes-taken zero at xs h = refl
bytes-taken (suc n) at xs h =
    ap (λ t. get_or xs at 0 ∷ t) (bytes-taken n (at + 1) xs (omega arith)) ∙ sym (ap (take (suc n)) (drop_more xs at 0 (omega arith)))

bytes_at-drop : (n at off : ℕ) (xs : List ℕ) → bytes_at (drop off xs) at n ≡ bytes_at xs (off + at) n
bytes_at-drop zero at off xs = refl
bytes_at-drop (suc n) at off xs =
    ap (λ x. x ∷ bytes_at (drop off xs) (at + 1) n) (get_or-drop off xs at 0)
    ∙ ap (λ t. get_or xs (off + at) 0 ∷ t) (bytes_at-drop n (at + 1) off xs ∙ ap (λ k. bytes_at xs k n) (omega arith))

-- the words of bytes that are cut into chunks of four
pub words-tabulate : (n : ℕ) (body : List ℕ) → 4 * n ≤ length body → map signed (first_chunks 4 n body) ≡ tabulate n (word body)
words-tabulate zero body h = refl
words-tabulate (suc n) body h =
    let here : signed (take 4 body) ≡ word body 0 = ap signed (sym (bytes-taken 4 0 body (omega arith))) in
    let there : map signed (first_chunks 4 n (drop 4 body)) ≡ tabulate n (λ i. word body (suc i))
    = words-tabulate n (drop 4 body) (omega (arith, length-drop 4 body))
    ∙ tabulate-same n (word (drop 4 body)) (λ i. word body (suc i)) (λ i k. ap signed (bytes_at-drop 4 (4 * i) 4 body ∙ ap (λ m. bytes_at body m 4) (omega arith))) in
    λ i. here i ∷ there i

-- the words of one row, which end where the next row's begin
pub row-words : (w w' v n : ℕ) (body : List ℕ) (words : List (List ℕ)) → w' ≡ w → words ≡ first_chunks 4 n body → 4 * n ≤ length body → w * v + w ≤ n
    → map signed (take (w' * (v + 1) - w' * v) (drop (w' * v) words)) ≡ body_row w body v
row-words w w' v n body words same cut h k =
    let r = tabulate n (word body) in
    let part : w * (v + 1) - w * v ≡ w = omega arith in
    let long : length (take w (drop (w * v) r)) ≡ w = length-take-le w (drop (w * v) r) (omega (arith, length-drop (w * v) r, tabulate-length n (word body))) in
    (λ i. map signed (take (same i * (v + 1) - same i * v) (drop (same i * v) (cut i))))
    ∙ ap (λ m. map signed (take m (drop (w * v) (first_chunks 4 n body)))) part
    ∙ sym (take-map signed w (drop (w * v) (first_chunks 4 n body)))
    ∙ ap (take w) (sym (drop-map signed (w * v) (first_chunks 4 n body)))
    ∙ ap (λ t. take w (drop (w * v) t)) (words-tabulate n body h)
    ∙ row-tabulate w (λ i. word body (w * v + i)) (take w (drop (w * v) r)) long
    (λ i l. get_or-take w (drop (w * v) r) i (pos 0) l ∙ get_or-drop (w * v) r i (pos 0) ∙ part-tabulate n (word body) (w * v + i) (omega arith))

-- the scan for the first component that is over a limit
module _ {X : Type 0} (limit : ℕ) (f : X → ℤ) where
  abbrev pub over : X → Bool
  over x = ltb limit (nat_abs (f x))

  from : (i : ℕ) (xs : List X) → position_from over i xs ≡ beyond_from limit i (map f xs)
  from i [] = refl
  from i (x ∷ xs) = ap (cond (over x) (Some i)) (rw add-one (from (suc i) xs))

  pub position-beyond : (xs : List X) → position over xs ≡ beyond limit (map f xs)
  position-beyond xs = position_from-zero over xs ∙ from 0 xs

-- the first of the components of a body that is over a limit
pub first-over : (limit n : ℕ) (body : List ℕ) (words : List (List ℕ)) → words ≡ first_chunks 4 (length body / 4) body → length body ≡ 4 * n
    → position (over limit signed) words ≡ beyond limit (tabulate n (word body))
first-over limit n body words e l =
    let count : length body / 4 ≡ n = omega arith in
    position-beyond limit signed words
    ∙ ap (λ ws. beyond limit (map signed ws)) (e ∙ ap (λ m. first_chunks 4 m body) count)
    ∙ ap (beyond limit) (words-tabulate n body (omega arith))

-- a row before the last ends before the body does
pub room-below : (w v n room : ℕ) → v < n → 4 * (w * n) ≤ room → 4 * (w * v + w) ≤ room
room-below w v n room h l = let more : v + 1 ≤ n = omega arith in omega (arith, mul-le-mul_left w more, mul-add w v 1)

-- one more cell is filled
pub rows_more : {K : Type 0} (row : K → Row) (rows : ℕ → Row) (cells : List K) (v : ℕ) (c : K) → v < length cells → row c ≡ rows v
    → ((u : ℕ) → u < v → row_at row cells u ≡ rows u) → (u : ℕ) → u < v + 1 → row_at row (set cells v c) u ≡ rows u
rows_more row rows cells v c h e before =
    below_more (λ u. row_at row (set cells v c) u ≡ rows u) v
    (λ u k. let other : u ≢ v = omega arith in row_other row cells v u c other ∙ before u k)
    (row_same row cells v c h ∙ e)

-- where no component of n rows is over a limit, no row's is
pub rows-within : (limit w n : ℕ) (body : List ℕ) → beyond limit (tabulate (w * n) (word body)) ≡ None
    → (v : ℕ) → v < n → Within limit (body_row w body v)
rows-within limit w n body none v h i = ⊎_elim inside past (cases_lt i w)
  where
    more : v + 1 ≤ n
    more = omega arith

    inside : i < w → nat_abs (part (tabulate w (λ j. word body (w * v + j))) i) ≤ limit
    inside k =
        let here = ap nat_abs (part-tabulate w (λ j. word body (w * v + j)) i k) in
        let there = ap nat_abs (part-tabulate (w * n) (word body) (w * v + i) (omega (arith, mul-le-mul_left w more, mul-add w v 1))) in
        omega (arith, here, there, none_within limit (tabulate (w * n) (word body)) none (w * v + i))

    past : w ≤ i → nat_abs (part (tabulate w (λ j. word body (w * v + j))) i) ≤ limit
    past k = let out = ap nat_abs (get_or_past (tabulate w (λ j. word body (w * v + j))) i (pos 0) (omega (arith, tabulate-length w (λ j. word body (w * v + j))))) in omega (arith, out)

some-width : (w n j : ℕ) → j < w * n → 0 < w
some-width zero n j h = absurd (omega (arith, zero-mul n))
some-width (suc w) n j h = omega arith

-- where no row's component is over a limit, none of n rows is
pub rows_none : (limit w n : ℕ) (body : List ℕ) → ((v : ℕ) → v < n → Within limit (body_row w body v)) → beyond limit (tabulate (w * n) (word body)) ≡ None
rows_none limit w n body within = within_none limit (tabulate (w * n) (word body)) (λ j. ⊎_elim (inside j) (past j) (cases_lt j (w * n)))
  where
    inside : (j : ℕ) → j < w * n → nat_abs (part (tabulate (w * n) (word body)) j) ≤ limit
    inside j h =
        let some = some-width w n j h in
        let low : j % w < w = mod-lt j some in
        let high : j / w < n = (div-lt_iff_lt-mul some).1 (omega (arith, mul_comm w n)) in
        let there = ap nat_abs (part-tabulate (w * n) (word body) j h) in
        let same = ap (λ m. nat_abs (word body m)) (div-add-mod j w) in
        let here = ap nat_abs (part-tabulate w (λ i. word body (w * (j / w) + i)) (j % w) low) in
        omega (arith, there, same, here, within (j / w) high (j % w))

    past : (j : ℕ) → w * n ≤ j → nat_abs (part (tabulate (w * n) (word body)) j) ≤ limit
    past j k = let out = ap nat_abs (get_or_past (tabulate (w * n) (word body)) j (pos 0) (omega (arith, tabulate-length (w * n) (word body)))) in omega (arith, out)
