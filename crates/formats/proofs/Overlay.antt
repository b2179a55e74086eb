-- Pieces that are written into a buffer, one after another.
use Rattle.std.proofs.Common.{◌≡◌, ℕ, zero, suc, ◌+◌, ◌-◌, ◌*◌, ◌<◌, ◌≤◌, List, [], ◌∷◌, ◌++◌, map, length, get_or, take, drop, ℤ, pos, sym, refl, ap, ◌∙◌, append_assoc, mul-le-mul_left, mul-one, mul-add, add-zero, add-one, arith}
use borrow.Rule.Slice.PartMut.{put_mid, post_of}
use Rattle.std.proofs.lemmas.Slice.{take-put_mid}
use Rattle.std.proofs.lemmas.List.{drop-drop, take_at, drop_at, get_or-take, get_or-drop, take_more, take-map, flat_map_more, length-drop, length-take-le}
use Rattle.algebra.specs.Row.{Row, row_at}
use Rattle.formats.specs.Bytes.{eight_bytes}
use Rattle.formats.specs.Publication.{row_bytes, table_bytes, place_of}
use Rattle.formats.proofs.Blocks.{eight-long, row-length, table_more}

-- one more component of a cell: n were told before it, and m with it
pub cell-more : (k i n m : ℕ) (xs ys : List ℕ) (r left rest : Row) (x : ℤ) → i ≡ n → m ≡ n + 1 → 8 * length r ≤ length xs → left ≡ x ∷ rest → ys ≡ eight_bytes x
    → (left ≡ drop n r) × (take (8 * n) xs ≡ row_bytes (take n r))
    → (rest ≡ drop m r) × (take (8 * m) (put_mid (8 * i) k xs ys) ≡ row_bytes (take m r))
cell-more k i n m xs ys r left rest x at next room told p before =
    let e : drop n r ≡ x ∷ rest = sym before.0 ∙ told in
    let inside : n < length r = omega (arith, length-drop n r, ap length e) in
    let here : get_or r n (pos 0) ≡ x = ap (λ j. get_or r j (pos 0)) (sym (add-zero n)) ∙ sym (get_or-drop n r 0 (pos 0)) ∙ ap (λ t. get_or t 0 (pos 0)) e in
    rw (at, next) (
      sym (ap (drop 1) e) ∙ drop-drop 1 n r,
      take-put_mid (8 * n) k xs ys (8 * (n + 1)) (omega (arith, ap length p, eight-long x)) (omega arith)
          ∙ (λ j. before.1 j ++ p j) ∙ flat_map_more eight_bytes [] (take n r) x
          ∙ ap row_bytes (ap (λ y. take n r ++ y ∷ []) (sym here) ∙ sym (take_more r n (pos 0) inside)),
    )

pub place-room : (w v n room : ℕ) → v < n → place_of w n ≤ room → place_of w v + 8 * w ≤ room
place-room w v n room h k = let more : v + 1 ≤ n = omega arith in omega (arith, mul-le-mul_left w more, mul-add w v 1, mul-one w)

-- one more row of a table
pub rows_written : (xs ys : List ℕ) (w w' v k : ℕ) (rows : ℕ → Row) → w' ≡ w → 8 * w * v ≤ length xs → ys ≡ row_bytes (rows v) → length (rows v) ≡ w
    → take (8 * w * v) xs ≡ table_bytes v rows → take (8 * w * (v + 1)) (put_mid (8 * w' * v) k xs ys) ≡ table_bytes (v + 1) rows
rows_written xs ys w w' v k rows e room p sized before =
    rw e (
    take-put_mid (8 * w * v) k xs ys (8 * w * (v + 1)) (omega (arith, ap length p, row-length (rows v))) room
    ∙ (λ j. before j ++ p j) ∙ sym (table_more v rows)
    )

table-same : (n : ℕ) (f g : ℕ → Row) → ((v : ℕ) → v < n → f v ≡ g v) → table_bytes n f ≡ table_bytes n g
table-same zero f g h = refl
table-same (suc n) f g h =
    ap (λ m. table_bytes m f) (sym (add-one n)) ∙ table_more n f ∙ (λ i. table-same n f g (λ v l. h v (omega arith)) i ++ row_bytes (h n (omega arith) i))
    ∙ sym (table_more n g) ∙ ap (λ m. table_bytes m g) (add-one n)

-- the table of the first n cells of a slice
pub table-taken : {K : Type 0} (row : K → Row) (cells : List K) (n m : ℕ) → n ≡ m → n ≤ length cells
    → table_bytes (length (take n cells)) (row_at row (take n cells)) ≡ table_bytes m (row_at row cells)
table-taken row cells n m e room =
    table-same (length (take n cells)) (row_at row (take n cells)) (row_at row cells)
    (λ v h. ap (λ (rs : List Row). get_or rs v []) (sym (take-map row n cells)) ∙ get_or-take n (map row cells) v [] (omega (arith, length-take-le n cells room)))
    ∙ ap (λ k. table_bytes k (row_at row cells)) (length-take-le n cells room ∙ e)

-- the header and then the rows make up a publication
pub publication-done : (hs head ts body out : List ℕ) (m : ℕ) → length hs ≡ 16 → 16 ≤ m → head ≡ hs → body ≡ ts
    → take 16 (head ++ drop 16 out) ++ (body ++ post_of 16 (m - 16) (head ++ drop 16 out)) ≡ (hs ++ ts) ++ drop m out
publication-done hs head ts body out m l h p q =
    let k : 16 + (m - 16) ≡ m = omega arith in
    (λ i. take 16 (p i ++ drop 16 out) ++ (q i ++ post_of 16 (m - 16) (p i ++ drop 16 out)))
    ∙ ap (λ t. t ++ (ts ++ post_of 16 (m - 16) (hs ++ drop 16 out))) (take_at hs (drop 16 out) 16 l)
    ∙ ap (λ t. hs ++ (ts ++ t)) (ap (drop (m - 16)) (drop_at hs (drop 16 out) 16 l) ∙ drop-drop (m - 16) 16 out ∙ ap (λ n. drop n out) k)
    ∙ sym (append_assoc hs ts (drop m out))
