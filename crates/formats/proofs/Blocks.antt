-- Bytes that are made up of blocks of one length.
use Rattle.std.proofs.Common.{◌≡◌, ℕ, zero, suc, ◌+◌, ◌*◌, ◌/◌, ◌%◌, ◌^◌, ◌<◌, List, [], ◌∷◌, ◌++◌, length, get_or, take, drop, ℤ, pos, sym, refl, ap, ◌∙◌, mul_assoc, mul-zero, mul-suc, div-one, arith, w64, of_z}
use Rattle.std.specs.Int.{byte_at}
use Rattle.std.specs.List.{range_with_len, flat_map}
use Rattle.std.proofs.lemmas.List.FromFn.{length-range_with_len, get_or-range_with_len, map-range_with_len_more}
use Rattle.std.proofs.lemmas.List.{drop-drop, take_at, drop_at, take-append-drop, length-append, length-drop, nil_from_length, flat_map_more, map-id}
use Rattle.algebra.specs.Row.{Row}
use Rattle.formats.specs.Bytes.{bytes_of, eight_bytes}
use Rattle.formats.specs.Publication.{row_bytes, table_bytes}

-- a byte of a number
pub byte_is : (i n : ℕ) → byte_at i n ≡ n / 256 ^ i % 256
byte_is zero n = ap (λ m. m % 256) (sym (div-one n))
byte_is (suc i) n = refl

pub length-bytes_of : (n x : ℕ) → length (bytes_of n x) ≡ n
unfolding bytes_of
length-bytes_of zero x = refl
length-bytes_of (suc n) x = ap suc (length-bytes_of n x)

module _ {X : Type 0} (f : X → List ℕ) (m : ℕ) (d : X) where
  pub blocks-length : (xs : List X) → ((u : ℕ) → u < length xs → length (f (get_or xs u d)) ≡ m) → length (flat_map f xs) ≡ m * length xs
  blocks-length [] h = sym (mul-zero m)
  blocks-length (x ∷ xs) h =
      length-append (f x) (flat_map f xs)
      ∙ omega (arith, h 0 (omega arith), blocks-length xs (λ u l. h (suc u) (omega arith)), mul-suc m (length xs))

  -- block number v
  pub block : (xs : List X) → ((u : ℕ) → u < length xs → length (f (get_or xs u d)) ≡ m)
      → (v : ℕ) → v < length xs → take m (drop (m * v) (flat_map f xs)) ≡ f (get_or xs v d)
  block [] h v l = absurd (omega arith)
  block (x ∷ xs) h zero l = ap (λ n. take m (drop n (f x ++ flat_map f xs))) (mul-zero m) ∙ take_at (f x) (flat_map f xs) m (h 0 (omega arith))
  block (x ∷ xs) h (suc v) l =
      let next : m * suc v ≡ m + m * v = omega (arith, mul-suc m v) in
      ap (λ n. take m (drop n (f x ++ flat_map f xs))) next
      ∙ ap (take m) (sym (drop-drop (m * v) m (f x ++ flat_map f xs)) ∙ ap (drop (m * v)) (drop_at (f x) (flat_map f xs) m (h 0 (omega arith))))
      ∙ block xs (λ u k. h (suc u) (omega arith)) v (omega arith)

  -- bytes whose blocks are those of a list are made up of them
  pub blocks-made : (xs : List X) (bytes : List ℕ) → length bytes ≡ m * length xs
      → ((u : ℕ) → u < length xs → take m (drop (m * u) bytes) ≡ f (get_or xs u d)) → flat_map f xs ≡ bytes
  blocks-made [] bytes l h = sym (nil_from_length bytes (l ∙ mul-zero m))
  blocks-made (x ∷ xs) bytes l h =
      let here : take m bytes ≡ f x = ap (λ n. take m (drop n bytes)) (sym (mul-zero m)) ∙ h 0 (omega arith) in
      let there = blocks-made xs (drop m bytes) (length-drop m bytes ∙ omega (arith, mul-suc m (length xs)))
      (λ u k. ap (take m) (drop-drop (m * u) m bytes ∙ ap (λ n. drop n bytes) (omega (arith, mul-suc m u))) ∙ h (suc u) (omega arith)) in
      (λ i. sym here i ++ there i) ∙ take-append-drop m bytes

-- components of c bytes each
module _ (enc : ℤ → List ℕ) (c : ℕ) (long : (x : ℤ) → length (enc x) ≡ c) where
  pub row-long : (r : Row) → length (flat_map enc r) ≡ c * length r
  row-long r = blocks-length enc c (pos 0) r (λ u h. long (get_or r u (pos 0)))

  -- the rows of a table, each of width w
  module _ (w n : ℕ) (rows : ℕ → Row) (sized : (u : ℕ) → u < n → length (rows u) ≡ w) where
    row_block : (u : ℕ) → u < length (range_with_len 0 n) → length (flat_map enc (rows (get_or (range_with_len 0 n) u 0))) ≡ c * w
    row_block u l =
        let k : u < n = omega (arith, length-range_with_len 0 n) in
        row-long (rows (get_or (range_with_len 0 n) u 0)) ∙ ap (λ j. c * length (rows j)) (get_or-range_with_len 0 n u 0 k ∙ omega arith) ∙ ap (λ j. c * j) (sized u k)

    pub rows_long : length (flat_map (λ v. flat_map enc (rows v)) (range_with_len 0 n)) ≡ c * (w * n)
    rows_long =
        blocks-length (λ v. flat_map enc (rows v)) (c * w) 0 (range_with_len 0 n) row_block ∙ ap (λ j. c * w * j) (length-range_with_len 0 n) ∙ mul_assoc c w n

    pub rows-block : (v : ℕ) → v < n → take (c * w) (drop (c * (w * v)) (flat_map (λ v. flat_map enc (rows v)) (range_with_len 0 n))) ≡ flat_map enc (rows v)
    rows-block v l =
        ap (λ j. take (c * w) (drop j (flat_map (λ v. flat_map enc (rows v)) (range_with_len 0 n)))) (sym (mul_assoc c w v))
        ∙ block (λ v. flat_map enc (rows v)) (c * w) 0 (range_with_len 0 n) row_block v (omega (arith, length-range_with_len 0 n))
        ∙ ap (λ j. flat_map enc (rows j)) (get_or-range_with_len 0 n v 0 l ∙ omega arith)

pub eight-long : (x : ℤ) → length (eight_bytes x) ≡ 8
eight-long x = length-bytes_of 8 (of_z w64 x)

pub row-length : (r : Row) → length (row_bytes r) ≡ 8 * length r
row-length r = row-long eight_bytes 8 eight-long r

module _ (w n : ℕ) (rows : ℕ → Row) (sized : (u : ℕ) → u < n → length (rows u) ≡ w) where
  pub table-length : length (table_bytes n rows) ≡ 8 * (w * n)
  table-length = rows_long eight_bytes 8 eight-long w n rows sized

  pub table-block : (v : ℕ) → v < n → take (8 * w) (drop (8 * (w * v)) (table_bytes n rows)) ≡ row_bytes (rows v)
  table-block = rows-block eight_bytes 8 eight-long w n rows sized

pub table_more : (n : ℕ) (rows : ℕ → Row) → table_bytes (n + 1) rows ≡ table_bytes n rows ++ row_bytes (rows n)
table_more n rows =
    ap (flat_map (λ v. row_bytes (rows v))) (sym (map-id (range_with_len 0 (n + 1))) ∙ map-range_with_len_more (λ v. v) 0 n n (omega arith) ∙ ap (λ t. t ++ n ∷ []) (map-id (range_with_len 0 n)))
    ∙ sym (flat_map_more (λ v. row_bytes (rows v)) [] (range_with_len 0 n) n)
