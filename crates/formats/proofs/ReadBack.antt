-- What is read out of a publication is what was written into it.
use Rattle.std.proofs.Common.{◌≡◌, ℕ, zero, suc, ◌+◌, ◌*◌, ◌/◌, ◌%◌, ◌^◌, ◌<◌, ◌≤◌, List, [], ◌∷◌, ◌++◌, length, get_or, take, drop, ℤ, pos, negsuc, nat_abs, sym, refl, ap, ◌∙◌, subst, mod-eq_of_lt, mul_assoc, add-mul, mul-le-mul_left, mul-one, mul-add, arith, w64, SFits, to_z, of_z}
use native.Mathlib.Nat.{mod-one, pow-succ'}
use lib.Arith.{mod-mul}
use Rattle.std.specs.List.{flat_map}
use Rattle.std.specs.Int.Digits.{number_from_digits_after}
use Rattle.std.proofs.lemmas.List.{drop-drop, take_at, drop_at, get_or-take, get_or-drop, length-append}
use Rattle.std.proofs.lemmas.Int.{to_z-of_z}
use Rattle.algebra.specs.Row.{Row, part, tabulate, row_at, Within}
use Rattle.algebra.proofs.Places.{row_sized}
use Rattle.cells.specs.Calls.{carry_limit}
use Rattle.shapes.specs.Tree.{size}
use Rattle.formats.specs.Bytes.{bytes_at, unsigned, signed_eight, bytes_of, eight_bytes}
use Rattle.formats.specs.Publication.{publication_header, row_bytes, table_bytes, publication, place_of, publication_length, row_from, OfCells, Says, ReadsBack}
use Rattle.formats.proofs.Blocks.{byte_is, length-bytes_of, eight-long, block, row-long, table-length, table-block}
use Rattle.formats.proofs.Words.{bytes-taken, row-tabulate}

-- the bytes from an offset on, in a part of a list
pub bytes-within : (n at m off : ℕ) (xs : List ℕ) → at + n ≤ m → bytes_at (take m (drop off xs)) at n ≡ bytes_at xs (off + at) n
bytes-within zero at m off xs h = refl
bytes-within (suc n) at m off xs h =
    ap (λ x. x ∷ bytes_at (take m (drop off xs)) (at + 1) n) (get_or-take m (drop off xs) at 0 (omega arith) ∙ get_or-drop off xs at 0)
    ∙ ap (λ t. get_or xs (off + at) 0 ∷ t) (bytes-within n (at + 1) m off xs (omega arith) ∙ ap (λ k. bytes_at xs k n) (omega arith))

pow-some : (n : ℕ) → 0 < 256 ^ n
pow-some zero = omega arith
pow-some (suc n) = omega (arith, pow-some n, pow-succ' 256 n)

-- the number that the bytes of a number are
number-back : (n acc x : ℕ) → number_from_digits_after 256 acc (bytes_of n x) ≡ acc * 256 ^ n + x % 256 ^ n
unfolding bytes_of
number-back zero acc x = omega (arith, mul-one acc, mod-one x)
number-back (suc n) acc x =
    let d = x / 256 ^ n % 256 in
    let some : 0 < 256 ^ n = pow-some n in
    let few : 0 < 256 = omega arith in
    let split : x % (256 * 256 ^ n) ≡ d * 256 ^ n + x % 256 ^ n = mod-mul x few some in
    ap (λ y. number_from_digits_after 256 (acc * 256 + y) (bytes_of n x)) (byte_is n x)
    ∙ number-back n (acc * 256 + d) x
    ∙ omega (arith, add-mul (acc * 256) d (256 ^ n), mul_assoc acc 256 (256 ^ n), split)
    ∙ ap (λ m. acc * m + x % m) (sym (pow-succ' 256 n))

pub unsigned-back-four : (x : ℕ) → x < 2 ^ 32 → unsigned (bytes_of 4 x) ≡ x
unsigned-back-four x h = number-back 4 0 x ∙ omega (arith, mod-eq_of_lt h)

pub unsigned_back : (x : ℕ) → x < 2 ^ 64 → unsigned (bytes_of 8 x) ≡ x
unsigned_back x h = number-back 8 0 x ∙ omega (arith, mod-eq_of_lt h)

pub signed_back : (z : ℤ) → nat_abs z ≤ carry_limit → signed_eight (eight_bytes z) ≡ z
signed_back z h = ap (to_z w64) (unsigned_back (of_z w64 z) (small z h)) ∙ to_z-of_z w64 z (fits z h)
  where
    small : (z : ℤ) → nat_abs z ≤ carry_limit → of_z w64 z < 2 ^ 64
    small (pos n) h = omega arith
    small (negsuc n) h = omega arith

    fits : (z : ℤ) → nat_abs z ≤ carry_limit → SFits w64 z
    fits (pos n) h = record { sfits = omega arith }
    fits (negsuc n) h = record { sfits = omega arith }

-- a row whose bytes stand at an offset, each component in c bytes that are read as it
module _ (enc : ℤ → List ℕ) (dec : List ℕ → ℤ) (c : ℕ) (long : (x : ℤ) → length (enc x) ≡ c) where
  pub row-read : (w off : ℕ) (bytes : List ℕ) (r : Row) → length r ≡ w → ((i : ℕ) → dec (enc (part r i)) ≡ part r i)
      → take (c * w) (drop off bytes) ≡ flat_map enc r → tabulate w (λ i. dec (bytes_at bytes (off + c * i) c)) ≡ r
  row-read w off bytes r l back e = sym (row-tabulate w (λ i. dec (bytes_at bytes (off + c * i) c)) r l each)
    where
      each : (i : ℕ) → i < w → part r i ≡ dec (bytes_at bytes (off + c * i) c)
      each i h =
          let more : i + 1 ≤ w = omega arith in
          let inside : c * i + c ≤ c * w = omega (arith, mul-le-mul_left c more, mul-add c i 1, mul-one c) in
          let room : c * i + c ≤ length (flat_map enc r) = omega (arith, row-long enc c long r, ap (λ n. c * n) l) in
          sym (ap dec
          (sym (bytes-within c (c * i) (c * w) off bytes inside)
          ∙ ap (λ t. bytes_at t (c * i) c) e
          ∙ bytes-taken c (c * i) (flat_map enc r) room
          ∙ block enc c (pos 0) r (λ u k. long (part r u)) i (omega arith))
          ∙ back i)

pub row_in : (w off : ℕ) (bytes : List ℕ) (r : Row) → length r ≡ w → Within carry_limit r → take (8 * w) (drop off bytes) ≡ row_bytes r → row_from w bytes off ≡ r
row_in w off bytes r l within e = row-read eight_bytes signed_eight 8 eight-long w off bytes r l (λ i. signed_back (part r i) (within i)) e

pub header-length : (k b L D : ℕ) → length (publication_header k b L D) ≡ 16
header-length k b L D = omega (arith, length-bytes_of 8 D)

module _ (k w b L D : ℕ) (rows : ℕ → Row) (cells : OfCells w (size b L) rows) where
  abbrev head : List ℕ
  head = publication_header k b L D

  abbrev body : List ℕ
  body = table_bytes (size b L) rows

  sized : (v : ℕ) → v < size b L → length (rows v) ≡ w
  sized v h = (cells v h).0

  pub publication-length : length (publication k b L D rows) ≡ publication_length w (size b L)
  publication-length = length-append head body ∙ omega (arith, header-length k b L D, table-length w (size b L) rows sized)

  -- the bytes of one node
  pub node-bytes : (v : ℕ) → v < size b L → take (8 * w) (drop (place_of w v) (publication k b L D rows)) ≡ row_bytes (rows v)
  node-bytes v h =
      ap (take (8 * w)) (sym (drop-drop (8 * (w * v)) 16 (head ++ body)) ∙ ap (drop (8 * (w * v))) (drop_at head body 16 (header-length k b L D)))
      ∙ table-block w (size b L) rows sized v h

  pub says : D < 2 ^ 64 → Says (publication k b L D rows) k w b L D rows
  says small = record {
    whole = publication-length;
    kind = refl;
    fanout = refl;
    height = refl;
    denominator =
        ap unsigned (bytes-taken 8 8 (publication k b L D rows) (omega (arith, publication-length)) ∙ take_at (bytes_of 8 D) body 8 (length-bytes_of 8 D))
        ∙ unsigned_back D small;
    numerators = λ v h. row_in w (place_of w v) (publication k b L D rows) (rows v) (sized v h) (cells v h).1 (node-bytes v h);
  }

pub row-held : {K : Type 0} (row : K → Row) (limit : ℕ) → ((c : K) → Within limit (row c)) → (cells : List K) (v : ℕ) → Within limit (row_at row cells v)
row-held row limit held [] v i = omega arith
row-held row limit held (c ∷ cells) zero i = held c i
row-held row limit held (c ∷ cells) (suc v) i = row-held row limit held cells v i

pub reads-back : ReadsBack
reads-back k w b L D rows small cells = says k w b L D rows cells small

-- the first bytes of a buffer after a publication of cells was written there
pub written-reads : {K : Type 0} (row : K → Row) (k w b L D : ℕ) (cells : List K) (n : ℕ) (rest now : List ℕ)
    → ((c : K) → length (row c) ≡ w) → ((c : K) → Within carry_limit (row c)) → size b L ≤ length cells → D < 2 ^ 64 → n ≡ publication_length w (size b L)
    → now ≡ publication k b L D (row_at row cells) ++ rest → Says (take n now) k w b L D (row_at row cells)
written-reads row k w b L D cells n rest now sized held room small e p =
    let rows = row_at row cells in
    let of-cells : OfCells w (size b L) rows = λ v h. (row_sized row w sized cells v (omega arith), row-held row carry_limit held cells v) in
    let bytes : publication k b L D rows ≡ take n now
    = sym (ap (take n) p ∙ take_at (publication k b L D rows) rest n (publication-length k w b L D rows of-cells ∙ sym e)) in
    subst (λ (t : List ℕ). Says t k w b L D rows) bytes (reads-back k w b L D rows small of-cells)
