-- Bytes are made up again of what is read out of them.
use Rattle.std.proofs.Common.{◌≡◌, ℕ, zero, suc, ◌+◌, ◌*◌, ◌/◌, ◌%◌, ◌^◌, ◌<◌, ◌≤◌, List, [], ◌∷◌, ◌++◌, length, get_or, take, drop, ℤ, pos, None, sym, refl, ap, ◌∙◌, subst, mul_assoc, add-mul, mul-le-mul_left, zero-add, mul-one, mul-add, arith, w32, w64, to_z, of_z}
use native.Mathlib.Nat.{pow-succ'}
use lib.Arith.{digits_div, digits_mod}
use mir.Syntax.{Width}
use mir.Val.{bits}
use Rattle.std.specs.List.{range_with_len, flat_map}
use Rattle.std.specs.Int.Digits.{number_from_digits, number_from_digits_after}
use Rattle.std.proofs.lemmas.List.FromFn.{length-range_with_len, get_or-range_with_len}
use Rattle.std.proofs.lemmas.Int.Digits.{number_lt}
use Rattle.std.proofs.ByRecursion.{All-take, All-drop}
use Rattle.std.proofs.lemmas.List.{drop-drop, take-append-drop, length-drop, length-take-le}
use Rattle.std.proofs.lemmas.Int.{of_z-to_z}
use Rattle.algebra.specs.Row.{Row, tabulate}
use Rattle.algebra.proofs.Rows.{tabulate-length}
use Rattle.denial.specs.Rules.{Rule, first}
use Rattle.shapes.specs.Tree.{size}
use Rattle.formats.specs.Bytes.{AreBytes, bytes_at, unsigned, signed, signed_eight, bytes_of, four_bytes, eight_bytes}
use Rattle.formats.specs.NoisyTable.{kind_in, fanout_in, height_in, mark_rules}
use Rattle.formats.specs.Publication.{publication_mark, publication_header, row_bytes, place_of, OnePublication}
use Rattle.formats.proofs.Blocks.{byte_is, blocks-made}
use Rattle.formats.proofs.Overlay.{place-room}
use Rattle.formats.proofs.ReadBack.{bytes-within}
use Rattle.formats.proofs.Words.{bytes-taken, part-tabulate}

-- the number that bytes write after an earlier one
number-after : (n : ℕ) (bs : List ℕ) → number_from_digits_after 256 n bs ≡ n * 256 ^ length bs + number_from_digits 256 bs
number-after n [] = omega (arith, mul-one n)
number-after n (x ∷ bs) =
    let P = 256 ^ length bs in
    let alone : number_from_digits 256 (x ∷ bs) ≡ x * P + number_from_digits 256 bs = ap (λ m. number_from_digits_after 256 m bs) (zero-add x) ∙ number-after x bs in
    number-after (n * 256 + x) bs
    ∙ omega (arith, add-mul (n * 256) x P, mul_assoc n 256 P)
    ∙ ap (λ m. n * m + number_from_digits 256 (x ∷ bs)) (sym (pow-succ' 256 (length bs)))

-- the bytes of the number that bytes write
bytes-again : (n acc : ℕ) (bs : List ℕ) → length bs ≡ n → AreBytes bs → bytes_of n (number_from_digits_after 256 acc bs) ≡ bs
unfolding bytes_of
bytes-again zero acc [] l u = refl
bytes-again zero acc (x ∷ bs) l u = absurd (omega arith)
bytes-again (suc n) acc [] l u = absurd (omega arith)
bytes-again (suc n) acc (x ∷ bs) l u =
    let a = acc * 256 + x in
    let k : length bs ≡ n = omega arith in
    let small : number_from_digits 256 bs < 256 ^ n = subst (λ m. number_from_digits 256 bs < 256 ^ m) k (number_lt 256 bs u.1) in
    let high : number_from_digits_after 256 a bs / 256 ^ n ≡ a
    = ap (λ m. m / 256 ^ n) (number-after a bs ∙ ap (λ m. a * 256 ^ m + number_from_digits 256 bs) k) ∙ digits_div a small in
    λ i. (byte_is n (number_from_digits_after 256 a bs) ∙ ap (λ m. m % 256) high ∙ digits_mod acc u.0) i ∷ bytes-again n a bs k u.1 i

-- the same of a signed number
signed-again : (w : Width) (n : ℕ) → 256 ^ n ≡ 2 ^ bits w → (bs : List ℕ) → length bs ≡ n → AreBytes bs → bytes_of n (of_z w (to_z w (unsigned bs))) ≡ bs
signed-again w n e bs l u =
    ap (bytes_of n) (of_z-to_z w (unsigned bs) (subst (λ m. unsigned bs < m) (ap (λ m. 256 ^ m) l ∙ e) (number_lt 256 bs u))) ∙ bytes-again n 0 bs l u

length-bytes_at : (n at : ℕ) (bytes : List ℕ) → length (bytes_at bytes at n) ≡ n
length-bytes_at zero at bytes = refl
length-bytes_at (suc n) at bytes = ap suc (length-bytes_at n (at + 1) bytes)

bytes_at-bytes : (n at : ℕ) (bytes : List ℕ) → at + n ≤ length bytes → AreBytes bytes → AreBytes (bytes_at bytes at n)
bytes_at-bytes n at bytes h u =
    subst AreBytes (sym (bytes-taken n at bytes h)) (All-take (λ x. x < 256) n (drop at bytes) (All-drop (λ x. x < 256) at bytes u))

-- components of c bytes, each of which is written as it is read
module _ (enc : ℤ → List ℕ) (dec : List ℕ → ℤ) (c : ℕ) (again : (bs : List ℕ) → length bs ≡ c → AreBytes bs → enc (dec bs) ≡ bs) where
  -- a row
  pub row_made : (w off : ℕ) (bytes : List ℕ) → AreBytes bytes → off + c * w ≤ length bytes
      → flat_map enc (tabulate w (λ i. dec (bytes_at bytes (off + c * i) c))) ≡ take (c * w) (drop off bytes)
  row_made w off bytes u room =
      let f : ℕ → ℤ = λ i. dec (bytes_at bytes (off + c * i) c) in
      let part = take (c * w) (drop off bytes) in
      let long : length part ≡ c * w = length-take-le (c * w) (drop off bytes) (omega (arith, length-drop off bytes)) in
      blocks-made enc c (pos 0) (tabulate w f) part (long ∙ ap (λ n. c * n) (sym (tabulate-length w f))) each
    where
      each : (i : ℕ) → i < length (tabulate w (λ i. dec (bytes_at bytes (off + c * i) c)))
          → take c (drop (c * i) (take (c * w) (drop off bytes))) ≡ enc (get_or (tabulate w (λ i. dec (bytes_at bytes (off + c * i) c))) i (pos 0))
      each i h =
          let f : ℕ → ℤ = λ i. dec (bytes_at bytes (off + c * i) c) in
          let part = take (c * w) (drop off bytes) in
          let k : i < w = omega (arith, tabulate-length w f) in
          let more : i + 1 ≤ w = omega arith in
          let inside : c * i + c ≤ c * w = omega (arith, mul-le-mul_left c more, mul-add c i 1, mul-one c) in
          let long : length part ≡ c * w = length-take-le (c * w) (drop off bytes) (omega (arith, length-drop off bytes)) in
          sym (bytes-taken c (c * i) part (omega arith)) ∙ bytes-within c (c * i) (c * w) off bytes inside
          ∙ sym (again (bytes_at bytes (off + c * i) c) (length-bytes_at c (off + c * i) bytes) (bytes_at-bytes c (off + c * i) bytes (omega arith) u))
          ∙ sym (ap enc (part-tabulate w f i k))

  -- a table
  pub table-made : (w n : ℕ) (rows : ℕ → Row) (body : List ℕ) → length body ≡ c * (w * n)
      → ((v : ℕ) → v < n → flat_map enc (rows v) ≡ take (c * w) (drop (c * (w * v)) body)) → flat_map (λ v. flat_map enc (rows v)) (range_with_len 0 n) ≡ body
  table-made w n rows body l h =
      blocks-made (λ v. flat_map enc (rows v)) (c * w) 0 (range_with_len 0 n) body (l ∙ sym (mul_assoc c w n) ∙ ap (λ m. c * w * m) (sym (length-range_with_len 0 n)))
      (λ v k.
      let inside : v < n = omega (arith, length-range_with_len 0 n) in
      ap (λ m. take (c * w) (drop m body)) (mul_assoc c w v) ∙ sym (h v inside)
      ∙ ap (λ u. flat_map enc (rows u)) (sym (get_or-range_with_len 0 n v 0 inside ∙ zero-add v)))

pub four-again : (bs : List ℕ) → length bs ≡ 4 → AreBytes bs → four_bytes (signed bs) ≡ bs
four-again bs l u = signed-again w32 4 refl bs l u

pub eight-again : (bs : List ℕ) → length bs ≡ 8 → AreBytes bs → eight_bytes (signed_eight bs) ≡ bs
eight-again bs l u = signed-again w64 8 refl bs l u

-- the rows of a table after its first
pub rest-none : (x : Rule) (xs : List Rule) → first (x ∷ xs) ≡ None → first xs ≡ None
rest-none x xs e = grind arith

-- a header that begins with a mark and the version
module _ (m₀ m₁ m₂ : ℕ) where
  mark-same : (x₀ x₁ x₂ x₃ x₄ : ℕ) → first (mark_rules (m₀ ∷ m₁ ∷ m₂ ∷ []) (x₀ ∷ x₁ ∷ x₂ ∷ x₃ ∷ x₄ ∷ [])) ≡ None
      → x₀ ∷ x₁ ∷ x₂ ∷ x₃ ∷ x₄ ∷ [] ≡ m₀ ∷ m₁ ∷ m₂ ∷ 0 ∷ 1 ∷ []
  mark-same x₀ x₁ x₂ x₃ x₄ e =
      let p : x₀ ≡ m₀ = grind arith in
      let q : x₁ ≡ m₁ = grind arith in
      let r : x₂ ≡ m₂ = grind arith in
      let s : (0 * 256 + x₃) * 256 + x₄ ≡ 1 = grind arith in
      let high : x₃ ≡ 0 = omega arith in
      let low : x₄ ≡ 1 = omega arith in
      λ i. p i ∷ q i ∷ r i ∷ high i ∷ low i ∷ []

  pub front-made : (bytes rest : List ℕ) (k b L : ℕ) → first (mark_rules (m₀ ∷ m₁ ∷ m₂ ∷ []) bytes) ≡ None
      → kind_in bytes ≡ k → fanout_in bytes ≡ b → height_in bytes ≡ L
      → bytes_at bytes 0 8 ++ rest ≡ m₀ ∷ m₁ ∷ m₂ ∷ 0 ∷ 1 ∷ k ∷ b ∷ L ∷ rest
  front-made bytes rest k b L e p q r =
      let same = mark-same (get_or bytes 0 0) (get_or bytes 1 0) (get_or bytes 2 0) (get_or bytes 3 0) (get_or bytes 4 0) e in
      λ i. same i ++ (p i ∷ q i ∷ r i ∷ rest)

pub one-publication : OnePublication
one-publication bytes k w b L D rows u header said =
    let n = size b L in
    let body = drop 16 bytes in
    let long : length (drop 16 bytes) ≡ 8 * (w * n) = length-drop 16 bytes ∙ omega (arith, said.whole) in
    let denominator : bytes_at bytes 8 8 ≡ bytes_of 8 D
    = sym (bytes-again 8 0 (bytes_at bytes 8 8) (length-bytes_at 8 8 bytes) (bytes_at-bytes 8 8 bytes (omega (arith, said.whole)) u)) ∙ ap (bytes_of 8) said.denominator in
    let marked = rest-none _ (mark_rules publication_mark bytes) header in
    let head : take 16 bytes ≡ publication_header k b L D
    = sym (bytes-taken 16 0 bytes (omega (arith, said.whole)))
    ∙ front-made 72 67 82 bytes (bytes_at bytes 8 8) k b L marked said.kind said.fanout said.height
    ∙ ap (λ t. 72 ∷ 67 ∷ 82 ∷ 0 ∷ 1 ∷ k ∷ b ∷ L ∷ t) denominator in
    let each : (v : ℕ) → v < n → row_bytes (rows v) ≡ take (8 * w) (drop (8 * (w * v)) (drop 16 bytes))
    = λ v h.
    sym (ap row_bytes (said.numerators v h))
    ∙ row_made eight_bytes signed_eight 8 eight-again w (place_of w v) bytes u (place-room w v n (length bytes) h (omega (arith, said.whole)))
    ∙ ap (take (8 * w)) (sym (drop-drop (8 * (w * v)) 16 bytes)) in
    sym (take-append-drop 16 bytes) ∙ (λ i. head i ++ sym (table-made eight_bytes signed_eight 8 eight-again w n rows body long each) i)
