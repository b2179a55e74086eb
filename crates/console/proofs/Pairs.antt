-- Hex text as the specification has it and as the crate `hex` has it.
use Rattle.std.proofs.Common.{◌≡◌, ℕ, suc, ◌≤◌, inl, inr, ◌⊎◌, ◌+◌, ◌*◌, ◌/◌, ◌%◌, ◌<◌, true, false, List, [], ◌∷◌, length, slice_index, Some, Ok, Err, sym, refl, ap, ◌∙◌, arith}
use Rattle.std.specs.List.{AllPass, list_all}
use Rattle.std.specs.Str.Parse.{AllDigits}
use Rattle.std.specs.Char.{digit_char, digit_value, is_ascii_hexdigit}
use Rattle.std.proofs.lemmas.Bool.{cases_lt}
use Rattle.std.proofs.lemmas.Bool.Decides.{nat_tests}
use Rattle.std.proofs.lemmas.List.Elements.{All-head, All-tail}
use Rattle.hex.specs.Hex.{IsBytes, decode_of, decode_pairs, digit_or_error, encode_lower, encode_with, hex_digit_value, is_hex_digit, lower_digits, pair_value, value_at}
use Rattle.hex.specs.declared.error.FromHexError.{FromHexError}
use Rattle.hex.specs.declared.error.FromHexError.TheVariants.{InvalidHexCharacter, InvalidStringLength, OddLength, OutOfMemory}
use Rattle.console.specs.Mistakes.{hex_mistake}
use Rattle.console.specs.declared.mistake.Mistake.{Mistake}
use Rattle.console.specs.declared.mistake.Mistake.TheVariants.{NoHex, NoMemory}
use Rattle.hex.proofs.HexLemmas.{decode_of-encode_lower, decode_of-even, decode_of-ok, decode_of-same}
use Rattle.hex.proofs.Pairs.{cons_byte, decode_pairs-ok_pair}
use Rattle.console.specs.Hex.{Hex, ReadsBack, bytes_of, hex_text}

-- a digit
digit-some : (c : ℕ) → digit_value c < 16 → hex_digit_value c ≡ Some (digit_value c)
digit-some c h = grind (arith)

digit-low : (c : ℕ) → c < 65 → is_hex_digit c ≡ true → digit_value c < 16
digit-low c l h = grind (arith)

digit-upper : (c : ℕ) → 65 ≤ c → c < 97 → is_hex_digit c ≡ true → digit_value c < 16
digit-upper c l u h = grind (arith)

digit-lower : (c : ℕ) → 97 ≤ c → c < 103 → digit_value c < 16
digit-lower c l u = grind (arith, nat_tests)

no-digit : (c : ℕ) → 103 ≤ c → is_hex_digit c ≡ true → digit_value c < 16
no-digit c l h = grind (arith)

digit-small : (c : ℕ) → is_hex_digit c ≡ true → digit_value c < 16
digit-small c h =
    elim (cases_lt c 65) [
      | inl low ↦ digit-low c low h
      | inr high ↦ elim (cases_lt c 97) [
        | inl upper ↦ digit-upper c high upper h
        | inr lower ↦ elim (cases_lt c 103) [
          | inl last ↦ digit-lower c lower last
          | inr past ↦ no-digit c past h
        ]
      ]
    ]

digits-pass : (ds : List ℕ) → AllPass is_hex_digit ds → AllDigits 16 ds
digits-pass [] h = tt
digits-pass (c ∷ cs) h =
    (digit-small c (All-head (λ x. is_hex_digit x ≡ true) c cs h), digits-pass cs (All-tail (λ x. is_hex_digit x ≡ true) c cs h))

pair-read : (a b i : ℕ) → digit_value a < 16 → digit_value b < 16 → pair_value a b i ≡ Ok (digit_value a * 16 + digit_value b)
pair-read a b i ha hb =
    let ea : value_at a i ≡ Ok (digit_value a) = ap (digit_or_error a i) (digit-some a ha) in
    let eb : value_at b (i + 1) ≡ Ok (digit_value b) = ap (digit_or_error b (i + 1)) (digit-some b hb) in
    rw (ea, eb) refl

pairs-read : (i : ℕ) (ds : List ℕ) → length ds % 2 ≡ 0 → AllDigits 16 ds → decode_pairs i ds ≡ Ok (bytes_of ds)
unfolding decode_pairs
pairs-read i [] even d = refl
pairs-read i (a ∷ []) even d = absurd (omega arith)
pairs-read i (a ∷ b ∷ rest) even d =
    let byte : digit_value a * 16 + digit_value b ≡ 16 * digit_value a + digit_value b = omega arith in
    decode_pairs-ok_pair i a b _ rest (pair-read a b i d.0 d.1.0)
    ∙ ap (cons_byte (digit_value a * 16 + digit_value b)) (pairs-read (i + 2) rest (omega arith) d.1.1)
    ∙ ap (λ (v : ℕ). Ok (v ∷ bytes_of rest)) byte

-- what is decoded
pub decoded : (ds : List ℕ) → Hex ds → decode_of ds ≡ Ok (bytes_of ds)
decoded ds h = decode_of-even ds h.0 ∙ pairs-read 0 ds h.0 h.1

pub decoded-hex : (ds bytes : List ℕ) → decode_of ds ≡ Ok bytes → Hex ds × (bytes ≡ bytes_of ds)
decoded-hex ds bytes e =
    let ok = decode_of-ok ds bytes e in
    let h : Hex ds = (ok.0, digits-pass ds ok.1) in
    (h, decode_of-same ds bytes (bytes_of ds) e (decoded ds h))

not-hex : (ds : List ℕ) (e : FromHexError) → decode_of ds ≡ Err e → Hex ds → ⊥
not-hex ds e wrong h = let right = decoded ds h in cc

-- the error of a word that is not read
pub hex-refused : (ds : List ℕ) (e : FromHexError) (m : Mistake) → m ≡ hex_mistake e → (e ≡ OutOfMemory) ⊎ (decode_of ds ≡ Err e)
    → (m ≡ NoMemory) ⊎ ((m ≡ NoHex) × (Hex ds → ⊥))
hex-refused ds OutOfMemory m s w = inl s
hex-refused ds (InvalidHexCharacter c i) m s (inl e) = cc
hex-refused ds (InvalidHexCharacter c i) m s (inr e) = inr (s, not-hex ds (InvalidHexCharacter c i) e)
hex-refused ds OddLength m s (inl e) = cc
hex-refused ds OddLength m s (inr e) = inr (s, not-hex ds OddLength e)
hex-refused ds InvalidStringLength m s (inl e) = cc
hex-refused ds InvalidStringLength m s (inr e) = inr (s, not-hex ds InvalidStringLength e)

-- a word with another character than a digit
digit-passes : (c : ℕ) → digit_value c < 16 → is_ascii_hexdigit c ≡ true
digit-passes c h = grind (arith)

pass-digits : (ds : List ℕ) → AllDigits 16 ds → list_all is_ascii_hexdigit ds ≡ true
pass-digits [] h = refl
pass-digits (c ∷ cs) h = rw (digit-passes c h.0, pass-digits cs h.1) refl

pub no-digits : (ds : List ℕ) → list_all is_ascii_hexdigit ds ≡ false → Hex ds → ⊥
no-digits ds wrong h = let right = pass-digits ds h.1 in cc

-- what is encoded
digit-glyph : (d : ℕ) → d < 16 → slice_index lower_digits d ≡ digit_char d
digit-glyph d h = grind (arith)

pub encoded : (bs : List ℕ) → IsBytes bs → encode_lower bs ≡ hex_text bs
unfolding encode_with
encoded [] h = refl
encoded (b ∷ rest) h =
    let l : b < 256 = h 0 in
    λ i. digit-glyph (b / 16) (omega arith) i ∷ digit-glyph (b % 16) (omega arith) i ∷ encoded rest (λ k. h (suc k)) i

pub reads-back : (bs : List ℕ) → IsBytes bs → ReadsBack bs
reads-back bs h =
    let back = decoded-hex (hex_text bs) bs (ap decode_of (sym (encoded bs h)) ∙ decode_of-encode_lower bs h) in
    record { hex = back.0; same = sym back.1 }
