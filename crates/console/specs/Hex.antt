-- Bytes as pairs of hex digits, as codes of characters.
use Rattle.std.specs.Prelude.{◌≡◌, ℕ, ◌+◌, ◌*◌, ◌/◌, ◌%◌, List, [], ◌∷◌, length}
use Rattle.std.specs.List.{flat_map}
use Rattle.std.specs.Str.Parse.{AllDigits}
use Rattle.std.specs.Char.{digit_char, digit_value}

-- A byte as two digits in lower case.
abbrev pub hex_byte : ℕ → List ℕ
hex_byte b = digit_char (b / 16) ∷ digit_char (b % 16) ∷ []

abbrev pub hex_text : List ℕ → List ℕ
hex_text bytes = flat_map hex_byte bytes

-- Pairs of hex digits, in either case.
abbrev pub Hex : List ℕ → Type 0
Hex digits = (length digits % 2 ≡ 0) × AllDigits 16 digits

-- The bytes that such pairs write.
abbrev pub bytes_of : List ℕ → List ℕ
bytes_of [] = []
bytes_of (x ∷ []) = []
bytes_of (x ∷ y ∷ rest) = (16 * digit_value x + digit_value y) ∷ bytes_of rest

-- The text of these bytes is read as these bytes again.
pub record ReadsBack (bytes : List ℕ) : Type 0 where
  pub hex : Hex (hex_text bytes)
  pub same : bytes_of (hex_text bytes) ≡ bytes
