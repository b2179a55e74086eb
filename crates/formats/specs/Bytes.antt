-- Bytes that are read as numbers, and numbers that are written as bytes, the most significant byte first.
use Rattle.std.specs.Prelude.{ℕ, zero, suc, ◌+◌, ◌*◌, ◌<◌, List, [], ◌∷◌, ℤ, slice_index}
use Rattle.std.specs.Int.{w32, w64, cast_signed, cast_unsigned, bytes_high_first}
use Rattle.std.specs.Int.Digits.{number_from_digits}
use Rattle.std.specs.List.{AllByRecursion}

-- Numbers that are bytes.
abbrev pub AreBytes : List ℕ → Type 0
AreBytes bytes = AllByRecursion (λ x. x < 256) bytes

-- The n bytes from an offset on.
abbrev pub bytes_at : List ℕ → ℕ → ℕ → List ℕ
bytes_at bytes at zero = []
bytes_at bytes at (suc n) = slice_index bytes at ∷ bytes_at bytes (at + 1) n

abbrev pub unsigned : List ℕ → ℕ
unsigned bytes = number_from_digits 256 bytes

-- Four bytes, in two's complement.
abbrev pub signed : List ℕ → ℤ
signed bytes = cast_signed w32 (unsigned bytes)

-- Number n, from 0, of the signed numbers of four bytes that stand one after another.
abbrev pub word : List ℕ → ℕ → ℤ
word bytes n = signed (bytes_at bytes (4 * n) 4)

-- Eight bytes, in two's complement.
abbrev pub signed_eight : List ℕ → ℤ
signed_eight bytes = cast_signed w64 (unsigned bytes)

-- The lowest n bytes of a number.
unfoldable pub bytes_of : ℕ → ℕ → List ℕ
bytes_of n x = bytes_high_first n x

-- The four bytes of a signed number, in two's complement.
abbrev pub four_bytes : ℤ → List ℕ
four_bytes x = bytes_of 4 (cast_unsigned w32 x)

-- The eight bytes of a signed number, in two's complement.
abbrev pub eight_bytes : ℤ → List ℕ
eight_bytes x = bytes_of 8 (cast_unsigned w64 x)
