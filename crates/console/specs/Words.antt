-- What words write.
use Rattle.std.specs.Prelude.{◌≡◌, ℕ, ◌^◌, ◌<◌, ◌≤◌, List, [], map, length, ℤ, FitsSigned, slice_index_or, unsigned_abs}
use Rattle.std.specs.Borrow.{Bor}
use Rattle.std.specs.Int.{w64}
use Rattle.std.specs.Str.Parse.{IsNumeral, without_leading_plus, without_leading_sign, signed_digits_value, digits_value}
use Rattle.algebra.specs.Row.{Row, part}
use Rattle.cells.specs.Calls.{carry_limit}

-- A word writes a number of at most k bits in decimal; a `+` may stand in front.
pub record Number (k : ℕ) (word : List ℕ) (n : ℕ) : Type 0 where
  pub numeral : IsNumeral 10 (without_leading_plus word)
  pub written : n ≡ digits_value 10 (without_leading_plus word)
  pub fits : n < 2 ^ k

-- The same of a number of 64 bits that may be negative.
pub record Integer (word : List ℕ) (x : ℤ) : Type 0 where
  pub numeral : IsNumeral 10 (without_leading_sign word)
  pub written : x ≡ signed_digits_value 10 word
  pub fits : FitsSigned w64 x

-- A word writes a component of a cell.
pub record Component (word : List ℕ) (x : ℤ) : Type 0 where
  pub integer : Integer word x
  pub within : unsigned_abs x ≤ carry_limit

-- Words write the w components of a row.
pub record Components (w : ℕ) (words : List (List ℕ)) (row : Row) : Type 0 where
  pub count : length words ≡ w
  pub each : (k : ℕ) → k < w → Component (slice_index_or words k []) (part row k)

-- The words that a slice of texts holds.
abbrev pub texts : List (Bor (List ℕ)) → List (List ℕ)
texts words = map (λ w. w.now) words
