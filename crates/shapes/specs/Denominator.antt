-- The common denominator of a shape.
use Rattle.std.specs.Prelude.{ℕ, ◌-◌, ◌≤◌, List, [], ◌∷◌, slice_index, slice_index_or}
use Rattle.std.specs.Int.{◌∣◌}
use Rattle.shapes.specs.Tree.{size}

-- D is the least common multiple of S_1 to S_L: a multiple of each, and a divisor of every common multiple.
pub record Least (b L D : ℕ) : Type 0 where
  pub each : (k : ℕ) → 1 ≤ k → k ≤ L → size b k ∣ D
  pub least : (m : ℕ) → ((k : ℕ) → 1 ≤ k → k ≤ L → size b k ∣ m) → D ∣ m

-- the largest of the denominators, at fan-out 2 and height 10
abbrev pub largest : ℕ
largest = 16929355905

pub record Denominator (b L D : ℕ) : Type 0 where
  pub lcm : Least b L D
  pub low : 1 ≤ D
  pub high : D ≤ largest

-- The table of the denominators: a row for each fan-out from 2 on, an entry for each height from 1 on, and 0 where there is no shape.
abbrev pub denominators : List (List ℕ)
denominators =
    (1 ∷ 3 ∷ 21 ∷ 105 ∷ 3255 ∷ 9765 ∷ 1240155 ∷ 21082635 ∷ 1539032355 ∷ 16929355905 ∷ [])
    ∷ (1 ∷ 4 ∷ 52 ∷ 520 ∷ 62920 ∷ 440440 ∷ 0 ∷ 0 ∷ 0 ∷ 0 ∷ [])
    ∷ (1 ∷ 5 ∷ 105 ∷ 1785 ∷ 608685 ∷ 0 ∷ 0 ∷ 0 ∷ 0 ∷ 0 ∷ [])
    ∷ (1 ∷ 6 ∷ 186 ∷ 4836 ∷ 3776916 ∷ 0 ∷ 0 ∷ 0 ∷ 0 ∷ 0 ∷ [])
    ∷ (1 ∷ 7 ∷ 301 ∷ 11137 ∷ 0 ∷ 0 ∷ 0 ∷ 0 ∷ 0 ∷ 0 ∷ [])
    ∷ (1 ∷ 8 ∷ 456 ∷ 22800 ∷ 0 ∷ 0 ∷ 0 ∷ 0 ∷ 0 ∷ 0 ∷ [])
    ∷ (1 ∷ 9 ∷ 657 ∷ 42705 ∷ 0 ∷ 0 ∷ 0 ∷ 0 ∷ 0 ∷ 0 ∷ [])
    ∷ (1 ∷ 10 ∷ 910 ∷ 74620 ∷ 0 ∷ 0 ∷ 0 ∷ 0 ∷ 0 ∷ 0 ∷ [])
    ∷ (1 ∷ 11 ∷ 1221 ∷ 0 ∷ 0 ∷ 0 ∷ 0 ∷ 0 ∷ 0 ∷ 0 ∷ [])
    ∷ (1 ∷ 12 ∷ 1596 ∷ 0 ∷ 0 ∷ 0 ∷ 0 ∷ 0 ∷ 0 ∷ 0 ∷ [])
    ∷ (1 ∷ 13 ∷ 2041 ∷ 0 ∷ 0 ∷ 0 ∷ 0 ∷ 0 ∷ 0 ∷ 0 ∷ [])
    ∷ (1 ∷ 14 ∷ 2562 ∷ 0 ∷ 0 ∷ 0 ∷ 0 ∷ 0 ∷ 0 ∷ 0 ∷ [])
    ∷ (1 ∷ 15 ∷ 3165 ∷ 0 ∷ 0 ∷ 0 ∷ 0 ∷ 0 ∷ 0 ∷ 0 ∷ [])
    ∷ (1 ∷ 16 ∷ 3856 ∷ 0 ∷ 0 ∷ 0 ∷ 0 ∷ 0 ∷ 0 ∷ 0 ∷ [])
    ∷ (1 ∷ 17 ∷ 4641 ∷ 0 ∷ 0 ∷ 0 ∷ 0 ∷ 0 ∷ 0 ∷ 0 ∷ [])
    ∷ []

abbrev pub denominator_of : ℕ → ℕ → ℕ
denominator_of b L = slice_index (slice_index_or denominators (b - 2) []) (L - 1)
