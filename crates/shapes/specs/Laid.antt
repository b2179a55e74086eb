-- Which shapes there are, why others are refused, and the largest count that a shape takes.
use Rattle.std.specs.Prelude.{ℕ, ◌≤◌, not, ◌&&◌, List, [], ◌∷◌, nat_le, nat_lt}
use Rattle.denial.specs.Rules.{Rule, rule}
use Rattle.denial.specs.declared.reason.Reason.TheVariants.{FanoutRange, HeightRange, TooManyNodes}
use Rattle.shapes.specs.Tree.{size}

abbrev pub Shapely : ℕ → ℕ → Type 0
Shapely b L = (2 ≤ b) × (b ≤ 16) × (1 ≤ L) × (L ≤ 10) × (size b L ≤ 1023)

abbrev pub shape_rules : ℕ → ℕ → List Rule
shape_rules b L =
    rule (not (nat_le 2 b && nat_le b 16)) FanoutRange b
    ∷ rule (not (nat_le 1 L && nat_le L 10)) HeightRange L
    ∷ rule (nat_lt 1023 (size b L)) TooManyNodes 0
    ∷ []

-- No component of a count is larger, up to its sign. It is the same for every shape.
abbrev pub entry_limit : ℕ → ℕ → ℕ
entry_limit b L = 1000000
