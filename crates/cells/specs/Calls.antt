-- The refusals of a kind's calls.
use Rattle.std.specs.Prelude.{ℕ, List, [], ◌∷◌, ℤ, nat_le, nat_lt, unsigned_abs}
use Rattle.algebra.specs.Row.{Row, beyond}
use Rattle.denial.specs.Rules.{Rule, rule, rule_at}
use Rattle.denial.specs.declared.reason.Reason.TheVariants.{BeyondCarryLimit, NoSuchComponent}

-- No component of a cell is larger, up to its sign.
abbrev pub carry_limit : ℕ
carry_limit = 4000000000000000000

-- Asking a cell of width w for component i.
abbrev pub component_rules : ℕ → ℕ → List Rule
component_rules w i = rule (nat_le w i) NoSuchComponent i ∷ []

-- Putting x at component i of a cell of width w.
abbrev pub replace_rules : ℕ → ℕ → ℤ → List Rule
replace_rules w i x =
    rule (nat_le w i) NoSuchComponent i
    ∷ rule (nat_lt carry_limit (unsigned_abs x)) BeyondCarryLimit i
    ∷ []

-- Making the cell of a row.
abbrev pub carry_rules : Row → List Rule
carry_rules r = rule_at BeyondCarryLimit (beyond carry_limit r) ∷ []
