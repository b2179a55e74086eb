-- The nearest whole number to a fraction n/d.
use Rattle.std.specs.Prelude.{◌≡◌, ℕ, suc, ◌+◌, ◌*◌, ◌/◌, ◌<◌, ◌≤◌, List, [], ◌∷◌, ℤ, pos, negsuc, ◌-ℤ◌, ◌*ℤ◌, neg_ℤ, ◌==◌, unsigned_abs}
use Rattle.denial.specs.Rules.{Rule, rule}
use Rattle.denial.specs.declared.reason.Reason.TheVariants.{ZeroDenominator}

-- Nothing is over 0.
abbrev pub nearest_rules : ℕ → List Rule
nearest_rules d = rule (d == 0) ZeroDenominator 0 ∷ []

-- d times the distance between n/d and r.
abbrev pub gap : ℤ → ℕ → ℤ → ℕ
gap n d r = unsigned_abs (n -ℤ pos d *ℤ r)

-- The rule for a half: of its two neighbours it goes to the one away from zero.
abbrev pub Half : ℤ → ℕ → ℤ → Type 0
Half n d r = unsigned_abs n < d * unsigned_abs r

-- r lies at most a half from n/d, and where it lies a half from it, r is the neighbour that the rule for halves takes.
pub record NearestWhole (n : ℤ) (d : ℕ) (r : ℤ) : Type 0 where
  pub near : 2 * gap n d r ≤ d
  pub half : 2 * gap n d r ≡ d → Half n d r

-- No fraction has two nearest whole numbers.
abbrev pub OneNearest : ℤ → ℕ → Type 0
OneNearest n d = (r s : ℤ) → NearestWhole n d r → NearestWhole n d s → r ≡ s

-- The size of the answer for a fraction of the size m/d.
abbrev pub nearest_size : ℕ → ℕ → ℕ
nearest_size m d = (2 * m + d) / (2 * d)

-- The answer, by the sign of n and the size.
abbrev pub nearest : ℤ → ℕ → ℤ
nearest (pos m) d = pos (nearest_size m d)
nearest (negsuc m) d = neg_ℤ (pos (nearest_size (suc m) d))
