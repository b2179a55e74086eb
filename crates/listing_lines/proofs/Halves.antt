-- The nearest whole number by its quotient and remainder, that it is one, and that there is no other.
use Rattle.std.proofs.Common.{◌≡◌, ℕ, zero, suc, ◌+◌, ◌-◌, ◌*◌, ◌/◌, ◌%◌, ◌<◌, ◌≤◌, cond, leb, ℤ, pos, negsuc, neg_ℤ, nat_abs, ◌≤ℤ◌, ◌<ℤ◌, Some, None, sym, ap, ◌∙◌, subst, inl, inr, mul-le-mul_left, arith}
use mir.Val.{bool_byte}
use Rattle.std.proofs.lemmas.Nat.{div-add-mod', div-mul-add, mod_below}
use Rattle.std.proofs.lemmas.Int.{ints, by_lt_z}
use Rattle.std.proofs.lemmas.Bool.{le-leb, lt-leb, ne_eqb, cases_lt}
use Rattle.denial.specs.Rules.{first, denied}
use Rattle.denial.specs.declared.reason.Reason.TheVariants.{ZeroDenominator}
use Rattle.listing_lines.specs.Nearest.{NearestWhole, OneNearest, gap, nearest, nearest_rules, nearest_size}

module _ (m d : ℕ) where
  quotient-is : (k r : ℕ) → r < 2 * d → 2 * m + d ≡ k * (2 * d) + r → k ≡ nearest_size m d
  quotient-is k r l e = sym (div-mul-add k (2 * d) r l) ∙ ap (λ x. x / (2 * d)) (sym e)

  -- the quotient, and one more where the remainder is a half or more
  pub rounded : (b : ℕ) → 0 < d → b ≡ bool_byte (leb (d - m % d) (m % d)) → m / d + b ≡ nearest_size m d
  rounded b p e =
      let whole : m / d * d + m % d ≡ m = div-add-mod' m d in
      let below : m % d < d = mod_below m d p in
      elim (cases_lt (m % d) (d - m % d)) [
        | inl l ↦
            let none : b ≡ 0 = e ∙ ap bool_byte (lt-leb (d - m % d) (m % d) l) in
            ap (λ x. m / d + x) none ∙ quotient-is (m / d + 0) (2 * (m % d) + d) (omega arith) (omega arith)
        | inr l ↦
            let one : b ≡ 1 = e ∙ ap bool_byte (le-leb (d - m % d) (m % d) l) in
            ap (λ x. m / d + x) one ∙ quotient-is (m / d + 1) (2 * (m % d) - d) (omega arith) (omega arith)
      ]

  -- nearest_size m d lies at most a half from m/d, and a half only from below
  pub size-near : 0 < d → (2 * (d * nearest_size m d) ≤ 2 * m + d) × (2 * m < 2 * (d * nearest_size m d) + d)
  size-near p =
      let whole : nearest_size m d * (2 * d) + (2 * m + d) % (2 * d) ≡ 2 * m + d = div-add-mod' (2 * m + d) (2 * d) in
      let below : (2 * m + d) % (2 * d) < 2 * d = mod_below (2 * m + d) (2 * d) (omega arith) in
      let e : nearest_size m d * (2 * d) ≡ 2 * (d * nearest_size m d) = omega arith in
      (omega arith, omega arith)

-- k is a nearest size for m/d
abbrev Near : ℕ → ℕ → ℕ → Type 0
Near m d k = (2 * (d * k) ≤ 2 * m + d) × (2 * m < 2 * (d * k) + d)

positive : (m d k : ℕ) → Near m d k → NearestWhole (pos m) d (pos k)
positive m d k (l, h) = record { near = omega (arith, ints); half = λ e. omega (arith, ints) }

negative : (m d k : ℕ) → Near (suc m) d k → NearestWhole (negsuc m) d (neg_ℤ (pos k))
negative m d zero (l, h) = record { near = omega (arith, ints); half = λ e. omega (arith, ints) }
negative m d (suc k) (l, h) = record { near = omega (arith, ints); half = λ e. omega (arith, ints) }

pub nearest-whole : (n : ℤ) (d : ℕ) → 0 < d → NearestWhole n d (nearest n d)
nearest-whole (pos m) d p = positive m d (nearest_size m d) (size-near m d p)
nearest-whole (negsuc m) d p = negative m d (nearest_size (suc m) d) (size-near (suc m) d p)

-- of two nearest whole numbers the fraction would lie in the middle, and both would be the one away from zero
ordered : (n : ℤ) (d : ℕ) (r s : ℤ) → r <ℤ s → NearestWhole n d r → NearestWhole n d s → ⊥
ordered n d (pos a) (pos b) l R S =
    let far : d * suc a ≤ d * b = mul-le-mul_left d (omega (arith, ints)) in
    let e : 2 * gap n d (pos a) ≡ d = omega (arith, ints, R.near, S.near) in
    let f : 2 * gap n d (pos b) ≡ d = omega (arith, ints, R.near, S.near) in
    omega (arith, ints, R.half e, S.half f)
ordered n d (pos a) (negsuc b) l R S = omega (arith, ints)
ordered n d (negsuc a) (pos b) l R S =
    let e : 2 * gap n d (negsuc a) ≡ d = omega (arith, ints, R.near, S.near) in
    let f : 2 * gap n d (pos b) ≡ d = omega (arith, ints, R.near, S.near) in
    omega (arith, ints, R.half e, S.half f)
ordered n d (negsuc a) (negsuc b) l R S =
    let far : d * suc (suc b) ≤ d * suc a = mul-le-mul_left d (omega (arith, ints)) in
    let e : 2 * gap n d (negsuc a) ≡ d = omega (arith, ints, R.near, S.near) in
    let f : 2 * gap n d (negsuc b) ≡ d = omega (arith, ints, R.near, S.near) in
    omega (arith, ints, R.half e, S.half f)

pub one-nearest : (n : ℤ) (d : ℕ) → OneNearest n d
one-nearest n d r s R S =
    by_lt_z r s (λ l. absurd (ordered n d r s l R S)) (λ h. by_lt_z s r (λ l. absurd (ordered n d s r l S R)) (λ g. omega (arith, ints)))

-- the answer, from the sign of the numerator and its size
pub below-zero : (n : ℤ) (d k : ℕ) → n <ℤ pos 0 → k ≡ nearest_size (nat_abs n) d → neg_ℤ (pos k) ≡ nearest n d
below-zero (pos m) d k l e = absurd (omega (arith, ints))
below-zero (negsuc m) d k l e = ap (λ x. neg_ℤ (pos x)) e

pub from-zero : (n : ℤ) (d k : ℕ) → pos 0 ≤ℤ n → k ≡ nearest_size (nat_abs n) d → pos k ≡ nearest n d
from-zero (pos m) d k l e = ap pos e
from-zero (negsuc m) d k l e = absurd (omega (arith, ints))

pub accepted : (n : ℤ) (d : ℕ) (x : ℤ) → (d ≡ 0 → ⊥) → x ≡ nearest n d → (first (nearest_rules d) ≡ None) × ((x ≡ nearest n d) × NearestWhole n d x × OneNearest n d)
accepted n d x h e = (
  ap (λ b. cond b (Some (denied ZeroDenominator 0)) None) (ne_eqb d 0 h),
  (e, subst (NearestWhole n d) (sym e) (nearest-whole n d (omega arith)), one-nearest n d),
)
