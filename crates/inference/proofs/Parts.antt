-- The quotients of D by adjoining sizes.
use Rattle.std.proofs.Common.{◌≡◌, ℕ, ◌+◌, ◌-◌, ◌*◌, ◌/◌, ◌%◌, ◌<◌, ◌≤◌, refl, ap, ◌∙◌, mul-le-mul_left, arith}
use native.Mathlib.Nat.{div-eq_of_eq-mul_right, div-add-mod}
use native.Mathlib.Decide.{dec_lt}

-- D over S_m, over S_(m+1), and over both
pub record Parts (D x y : ℕ) : Type 0 where
  pub both : D ≡ D / (x * y) * (x * y)
  pub left : D / x ≡ D / (x * y) * y
  pub right : D / y ≡ D / (x * y) * x

pub parts : (b D x y : ℕ) → 1 ≤ x → y ≡ 1 + b * x → D % x ≡ 0 → D % y ≡ 0 → Parts D x y
parts b D x y h e p q = found (D / x) (D / y) (omega (arith, div-add-mod D x)) (omega (arith, div-add-mod D y)) refl refl
  where
    factor : (x' y' z : ℕ) → D ≡ x * x' → D ≡ y * y' → x' ≡ b * y' + z → (D ≡ z * (x * y)) × (x' ≡ z * y) × (y' ≡ z * x)
    factor x' y' z p q r =
        let a : x * x' ≡ x * (b * y' + z) = ap (λ n. x * n) r in
        let c : y * y' ≡ (1 + b * x) * y' = ap (λ n. n * y') e in
        let y-is : y' ≡ z * x = omega arith in
        let d : y * y' ≡ y * (z * x) = ap (λ n. y * n) y-is in
        let f : b * y' ≡ b * (z * x) = ap (λ n. b * n) y-is in
        let g : z * y ≡ z * (1 + b * x) = ap (λ n. z * n) e in
        (omega arith, omega arith, y-is)

    reaches : (x' y' : ℕ) → D ≡ x * x' → D ≡ y * y' → b * y' ≤ x'
    reaches x' y' p q = by (dec_lt x' (b * y'))
      where
        by : Dec (x' < b * y') → b * y' ≤ x'
        by (yes k) = absurd (let c : y * y' ≡ (1 + b * x) * y' = ap (λ n. n * y') e in omega (arith, mul-le-mul_left x k))
        by (no k) = omega arith

    positive : 0 < x * y
    positive = omega (arith, mul-le-mul_left x (let k : 1 ≤ y = omega arith in k))

    found : (x' y' : ℕ) → D ≡ x * x' → D ≡ y * y' → D / x ≡ x' → D / y ≡ y' → Parts D x y
    found x' y' p q ex ey =
        let z : ℕ = x' - b * y' in
        let f = factor x' y' z p q (omega (arith, reaches x' y' p q)) in
        let z-is : D / (x * y) ≡ z = div-eq_of_eq-mul_right {n = x * y} {m = D} {k = z} positive (omega (arith, f.0)) in
        record { both = rw z-is f.0; left = rw z-is (ex ∙ f.1); right = rw z-is (ey ∙ f.2) }
