-- How the sizes of complete trees grow, and where children and parents lie.
use Rattle.std.proofs.Common.{◌≡◌, ℕ, zero, suc, ◌+◌, ◌-◌, ◌*◌, ◌/◌, ◌^◌, ◌<◌, ◌≤◌, sym, ap, ◌∙◌, subst, add-zero, add-suc, mul-le-mul_left, arith}
use native.Mathlib.Nat.{pow-zero, pow-succ', pow-le-pow_left, mul-add-div, div-eq_of_lt}
use Rattle.shapes.specs.Tree.{size, child, parent}
use Rattle.shapes.specs.Laid.{Shapely}

-- S_(k+1) = 1 + b × S_k
pub size-next : (b k : ℕ) → size b (suc k) ≡ 1 + b * size b k
size-next b zero = omega (arith, pow-zero b)
size-next b (suc k) = omega (arith, size-next b k, pow-succ' b k, ap (λ (n : ℕ). b * n) (size-next b k))

pub size-positive : (b k : ℕ) → 1 ≤ size b (suc k)
size-positive b k = omega (arith, size-next b k)

size-add : (b k j : ℕ) → size b k ≤ size b (k + j)
size-add b k zero = omega (arith, ap (size b) (add-zero k))
size-add b k (suc j) = omega (arith, size-add b k j, ap (size b) (add-suc k j))

pub size-le : (b k h : ℕ) → k ≤ h → size b k ≤ size b h
size-le b k h l = let e : h ≡ k + (h - k) = omega arith in subst (λ (n : ℕ). size b k ≤ size b n) (sym e) (size-add b k (h - k))

pub size-some : (b k : ℕ) → 1 ≤ k → 1 ≤ size b k
size-some b k one = omega (arith, size-le b 1 k one, pow-zero b)

pub size_few : (b k h : ℕ) → Shapely b h → k ≤ h → size b k ≤ 1023
size_few b k h s l = omega (arith, size-le b k h l, s.4)

pub power_few : (b k h : ℕ) → Shapely b h → k < h → b ^ k ≤ 1023
power_few b k h s l = omega (arith, size_few b (suc k) h s l)

size-wider : (b c k : ℕ) → b ≤ c → size b k ≤ size c k
size-wider b c zero l = omega arith
size-wider b c (suc k) l = omega (arith, size-wider b c k l, pow-le-pow_left l k)

-- no tree of a fan-out up to 16 and a height up to 10 has more nodes than this
pub size_most : (b k : ℕ) → b ≤ 16 → k ≤ 10 → size b k ≤ 73300775185
size_most b k l h = omega (arith, size-wider b 16 k l, size-le 16 k 10 h)

pub parent_of : (b u j : ℕ) → j < b → parent b (child b u j) ≡ u
parent_of b u j h = let e : b * u + 1 + j - 1 ≡ b * u + j = omega arith in
    ap (λ x. x / b) e ∙ mul-add-div (omega arith) u j ∙ ap (λ x. u + x) (div-eq_of_lt h) ∙ add-zero u

-- a child is below S_(k+1) where its parent is below S_k
pub child-below : (b u j k : ℕ) → j < b → u < size b k → child b u j < size b (suc k)
child-below b u j k h l = omega (arith, size-next b k, mul-le-mul_left b l)

pub child-above : (b u j k : ℕ) → size b k ≤ u → size b (suc k) ≤ child b u j
child-above b u j k l = omega (arith, size-next b k, mul-le-mul_left b l)

-- what bounds a size or a power
pub ruleset growth = (size-next, size_most, size_few, power_few)
