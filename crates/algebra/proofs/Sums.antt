-- Finite sums of integers.
use Rattle.std.proofs.Common.{◌≡◌, ℕ, zero, suc, ◌+◌, ◌*◌, ◌<◌, ℤ, pos, ◌+ℤ◌, ◌-ℤ◌, ◌*ℤ◌, ◌≤ℤ◌, sym, refl, ap, subst, add-zero, add-suc, mul-zero, mul-suc, arith}
use lib.IntN.{*ℤ-zero, +ℤ_idr}
use Rattle.algebra.proofs.Ring.{lin, dist-left}
use Rattle.algebra.specs.Sum.{sum}

pub sum-ext : (n : ℕ) (f g : ℕ → ℤ) → ((i : ℕ) → i < n → f i ≡ g i) → sum n f ≡ sum n g
sum-ext zero f g h = refl
sum-ext (suc n) f g h = λ i. sum-ext n f g (λ j k. h j (omega arith)) i +ℤ h n (omega arith) i

pub sum-add : (n : ℕ) (f g : ℕ → ℤ) → sum n (λ i. f i +ℤ g i) ≡ sum n f +ℤ sum n g
sum-add zero f g = refl
sum-add (suc n) f g = rw (sum-add n f g) (omega (arith, lin))

pub sum-sub : (n : ℕ) (f g : ℕ → ℤ) → sum n (λ i. f i -ℤ g i) ≡ sum n f -ℤ sum n g
sum-sub zero f g = refl
sum-sub (suc n) f g = rw (sum-sub n f g) (omega (arith, lin))

pub sum-scale : (n : ℕ) (k : ℤ) (f : ℕ → ℤ) → sum n (λ i. k *ℤ f i) ≡ k *ℤ sum n f
sum-scale zero k f = sym (*ℤ-zero k)
sum-scale (suc n) k f = rw (sum-scale n k f, dist-left)

pub sum-const : (n : ℕ) (c : ℤ) → sum n (λ i. c) ≡ pos n *ℤ c
sum-const zero c = sym (lib.IntN.zero-*ℤ c)
sum-const (suc n) c = rw (sum-const n c) (sym (lib.IntN.suc_ℤ-*ℤ (pos n) c))

pub sum-split : (m n : ℕ) (f : ℕ → ℤ) → sum (m + n) f ≡ sum m f +ℤ sum n (λ i. f (m + i))
sum-split m zero f = rw add-zero (sym (+ℤ_idr (sum m f)))
sum-split m (suc n) f = rw add-suc (rw (sum-split m n f) (omega (arith, lin)))

-- a sum over the children of the first n nodes is the sum over the b * n nodes after the root
pub regroup : (b n : ℕ) (g : ℕ → ℤ) → sum n (λ u. sum b (λ j. g (b * u + 1 + j))) ≡ sum (b * n) (λ i. g (1 + i))
regroup b zero g = rw mul-zero refl
regroup b (suc n) g = rw mul-suc (rw (sum-split (b * n) b (λ i. g (1 + i)), regroup b n g) (ap (λ x. sum (b * n) (λ i. g (1 + i)) +ℤ x) (sum-ext b (λ j. g (b * n + 1 + j)) (λ j. g (1 + (b * n + j))) (λ j k. ap g (omega arith)))))

pub sum_nonneg : (n : ℕ) (f : ℕ → ℤ) → ((i : ℕ) → i < n → pos 0 ≤ℤ f i) → pos 0 ≤ℤ sum n f
sum_nonneg zero f h = omega (arith, lin)
sum_nonneg (suc n) f h = omega (arith, lin, sum_nonneg n f (λ i k. h i (omega arith)), h n (omega arith))

pub sum-positive : (n : ℕ) (f : ℕ → ℤ) → ((i : ℕ) → i < n → pos 0 ≤ℤ f i) → (v : ℕ) → v < n → pos 1 ≤ℤ f v → pos 1 ≤ℤ sum n f
sum-positive zero f h v k p = absurd (omega arith)
sum-positive (suc n) f h v k p = by (native.Mathlib.Decide.dec_lt v n) (λ l. sum-positive n f (λ i j. h i (omega arith)) v l p)
  where
    rest : (i : ℕ) → i < n → pos 0 ≤ℤ f i
    rest i j = h i (omega arith)

    by : Dec (v < n) → (v < n → pos 1 ≤ℤ sum n f) → pos 1 ≤ℤ sum (suc n) f
    by (yes l) ih = omega (arith, lin, ih l, h n (omega arith))
    by (no l) ih = let e : v ≡ n = omega arith in omega (arith, lin, sum_nonneg n f rest, subst (λ (x : ℕ). pos 1 ≤ℤ f x) e p)
