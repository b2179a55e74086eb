-- Rows without their width: a row is read as a function from places to integers, and a form on these is symmetric and linear.
use Rattle.std.proofs.Common.{◌≡◌, ℕ, zero, suc, ℤ, pos, ◌+ℤ◌, ◌-ℤ◌, ◌*ℤ◌, neg_ℤ, ◌≤ℤ◌, sym, ap, ◌∙◌, arith}
use mathlib.Core.Path.{fun_ext}
use lib.IntN.{suc_ℤ, pred_ℤ, zero-*ℤ, suc_ℤ-*ℤ, pred_ℤ-*ℤ}
use Rattle.algebra.proofs.Ring.{ring, lin, assoc, by-steps}
use Rattle.algebra.specs.Sum.{sum}

abbrev pub M : Type 0
M = ℕ → ℤ

pub record Form (P : M → M → ℤ) : Type 0 where
  pub symm : (f g : M) → P f g ≡ P g f
  pub add : (f g h : M) → P (λ i. f i +ℤ g i) h ≡ P f h +ℤ P g h
  pub nonneg : (f : M) → pos 0 ≤ℤ P f f

module _ (P : M → M → ℤ) (F : Form P) where
  pub null : (h : M) → P (λ i. pos 0) h ≡ pos 0
  null h = omega (arith, lin, F.add (λ i. pos 0) (λ i. pos 0) h)

  pub same : (f g h : M) → ((i : ℕ) → f i ≡ g i) → P f h ≡ P g h
  same f g h e = ap (λ x. P x h) (fun_ext e)

  pub scale : (k : ℤ) (f h : M) → P (λ i. k *ℤ f i) h ≡ k *ℤ P f h
  scale k f h = by-steps (λ (x : ℤ). P (λ i. x *ℤ f i) h ≡ x *ℤ P f h)
      (same (λ i. pos 0 *ℤ f i) (λ i. pos 0) h (λ i. zero-*ℤ (f i)) ∙ null h ∙ sym (zero-*ℤ (P f h)))
      (λ m e. same (λ i. suc_ℤ m *ℤ f i) (λ i. m *ℤ f i +ℤ f i) h (λ i. suc_ℤ-*ℤ m (f i)) ∙ F.add (λ i. m *ℤ f i) f h ∙ ap (λ x. x +ℤ P f h) e ∙ sym (suc_ℤ-*ℤ m (P f h)))
      (λ m e. let back : P (λ i. m *ℤ f i) h ≡ P (λ i. pred_ℤ m *ℤ f i +ℤ f i) h = same (λ i. m *ℤ f i) (λ i. pred_ℤ m *ℤ f i +ℤ f i) h (λ i. omega (arith, lin, pred_ℤ-*ℤ m (f i))) in
      omega (arith, lin, F.add (λ i. pred_ℤ m *ℤ f i) f h, pred_ℤ-*ℤ m (P f h)))
      k

  pub neg : (f h : M) → P (λ i. neg_ℤ (f i)) h ≡ neg_ℤ (P f h)
  neg f h = let e : P (λ i. f i +ℤ neg_ℤ (f i)) h ≡ P (λ i. pos 0) h = same (λ i. f i +ℤ neg_ℤ (f i)) (λ i. pos 0) h (λ i. lib.IntN.+ℤ_invr (f i)) in
      omega (arith, lin, F.add f (λ i. neg_ℤ (f i)) h, null h)

  pub sub : (f g h : M) → P (λ i. f i -ℤ g i) h ≡ P f h -ℤ P g h
  sub f g h = F.add f (λ i. neg_ℤ (g i)) h ∙ ap (λ x. P f h +ℤ x) (neg g h)

  pub over-sum : (n : ℕ) (G : ℕ → M) (h : M) → P (λ i. sum n (λ j. G j i)) h ≡ sum n (λ j. P (G j) h)
  over-sum zero G h = null h
  over-sum (suc n) G h = F.add (λ i. sum n (λ j. G j i)) (G n) h ∙ ap (λ x. x +ℤ P (G n) h) (over-sum n G h)

  -- f + q g, on the left and squared
  pub mixed : (f g : M) (q : ℤ) (h : M) → P (λ i. f i +ℤ q *ℤ g i) h ≡ P f h +ℤ q *ℤ P g h
  mixed f g q h = F.add f (λ i. q *ℤ g i) h ∙ ap (λ x. P f h +ℤ x) (scale q g h)

  pub mixed-right : (f g : M) (q : ℤ) (h : M) → P h (λ i. f i +ℤ q *ℤ g i) ≡ P h f +ℤ q *ℤ P h g
  mixed-right f g q h = F.symm h (λ i. f i +ℤ q *ℤ g i) ∙ mixed f g q h ∙ (λ k. F.symm f h k +ℤ q *ℤ F.symm g h k)

  regrouped : (a b c q : ℤ) → (a +ℤ q *ℤ b) +ℤ q *ℤ (b +ℤ q *ℤ c) ≡ a +ℤ (q *ℤ b +ℤ q *ℤ b) +ℤ (q *ℤ q) *ℤ c
  regrouped a b c q = simp ring (omega (arith, lin))

  pub square : (f g : M) (q : ℤ) → P (λ i. f i +ℤ q *ℤ g i) (λ i. f i +ℤ q *ℤ g i) ≡ P f f +ℤ (q *ℤ P f g +ℤ q *ℤ P f g) +ℤ (q *ℤ q) *ℤ P g g
  square f g q = mixed f g q (λ i. f i +ℤ q *ℤ g i)
      ∙ (λ k. mixed-right f g q f k +ℤ q *ℤ mixed-right f g q g k)
      ∙ ap (λ x. (P f f +ℤ q *ℤ P f g) +ℤ q *ℤ (x +ℤ q *ℤ P g g)) (F.symm g f)
      ∙ regrouped (P f f) (P f g) (P g g) q

  pub scale-square : (k : ℤ) (f : M) → P (λ i. k *ℤ f i) (λ i. k *ℤ f i) ≡ (k *ℤ k) *ℤ P f f
  scale-square k f = scale k f (λ i. k *ℤ f i) ∙ ap (λ x. k *ℤ x) (F.symm f (λ i. k *ℤ f i) ∙ scale k f f) ∙ sym (assoc k k (P f f))
