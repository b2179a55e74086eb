-- The products of the kinds keep the three laws.
use Rattle.std.specs.Prelude.{◌≡◌, ℕ, zero, suc, [], ◌∷◌, length, ℤ, pos, negsuc, ◌+ℤ◌, ◌-ℤ◌, ◌*ℤ◌, ◌≤ℤ◌, ◌≢◌, refl}
use Rattle.std.proofs.Common.{◌∙◌, ap, arith}
use Rattle.std.proofs.Math.IntN.{ℤ_discrete, *ℤ_comm}
use Rattle.algebra.proofs.Ring.{sorted, lin, dist}
use Rattle.algebra.proofs.Rows.{part-add}
use Rattle.algebra.specs.Row.{Row, part, zeros, Product, ◌⊕◌}
use Rattle.cells.specs.Products.{single, pair, four}

square-0 : (x : ℤ) → pos 0 ≤ℤ (x *ℤ x)
square-0 (pos n) = omega (arith, lin)
square-0 (negsuc n) = omega (arith, lin)

square-1 : (x : ℤ) → (x ≢ pos 0) → pos 1 ≤ℤ (x *ℤ x)
square-1 (pos zero) n = absurd (n refl)
square-1 (pos (suc m)) n = omega (arith, lin)
square-1 (negsuc m) n = omega (arith, lin)

pub single-laws : Product 1 single
single-laws = record { symmetric = λ r s h k. *ℤ_comm (part r 0) (part s 0); additive = additive; positive = positive }
  where
    additive : (r r' s : Row) → length r ≡ 1 → length r' ≡ 1 → length s ≡ 1 → single (r ⊕ r') s ≡ single r s +ℤ single r' s
    additive r r' s h h' k = ap (λ x. x *ℤ part s 0) (part-add 1 r r' h h' 0) ∙ dist (part r 0) (part r' 0) (part s 0)

    positive : (r : Row) → length r ≡ 1 → (r ≢ zeros 1) → pos 1 ≤ℤ single r r
    positive [] h n = absurd (omega arith)
    positive (a ∷ []) h n = square-1 a (λ e. n (ap (λ x. x ∷ []) e))
    positive (a ∷ b ∷ r) h n = absurd (omega arith)

pub pair-laws : Product 2 pair
pair-laws = record { symmetric = λ r s h k. symmetric (part r 0) (part r 1) (part s 0) (part s 1); additive = additive; positive = positive }
  where
    symmetric : (a b c d : ℤ) → a *ℤ c +ℤ b *ℤ d +ℤ (a -ℤ b) *ℤ (c -ℤ d) ≡ c *ℤ a +ℤ d *ℤ b +ℤ (c -ℤ d) *ℤ (a -ℤ b)
    symmetric a b c d i = *ℤ_comm a c i +ℤ *ℤ_comm b d i +ℤ *ℤ_comm (a -ℤ b) (c -ℤ d) i

    adds : (a b a' b' c d : ℤ) → (a +ℤ a') *ℤ c +ℤ (b +ℤ b') *ℤ d +ℤ ((a +ℤ a') -ℤ (b +ℤ b')) *ℤ (c -ℤ d) ≡ (a *ℤ c +ℤ b *ℤ d +ℤ (a -ℤ b) *ℤ (c -ℤ d)) +ℤ (a' *ℤ c +ℤ b' *ℤ d +ℤ (a' -ℤ b') *ℤ (c -ℤ d))
    adds a b a' b' c d = simp sorted

    additive : (r r' s : Row) → length r ≡ 2 → length r' ≡ 2 → length s ≡ 2 → pair (r ⊕ r') s ≡ pair r s +ℤ pair r' s
    additive r r' s h h' k =
        let p = part-add 2 r r' h h' in
        (λ i. p 0 i *ℤ part s 0 +ℤ p 1 i *ℤ part s 1 +ℤ (p 0 i -ℤ p 1 i) *ℤ (part s 0 -ℤ part s 1))
        ∙ adds (part r 0) (part r 1) (part r' 0) (part r' 1) (part s 0) (part s 1)

    some : (a b : ℤ) → ((a ≡ pos 0) × (b ≡ pos 0) → ⊥) → Dec (a ≡ pos 0) → pos 1 ≤ℤ (a *ℤ a +ℤ b *ℤ b +ℤ (a -ℤ b) *ℤ (a -ℤ b))
    some a b n (yes e) = omega (arith, lin, square-0 a, square-1 b (λ f. n (e, f)), square-0 (a -ℤ b))
    some a b n (no f) = omega (arith, lin, square-1 a f, square-0 b, square-0 (a -ℤ b))

    positive : (r : Row) → length r ≡ 2 → (r ≢ zeros 2) → pos 1 ≤ℤ pair r r
    positive [] h n = absurd (omega arith)
    positive (a ∷ []) h n = absurd (omega arith)
    positive (a ∷ b ∷ []) h n = some a b (λ (e, f). n (λ i. e i ∷ f i ∷ [])) (ℤ_discrete a (pos 0))
    positive (a ∷ b ∷ c ∷ r) h n = absurd (omega arith)

pub four-laws : Product 4 four
four-laws = record { symmetric = λ r s h k. symmetric (part r) (part s); additive = additive; positive = positive }
  where
    symmetric : (f g : ℕ → ℤ) → f 0 *ℤ g 0 +ℤ f 1 *ℤ g 1 +ℤ f 2 *ℤ g 2 +ℤ f 3 *ℤ g 3 ≡ g 0 *ℤ f 0 +ℤ g 1 *ℤ f 1 +ℤ g 2 *ℤ f 2 +ℤ g 3 *ℤ f 3
    symmetric f g i = *ℤ_comm (f 0) (g 0) i +ℤ *ℤ_comm (f 1) (g 1) i +ℤ *ℤ_comm (f 2) (g 2) i +ℤ *ℤ_comm (f 3) (g 3) i

    adds : (a b c d a' b' c' d' e f g h : ℤ) → (a +ℤ a') *ℤ e +ℤ (b +ℤ b') *ℤ f +ℤ (c +ℤ c') *ℤ g +ℤ (d +ℤ d') *ℤ h ≡ (a *ℤ e +ℤ b *ℤ f +ℤ c *ℤ g +ℤ d *ℤ h) +ℤ (a' *ℤ e +ℤ b' *ℤ f +ℤ c' *ℤ g +ℤ d' *ℤ h)
    adds a b c d a' b' c' d' e f g h = simp sorted

    additive : (r r' s : Row) → length r ≡ 4 → length r' ≡ 4 → length s ≡ 4 → four (r ⊕ r') s ≡ four r s +ℤ four r' s
    additive r r' s h h' k =
        let p = part-add 4 r r' h h' in
        (λ i. p 0 i *ℤ part s 0 +ℤ p 1 i *ℤ part s 1 +ℤ p 2 i *ℤ part s 2 +ℤ p 3 i *ℤ part s 3)
        ∙ adds (part r 0) (part r 1) (part r 2) (part r 3) (part r' 0) (part r' 1) (part r' 2) (part r' 3) (part s 0) (part s 1) (part s 2) (part s 3)

    some : (a b c d : ℤ) → ((a ≡ pos 0) × (b ≡ pos 0) × (c ≡ pos 0) × (d ≡ pos 0) → ⊥) → Dec (a ≡ pos 0) → Dec (b ≡ pos 0) → Dec (c ≡ pos 0)
        → pos 1 ≤ℤ (a *ℤ a +ℤ b *ℤ b +ℤ c *ℤ c +ℤ d *ℤ d)
    some a b c d n (no p) q r = omega (arith, lin, square-1 a p, square-0 b, square-0 c, square-0 d)
    some a b c d n (yes p) (no q) r = omega (arith, lin, square-0 a, square-1 b q, square-0 c, square-0 d)
    some a b c d n (yes p) (yes q) (no r) = omega (arith, lin, square-0 a, square-0 b, square-1 c r, square-0 d)
    some a b c d n (yes p) (yes q) (yes r) = omega (arith, lin, square-0 a, square-0 b, square-0 c, square-1 d (λ s. n (p, q, r, s)))

    positive : (r : Row) → length r ≡ 4 → (r ≢ zeros 4) → pos 1 ≤ℤ four r r
    positive [] h n = absurd (omega arith)
    positive (a ∷ []) h n = absurd (omega arith)
    positive (a ∷ b ∷ []) h n = absurd (omega arith)
    positive (a ∷ b ∷ c ∷ []) h n = absurd (omega arith)
    positive (a ∷ b ∷ c ∷ d ∷ []) h n =
        some a b c d (λ e. n (λ i. e.0 i ∷ e.1 i ∷ e.2 i ∷ e.3 i ∷ [])) (ℤ_discrete a (pos 0)) (ℤ_discrete b (pos 0)) (ℤ_discrete c (pos 0))
    positive (a ∷ b ∷ c ∷ d ∷ x ∷ r) h n = absurd (omega arith)
