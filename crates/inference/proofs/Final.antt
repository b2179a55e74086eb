-- The table of the formulas is the nearest, for any counts with rows of width w at the nodes.
use Rattle.std.proofs.Common.{◌≡◌, ℕ, zero, suc, ◌*◌, ◌%◌, ◌<◌, ◌≤◌, length, ℤ, pos, ◌*ℤ◌, ◌<ℤ◌, sym, refl, ap, ◌∙◌, subst, arith}
use native.Mathlib.Nat.{mod-eq-zero_of_dvd}
use Rattle.algebra.specs.Row.{Row, ◌⊖◌, ◌⊙◌, Product}
use Rattle.algebra.proofs.Rows.{rows_ext}
use Rattle.algebra.proofs.Sums.{sum-ext}
use Rattle.shapes.specs.Tree.{size, child}
use Rattle.shapes.proofs.Heights.{inner}
use Rattle.shapes.proofs.Sizes.{child-below}
use Rattle.inference.specs.Table.{Table, Sized, over_children, AddsUp}
use Rattle.inference.specs.Formulas.{X}
use Rattle.inference.specs.Nearest.{distance, times, Nearest, Multiple, TreeNearest}
use Rattle.inference.proofs.Agree.{X-agree, clip, clip-in, clip-sized}
use Rattle.inference.proofs.Nearest.{X-adds, X-nearer}

-- what two tables with the same rows at the nodes share
module _ (w b l : ℕ) (A B : Table) (same : (v : ℕ) → v < size b (suc l) → A v ≡ B v) where
  kids-same : (u : ℕ) → u < size b l → over_children w b A u ≡ over_children w b B u
  kids-same u h = rows_ext w b (λ j. A (child b u j)) (λ j. B (child b u j)) (λ j g. same (child b u j) (child-below b u j l g h))

  adds_same : AddsUp w b (suc l) A → AddsUp w b (suc l) B
  adds_same a u h = sym (same u (omega (arith, inner b l u h))) ∙ a u h ∙ kids-same u (inner b l u h)

  distance-same : (dot : Row → Row → ℤ) (q : ℕ) (t t' : Table) → ((v : ℕ) → v < size b (suc l) → t v ≡ t' v) → distance dot (size b (suc l)) A (times q t) ≡ distance dot (size b (suc l)) B (times q t')
  distance-same dot q t t' e = sum-ext (size b (suc l)) (λ v. dot (A v ⊖ times q t v) (A v ⊖ times q t v)) (λ v. dot (B v ⊖ times q t' v) (B v ⊖ times q t' v)) (λ v h. λ i. dot (same v h i ⊖ (pos q ⊙ e v h i)) (same v h i ⊖ (pos q ⊙ e v h i)))

module _ (w b l D : ℕ) (dot : Row → Row → ℤ) (t : Table) (hb : 1 ≤ b) (multiple : Multiple b (suc l) D) (laws : Product w dot) (sized : Sized w b (suc l) t) where
  N : ℕ
  N = size b (suc l)

  t' : Table
  t' = clip w (size b (suc l)) t

  t_same : (v : ℕ) → v < size b (suc l) → t v ≡ t' v
  unfolding t'
  t_same v h = sym (clip-in w (size b (suc l)) t v h)

  t-sized : (v : ℕ) → length (t' v) ≡ w
  unfolding t'
  t-sized = clip-sized w (size b (suc l)) t sized

  divides : (k : ℕ) → 1 ≤ k → k ≤ suc l → D % size b k ≡ 0
  divides k one h = mod-eq-zero_of_dvd (size b k) (multiple k one h)

  X-same : (v : ℕ) → v < size b (suc l) → X w b (suc l) D t' v ≡ X w b (suc l) D t v
  X-same v h = X-agree w b (suc l) D t' t hb (λ u k. sym (t_same u k)) v h

  pub nearest : Nearest w b (suc l) D dot t (X w b (suc l) D t)
  nearest = record {
    adds_up = adds_same w b l (X w b (suc l) D t') (X w b (suc l) D t) X-same (X-adds w b l D t' t-sized divides);
    nearer = λ q Y R a.
        let Y' : Table = clip w (size b (suc l)) Y in
        let v = a.0 in
        let h = a.1.0 in
        let Y-same : (v : ℕ) → v < size b (suc l) → Y v ≡ Y' v = λ v h. sym (clip-in w (size b (suc l)) Y v h) in
        let Y'-same : (v : ℕ) → v < size b (suc l) → Y' v ≡ Y v = λ v h. clip-in w (size b (suc l)) Y v h in
        let main = X-nearer w b l D t' t-sized divides dot laws q Y' (clip-sized w (size b (suc l)) Y R.sized) (adds_same w b l Y Y' Y-same R.adds_up) v h
        (λ e. a.1.1 (ap (λ r. pos q ⊙ r) (sym (X-same v h)) ∙ e ∙ ap (λ r. pos D ⊙ r) (Y'-same v h))) in
        let left : distance dot (size b (suc l)) (X w b (suc l) D t') (times D t') ≡ distance dot (size b (suc l)) (X w b (suc l) D t) (times D t) =
        distance-same w b l (X w b (suc l) D t') (X w b (suc l) D t) X-same dot D t' t (λ v h. sym (t_same v h)) in
        let right : distance dot (size b (suc l)) Y' (times q t') ≡ distance dot (size b (suc l)) Y (times q t) = distance-same w b l Y' Y Y'-same dot q t' t (λ v h. sym (t_same v h)) in
        subst (λ (y : ℤ). (pos (q * q) *ℤ distance dot (size b (suc l)) (X w b (suc l) D t) (times D t)) <ℤ (pos (D * D) *ℤ y)) right
        (subst (λ (x : ℤ). (pos (q * q) *ℤ x) <ℤ (pos (D * D) *ℤ distance dot (size b (suc l)) Y' (times q t'))) left main);
  }

pub tree-nearest : TreeNearest
tree-nearest w b zero D dot t hb hl m laws s = absurd (omega arith)
tree-nearest w b (suc l) D dot t hb hl m laws s = nearest w b l D dot t hb m laws s

-- a table with the same rows at the nodes is as near
pub nearest-same : (w b L D : ℕ) (dot : Row → Row → ℤ) (t A B : Table) → 1 ≤ L → ((v : ℕ) → v < size b L → A v ≡ B v) → Nearest w b L D dot t A → Nearest w b L D dot t B
nearest-same w b zero D dot t A B one same n = absurd (omega arith)
nearest-same w b (suc l) D dot t A B one same n = record {
  adds_up = adds_same w b l A B same n.adds_up;
  nearer = λ q Y R a.
      let main = n.nearer q Y R (a.0, (a.1.0, λ e. a.1.1 (ap (λ r. pos q ⊙ r) (sym (same a.0 a.1.0)) ∙ e))) in
      subst (λ (x : ℤ). (pos (q * q) *ℤ x) <ℤ (pos (D * D) *ℤ distance dot (size b (suc l)) Y (times q t)))
      (distance-same w b l A B same dot D t t (λ v h. refl)) main;
}
