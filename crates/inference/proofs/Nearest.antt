-- The solved X over D is the nearest table that adds up, where every row has width w.
use Rattle.std.proofs.Common.{◌≡◌, ℕ, suc, ◌-◌, ◌*◌, ◌%◌, ◌^◌, ◌<◌, ◌≤◌, length, ℤ, pos, ◌-ℤ◌, ◌*ℤ◌, ◌≤ℤ◌, ◌<ℤ◌, sym, ap, ◌∙◌, subst, arith}
use mathlib.Core.Path.{fun_ext}
use Rattle.algebra.proofs.Ring.{lin}
use Rattle.algebra.proofs.Sums.{sum-ext, sum-sub, sum-scale, sum-positive}
use Rattle.algebra.proofs.Form.{M, Form}
use Rattle.inference.proofs.Orthogonal.{Errors, orthogonal, pythagoras, gap}
use Rattle.algebra.proofs.Rows.{tabulate-part, zip_length, scale-length, rows-length, part-sub, part-rows, part-scale, part-zeros, same_row, P, P-form, P-positive, P-is, same-where-zero}
use Rattle.shapes.proofs.Sizes.{size-next, size-positive}
use Rattle.shapes.proofs.Heights.{height-leaf, height-root, under, levels}
use Rattle.inference.proofs.Parts.{parts, Parts}
use Rattle.inference.proofs.Nodes.{X-length, sums-up, errs, leaf-errs, carried, C-child}
use Rattle.algebra.specs.Row.{Row, part, tabulate, ◌⊖◌, zeros, Product}
use Rattle.algebra.specs.Sum.{sum}
use Rattle.shapes.specs.Tree.{size, child, height}
use Rattle.inference.specs.Table.{Table, over_children, AddsUp}
use Rattle.inference.specs.Nearest.{distance, times}
use Rattle.inference.specs.Formulas.{C_at as C, X_at as Xat, X}

-- rows of width w part every number
abbrev pub Wide : ℕ → Table → Type 0
Wide w T = (v : ℕ) → length (T v) ≡ w

module _ (w b l D : ℕ) (t : Table) (sized : Wide w t) (multiple : (k : ℕ) → 1 ≤ k → k ≤ suc l → D % size b k ≡ 0) where
  parts_at : (u : ℕ) → u < size b l → Parts D (size b (suc (under b l u))) (size b (suc (suc (under b l u))))
  parts_at u h =
      let m : ℕ = under b l u in
      let d : suc (suc m) ≤ suc l = (levels b l u h).deep in
      parts b D (size b (suc m)) (size b (suc (suc m))) (size-positive b m) (size-next b (suc m)) (multiple (suc m) (omega arith) (omega arith)) (multiple (suc (suc m)) (omega arith) d)

  abbrev Xf : ℕ → M
  Xf v = part (X w b (suc l) D t v)

  Xf-sums : (u : ℕ) → u < size b l → (i : ℕ) → Xf u i ≡ sum b (λ j. Xf (child b u j) i)
  Xf-sums u h i =
      let H = levels b l u h in
      ap (λ n. part (Xat w b (suc l) D t n u) i) H.own
      ∙ sums-up w b (suc l) D t sized (under b l u) u H.deep (parts_at u h) i
      ∙ sum-ext b (λ j. part (Xat w b (suc l) D t (suc (under b l u)) (child b u j)) i) (λ j. Xf (child b u j) i) (λ j g. ap (λ n. part (Xat w b (suc l) D t n (child b u j)) i) (sym (H.kids j g)))

  errors : Errors b (size b l) (b ^ l) (λ v i. Xf v i -ℤ pos D *ℤ part (t v) i) (λ v. part (C w b (suc l) D t (suc l - height b (suc l) v) v)) (λ v. pos (size b (height b (suc l) v)))
  errors = record {
    whole = size-next b l;
    root = λ i. let e : suc l - height b (suc l) 0 ≡ 0 = omega (arith, height-root b (suc l)) in ap (λ d. part (C w b (suc l) D t d 0) i) e ∙ part-zeros w i;
    s = λ u. pos (size b (suc (under b l u)));
    K = λ u. part (carried w b (suc l) D t (under b l u) u);
    at_parent = λ u h i. subst (λ (n : ℕ). part (Xat w b (suc l) D t n u) i -ℤ pos D *ℤ part (t u) i ≡ pos (size b n) *ℤ part (C w b (suc l) D t (suc l - n) u) i -ℤ pos (size b (suc (under b l u))) *ℤ part (carried w b (suc l) D t (under b l u) u) i)
        (sym (levels b l u h).own) (errs w b (suc l) D t sized (under b l u) u (levels b l u h).deep (parts_at u h) i);
    at_child = λ u h j g. (ap (λ n. pos (size b n)) ((levels b l u h).kids j g), λ i. ap (λ n. part (C w b (suc l) D t (suc l - n) (child b u j)) i) ((levels b l u h).kids j g) ∙ ap (λ r. part r i) (C-child w b (suc l) D t (under b l u) u j (levels b l u h).deep g));
    at_leaf = λ v h g i. subst (λ (n : ℕ). part (Xat w b (suc l) D t n v) i -ℤ pos D *ℤ part (t v) i ≡ pos (size b n) *ℤ part (C w b (suc l) D t (suc l - n) v) i) (sym (height-leaf b l v h g)) (leaf-errs w b (suc l) D t sized v i);
  }

  X-sized : Wide w (X w b (suc l) D t)
  X-sized v = X-length w b (suc l) D t sized (height b (suc l) v) v

  -- a row is the sum of the children's rows where its components are
  parents : (T : Table) → AddsUp w b (suc l) T → Wide w T → (u : ℕ) → u < size b l → (i : ℕ) → part (T u) i ≡ sum b (λ j. part (T (child b u j)) i)
  parents T a s u h i =
      let e : l ≡ suc l - 1 = omega arith in
      ap (λ r. part r i) (a u (subst (λ (n : ℕ). u < size b n) e h)) ∙ part-rows w b (λ j. T (child b u j)) (λ j _. s (child b u j)) i

  pub X-adds : AddsUp w b (suc l) (X w b (suc l) D t)
  X-adds u h =
      let e : suc l - 1 ≡ l = omega arith in
      let T : Table = X w b (suc l) D t in
      same_row w (T u) (over_children w b T u) (X-sized u) (rows-length w b (λ j. T (child b u j)) (λ j _. X-sized (child b u j)))
      (λ i. Xf-sums u (subst (λ (n : ℕ). u < size b n) e h) i ∙ sym (part-rows w b (λ j. T (child b u j)) (λ j _. X-sized (child b u j)) i))

  module _ (dot : Row → Row → ℤ) (laws : Product w dot) where
    abbrev Q : M → M → ℤ
    Q = P w dot laws

    F : Form Q
    F = P-form w dot laws

    -- the distance, by the components
    distance_is : (A t' : Table) (q n : ℕ) → Wide w A → Wide w t' → distance dot n A (times q t') ≡ sum n (λ v. Q (λ i. part (A v) i -ℤ pos q *ℤ part (t' v) i) (λ i. part (A v) i -ℤ pos q *ℤ part (t' v) i))
    distance_is A t' q n a s = sum-ext n (λ v. dot (A v ⊖ times q t' v) (A v ⊖ times q t' v)) (λ v. Q (λ i. part (A v) i -ℤ pos q *ℤ part (t' v) i) (λ i. part (A v) i -ℤ pos q *ℤ part (t' v) i)) (λ v h. one v)
      where
        one : (v : ℕ) → dot (A v ⊖ times q t' v) (A v ⊖ times q t' v) ≡ Q (λ i. part (A v) i -ℤ pos q *ℤ part (t' v) i) (λ i. part (A v) i -ℤ pos q *ℤ part (t' v) i)
        one v =
            let tl : length (times q t' v) ≡ w = scale-length (pos q) (t' v) ∙ s v in
            let dl : length (A v ⊖ times q t' v) ≡ w = zip_length ◌-ℤ◌ w (A v) (times q t' v) (a v) tl in
            P-is w dot laws (A v ⊖ times q t' v) (A v ⊖ times q t' v) dl dl
            ∙ ap (λ f. Q f f) (fun_ext (λ i. part-sub w (A v) (times q t' v) (a v) tl i ∙ ap (λ y. part (A v) i -ℤ y) (part-scale (pos q) (t' v) i)))

    module _ (q : ℕ) (Y : Table) (Y-sized : Wide w Y) (Y-adds : AddsUp w b (suc l) Y) where
      abbrev Yf : ℕ → M
      Yf v = part (Y v)

      abbrev tf : ℕ → M
      tf v = part (t v)

      abbrev W : ℕ → M
      W = gap Q F (size b (suc l)) (pos D) (pos q) Xf Yf tf

      W-sums : (u : ℕ) → u < size b l → (i : ℕ) → W u i ≡ sum b (λ j. W (child b u j) i)
      W-sums u h i = (λ y. pos D *ℤ parents Y Y-adds Y-sized u h i y -ℤ pos q *ℤ Xf-sums u h i y)
          ∙ sym (sum-sub b (λ j. pos D *ℤ Yf (child b u j) i) (λ j. pos q *ℤ Xf (child b u j) i) ∙ (λ y. sum-scale b (pos D) (λ j. Yf (child b u j) i) y -ℤ sum-scale b (pos q) (λ j. Xf (child b u j) i) y))

      W-length : pos 1 ≤ℤ sum (size b (suc l)) (λ v. Q (W v) (W v)) → (pos (q * q) *ℤ distance dot (size b (suc l)) (X w b (suc l) D t) (times D t)) <ℤ (pos (D * D) *ℤ distance dot (size b (suc l)) Y (times q t))
      W-length h =
          let o = orthogonal Q F b (size b l) (b ^ l) (λ v i. Xf v i -ℤ pos D *ℤ part (t v) i) (λ v. part (C w b (suc l) D t (suc l - height b (suc l) v) v)) (λ v. pos (size b (height b (suc l) v))) errors W W-sums in
          let p = pythagoras Q F (size b (suc l)) (pos D) (pos q) Xf Yf tf o in
          rw (distance_is (X w b (suc l) D t) t D (size b (suc l)) X-sized sized, distance_is Y t q (size b (suc l)) Y-sized sized) (omega (arith, lin, p))

      apart : (v : ℕ) → ¬ (times q (X w b (suc l) D t) v ≡ times D Y v) → ¬ (tabulate w (W v) ≡ zeros w)
      apart v n z = n (of_row q (X w b (suc l) D t) X-sized ∙ sym (same-where-zero w (λ i. pos D *ℤ Yf v i) (λ i. pos q *ℤ Xf v i) z) ∙ sym (of_row D Y Y-sized))
        where
          of_row : (c : ℕ) (T : Table) → Wide w T → times c T v ≡ tabulate w (λ i. pos c *ℤ part (T v) i)
          of_row c T s = sym (tabulate-part w (times c T v) (scale-length (pos c) (T v) ∙ s v)) ∙ ap (tabulate w) (fun_ext (part-scale (pos c) (T v)))

      strictly : (v : ℕ) → v < size b (suc l) → ¬ (times q (X w b (suc l) D t) v ≡ times D Y v) → pos 1 ≤ℤ sum (size b (suc l)) (λ v. Q (W v) (W v))
      strictly v h n = sum-positive (size b (suc l)) (λ v. Q (W v) (W v)) (λ i _. F.nonneg (W i)) v h (P-positive w dot laws (W v) (apart v n))

      pub X-nearer : (v : ℕ) → v < size b (suc l) → ¬ (times q (X w b (suc l) D t) v ≡ times D Y v)
          → (pos (q * q) *ℤ distance dot (size b (suc l)) (X w b (suc l) D t) (times D t)) <ℤ (pos (D * D) *ℤ distance dot (size b (suc l)) Y (times q t))
      X-nearer v h n = W-length (strictly v h n)
