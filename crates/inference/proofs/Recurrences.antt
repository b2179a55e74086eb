-- The published recurrences, from the formulas.
use Rattle.std.proofs.Common.{◌≡◌, ℕ, zero, suc, ◌-◌, ◌*◌, ◌/◌, ◌%◌, ◌^◌, ◌<◌, ◌≤◌, [], ◌∷◌, length, ℤ, pos, ◌+ℤ◌, ◌-ℤ◌, ◌*ℤ◌, sym, refl, ap, ◌∙◌, arith}
use native.Mathlib.Nat.{pow-zero, pow-succ', div-add-mod, mod-eq-zero_of_dvd}
use lib.IntN.{*ℤ-zero, +ℤ_idr}
use Rattle.algebra.specs.Row.{Row, part, zeros, ◌⊕◌, ◌⊖◌, ◌⊙◌}
use Rattle.algebra.specs.Sum.{sum}
use Rattle.algebra.proofs.Ring.{ring, lin, assoc, left_comm}
use Rattle.algebra.proofs.Rows.{zip_length, scale-length, rows-length, part-add, part-sub, part-scale, part-rows, part-zeros, same_row, rows_ext, zeros-length}
use Rattle.shapes.specs.Tree.{size, child, height, Level}
use Rattle.shapes.proofs.Heights.{level-height, level-node, child-level, height-root}
use Rattle.shapes.proofs.Sizes.{size-next, size-positive, size-some}
use Rattle.inference.specs.Table.{Table, over_children}
use Rattle.inference.specs.Formulas.{Z_at, C_at, X_at, Z, X}
use Rattle.inference.specs.TwoPass.{Same, TwoPass, TwoPassStands}
use Rattle.inference.proofs.Agree.{Z-node-agree, X-agree, clip, clip-in, clip-sized}
use Rattle.inference.proofs.Parts.{Parts, parts}
use Rattle.inference.proofs.Steps.{Z-parent}
use Rattle.inference.proofs.Nodes.{Z-length, X-length, X-parent, X-child}

scale-swap : (a c : ℤ) (r : Row) → a ⊙ (c ⊙ r) ≡ c ⊙ (a ⊙ r)
scale-swap a c [] = refl
scale-swap a c (x ∷ r) = λ i. left_comm a c x i ∷ scale-swap a c r i

-- D over both sizes is c, over one c times the other: what is asked of a child, without the factor D that both sides have
down-identity : (c s q π τ z x ζ : ℤ)
    → q *ℤ (s *ℤ ((c *ℤ (s +ℤ q *ℤ π)) *ℤ ζ +ℤ π *ℤ (x +ℤ c *ℤ (s *ℤ τ -ℤ z))))
    ≡ (q *ℤ (c *ℤ (s *ℤ (s +ℤ q *ℤ π)))) *ℤ ζ +ℤ (s *ℤ ((c *ℤ s) *ℤ ((q *ℤ π) *ℤ τ +ℤ z) +ℤ (q *ℤ π) *ℤ x) -ℤ (c *ℤ (s *ℤ (s +ℤ q *ℤ π))) *ℤ z)
down-identity c s q π τ z x ζ = simp ring (omega (arith, lin))

module _ (w b L D : ℕ) (t : Table) (hb : 1 ≤ b) (sized : (v : ℕ) → length (t v) ≡ w) (multiple : (k : ℕ) → 1 ≤ k → k ≤ L → D % size b k ≡ 0) where
  Z-is : (k v : ℕ) → Level b L k v → Z w b L t v ≡ Z_at w b t k v
  Z-is k v o = ap (λ (n : ℕ). Z_at w b t n v) (level-height b L k v o)

  X-is : (k v : ℕ) → Level b L k v → X w b L D t v ≡ X_at w b L D t k v
  X-is k v o = ap (λ (n : ℕ). X_at w b L D t n v) (level-height b L k v o)

  kids-are : (k u : ℕ) → 1 ≤ k → Level b L (suc k) u → over_children w b (Z w b L t) u ≡ over_children w b (Z_at w b t k) u
  kids-are k u one o = rows_ext w b (λ j. Z w b L t (child b u j)) (λ j. Z_at w b t k (child b u j)) (λ j g. Z-is k (child b u j) (child-level b L k u j one g o))

  at_leaf : (v : ℕ) → Level b L 1 v → Same (Z w b L t v) (size b 1) (t v) 1
  at_leaf v o = let one : 1 ≡ size b 1 = omega (arith, pow-zero b) in λ i. pos (one i) ⊙ Z-is 1 v o i

  at_parent : (m u : ℕ) → 1 ≤ m → Level b L (suc m) u
      → Same (pos (size b (suc m)) ⊙ Z w b L t u) (size b (suc m)) (pos (size b m) ⊙ (pos (b ^ m) ⊙ t u ⊕ over_children w b (Z w b L t) u)) (size b m)
  at_parent m u one o =
      scale-swap (pos (size b m)) (pos (size b (suc m))) (Z w b L t u)
      ∙ ap (λ (r : Row). pos (size b (suc m)) ⊙ (pos (size b m) ⊙ r))
      (Z-is (suc m) u o ∙ Z-parent w b t m u one ∙ ap (λ (r : Row). pos (b ^ m) ⊙ t u ⊕ r) (sym (kids-are m u one o)))

  at-root : 1 ≤ L → Same (X w b L D t 0) D (Z w b L t 0) (size b L)
  at-root one =
      let k : height b L 0 ≡ L = height-root b L in
      let none : L - L ≡ 0 = omega arith in
      let r : Row = Z_at w b t L 0 in
      let rl : length r ≡ w = Z-length w b L D t sized L 0 in
      let near : length (pos (D / size b L) ⊙ r) ≡ w = scale-length (pos (D / size b L)) r ∙ rl in
      let far : length (pos (b ^ (L - 1)) ⊙ zeros w) ≡ w = scale-length (pos (b ^ (L - 1))) (zeros w) ∙ zeros-length w in
      let whole : size b L * (D / size b L) ≡ D = omega (arith, div-add-mod D (size b L), multiple L one (omega arith)) in
      ap (λ (s : Row). pos (size b L) ⊙ s) (ap (λ (n : ℕ). X_at w b L D t n 0) k ∙ ap (λ (n : ℕ). pos (D / size b L) ⊙ r ⊕ pos (b ^ (L - 1)) ⊙ C_at w b L D t n 0) none)
      ∙ same_row w (pos (size b L) ⊙ (pos (D / size b L) ⊙ r ⊕ pos (b ^ (L - 1)) ⊙ zeros w)) (pos D ⊙ r)
      (scale-length (pos (size b L)) (pos (D / size b L) ⊙ r ⊕ pos (b ^ (L - 1)) ⊙ zeros w) ∙ zip_length ◌+ℤ◌ w (pos (D / size b L) ⊙ r) (pos (b ^ (L - 1)) ⊙ zeros w) near far)
      (scale-length (pos D) r ∙ rl)
      (λ i. part-scale (pos (size b L)) (pos (D / size b L) ⊙ r ⊕ pos (b ^ (L - 1)) ⊙ zeros w) i
      ∙ ap (λ x. pos (size b L) *ℤ x) (part-add w (pos (D / size b L) ⊙ r) (pos (b ^ (L - 1)) ⊙ zeros w) near far i
      ∙ (λ e. part-scale (pos (D / size b L)) r i e +ℤ (part-scale (pos (b ^ (L - 1))) (zeros w) i ∙ ap (λ y. pos (b ^ (L - 1)) *ℤ y) (part-zeros w i) ∙ *ℤ-zero (pos (b ^ (L - 1)))) e)
      ∙ +ℤ_idr (pos (D / size b L) *ℤ part r i))
      ∙ sym (assoc (pos (size b L)) (pos (D / size b L)) (part r i)) ∙ ap (λ n. pos n *ℤ part r i) whole ∙ sym (part-scale (pos D) r i))
      ∙ ap (λ (n : ℕ). pos D ⊙ Z_at w b t n 0) (sym k)

  module _ (m u j : ℕ) (o : Level b L (suc (suc m)) u) (g : j < b) where
    abbrev s : ℕ
    s = size b (suc m)

    abbrev s' : ℕ
    s' = size b (suc (suc m))

    P : Parts D s s'
    P = parts b D s s' (size-positive b m) (size-next b (suc m)) (multiple (suc m) (omega arith) (omega (arith, o.high))) (multiple (suc (suc m)) (omega arith) o.high)

    abbrev zc : Row
    zc = Z_at w b t (suc m) (child b u j)

    abbrev xu : Row
    xu = X_at w b L D t (suc (suc m)) u

    abbrev zs : Row
    zs = over_children w b (Z_at w b t (suc m)) u

    abbrev xc : Row
    xc = X_at w b L D t (suc m) (child b u j)

    abbrev rest : Row
    rest = pos s ⊙ xu ⊖ pos D ⊙ zs

    zs-length : length zs ≡ w
    zs-length = rows-length w b (λ j. Z_at w b t (suc m) (child b u j)) (λ j _. Z-length w b L D t sized (suc m) (child b u j))

    xu-length : length (pos s ⊙ xu) ≡ w
    xu-length = scale-length (pos s) xu ∙ X-length w b L D t sized (suc (suc m)) u

    zd-length : length (pos D ⊙ zs) ≡ w
    zd-length = scale-length (pos D) zs ∙ zs-length

    zc-length : length (pos (b * D) ⊙ zc) ≡ w
    zc-length = scale-length (pos (b * D)) zc ∙ Z-length w b L D t sized (suc m) (child b u j)

    rest-length : length rest ≡ w
    rest-length = zip_length ◌-ℤ◌ w (pos s ⊙ xu) (pos D ⊙ zs) xu-length zd-length

    sum-length : length (pos (b * D) ⊙ zc ⊕ rest) ≡ w
    sum-length = zip_length ◌+ℤ◌ w (pos (b * D) ⊙ zc) rest zc-length rest-length

    -- the right side without its factor D, by its components
    right : (i : ℕ) → part (pos (b * D) ⊙ zc ⊕ rest) i ≡ (pos b *ℤ pos D) *ℤ part zc i +ℤ (pos s *ℤ part xu i -ℤ pos D *ℤ sum b (λ j. part (Z_at w b t (suc m) (child b u j)) i))
    right i =
        part-add w (pos (b * D) ⊙ zc) rest zc-length rest-length i
        ∙ (λ e. part-scale (pos (b * D)) zc i e +ℤ (part-sub w (pos s ⊙ xu) (pos D ⊙ zs) xu-length zd-length i
        ∙ (λ f. part-scale (pos s) xu i f -ℤ (part-scale (pos D) zs i ∙ ap (λ y. pos D *ℤ y) (part-rows w b (λ j. Z_at w b t (suc m) (child b u j)) (λ j _. Z-length w b L D t sized (suc m) (child b u j)) i)) f)) e)

    abbrev c : ℤ
    c = pos (D / (s * s'))

    power : pos (b ^ suc m) ≡ pos b *ℤ pos (b ^ m)
    power = ap pos (pow-succ' b m)

    whole : pos D ≡ c *ℤ (pos s *ℤ (pos s +ℤ pos b *ℤ pos (b ^ m)))
    whole = ap pos P.both ∙ ap (λ y. c *ℤ (pos s *ℤ (pos s +ℤ y))) power

    module _ (i : ℕ) where
      abbrev τ : ℤ
      τ = part (t u) i

      abbrev z : ℤ
      z = sum b (λ j. part (Z_at w b t (suc m) (child b u j)) i)

      abbrev x : ℤ
      x = part (C_at w b L D t (L - suc (suc m)) u) i

      child-is : part xc i ≡ (c *ℤ (pos s +ℤ pos b *ℤ pos (b ^ m))) *ℤ part zc i +ℤ pos (b ^ m) *ℤ (x +ℤ c *ℤ (pos s *ℤ τ -ℤ z))
      child-is = X-child w b L D t sized m u o.high P i j g ∙ ap (λ y. (c *ℤ (pos s +ℤ y)) *ℤ part zc i +ℤ pos (b ^ m) *ℤ (x +ℤ c *ℤ (pos s *ℤ τ -ℤ z))) power

      parent_is : part xu i ≡ (c *ℤ pos s) *ℤ ((pos b *ℤ pos (b ^ m)) *ℤ τ +ℤ z) +ℤ (pos b *ℤ pos (b ^ m)) *ℤ x
      parent_is = X-parent w b L D t sized m u o.high P i ∙ ap (λ y. (c *ℤ pos s) *ℤ (y *ℤ τ +ℤ z) +ℤ y *ℤ x) power

      core : pos b *ℤ (pos s *ℤ part xc i) ≡ (pos b *ℤ pos D) *ℤ part zc i +ℤ (pos s *ℤ part xu i -ℤ pos D *ℤ z)
      core =
          ap (λ y. pos b *ℤ (pos s *ℤ y)) child-is
          ∙ down-identity c (pos s) (pos b) (pos (b ^ m)) τ z x (part zc i)
          ∙ sym (λ e. (pos b *ℤ whole e) *ℤ part zc i +ℤ (pos s *ℤ parent_is e -ℤ whole e *ℤ z))

    regroup : (β δ σ y : ℤ) → ((β *ℤ δ) *ℤ σ) *ℤ y ≡ δ *ℤ (β *ℤ (σ *ℤ y))
    regroup β δ σ y = assoc (β *ℤ δ) σ y ∙ assoc β δ (σ *ℤ y) ∙ left_comm β δ (σ *ℤ y)

    at_child : pos (b * D * s) ⊙ xc ≡ pos D ⊙ (pos (b * D) ⊙ zc ⊕ rest)
    at_child =
        same_row w (pos (b * D * s) ⊙ xc) (pos D ⊙ (pos (b * D) ⊙ zc ⊕ rest))
        (scale-length (pos (b * D * s)) xc ∙ X-length w b L D t sized (suc m) (child b u j)) (scale-length (pos D) (pos (b * D) ⊙ zc ⊕ rest) ∙ sum-length)
        (λ i. part-scale (pos (b * D * s)) xc i ∙ regroup (pos b) (pos D) (pos s) (part xc i) ∙ ap (λ y. pos D *ℤ y) (core i ∙ sym (right i)) ∙ sym (part-scale (pos D) (pos (b * D) ⊙ zc ⊕ rest) i))

  at-children : (m u j : ℕ) → 1 ≤ m → Level b L (suc m) u → j < b
      → Same (X w b L D t (child b u j)) D (pos (b * D) ⊙ Z w b L t (child b u j) ⊕ (pos (size b m) ⊙ X w b L D t u ⊖ pos D ⊙ over_children w b (Z w b L t) u)) (b * D * size b m)
  at-children zero u j one o g = absurd (omega arith)
  at-children (suc m) u j one o g =
      let q : Level b L (suc m) (child b u j) = child-level b L (suc m) u j one g o in
      ap (λ (r : Row). pos (b * D * size b (suc m)) ⊙ r) (X-is (suc m) (child b u j) q)
      ∙ at_child m u j o g
      ∙ sym (λ i. pos D ⊙ (pos (b * D) ⊙ Z-is (suc m) (child b u j) q i ⊕ (pos (size b (suc m)) ⊙ X-is (suc (suc m)) u o i ⊖ pos D ⊙ kids-are (suc m) u one o i)))

  pub recurrences : 1 ≤ L → TwoPass w b L D t
  recurrences one = record { leaf = at_leaf; up = at_parent; root = at-root one; down = at-children }

-- the rows past the last node do not matter
pub two-pass : TwoPassStands
two-pass w b L D t hb one multiple sized =
    let n = size b L in
    let t' : Table = clip w n t in
    let same : (v : ℕ) → v < n → t v ≡ t' v = λ v h. sym (clip-in w n t v h) in
    let Zs : (v : ℕ) → v < n → Z w b L t v ≡ Z w b L t' v = Z-node-agree w b L D t t' hb same in
    let Xs : (v : ℕ) → v < n → X w b L D t v ≡ X w b L D t' v = X-agree w b L D t t' hb same in
    let kids : (m u : ℕ) → 1 ≤ m → Level b L (suc m) u → over_children w b (Z w b L t) u ≡ over_children w b (Z w b L t') u =
    λ m u l o. rows_ext w b (λ j. Z w b L t (child b u j)) (λ j. Z w b L t' (child b u j)) (λ j g. Zs (child b u j) (level-node b L m (child b u j) (child-level b L m u j l g o))) in
    let R = recurrences w b L D t' hb (clip-sized w n t sized) (λ k l h. mod-eq-zero_of_dvd (size b k) (multiple k l h)) one in
    record {
      leaf = λ v o. let h = level-node b L 1 v o in (λ i. pos 1 ⊙ Zs v h i) ∙ R.leaf v o ∙ sym (λ i. pos (size b 1) ⊙ same v h i);
      up = λ m u l o. let h = level-node b L (suc m) u o in
          (λ i. pos (size b m) ⊙ (pos (size b (suc m)) ⊙ Zs u h i)) ∙ R.up m u l o
          ∙ sym (λ i. pos (size b (suc m)) ⊙ (pos (size b m) ⊙ (pos (b ^ m) ⊙ same u h i ⊕ kids m u l o i)));
      root = let h = size-some b L one in (λ i. pos (size b L) ⊙ Xs 0 h i) ∙ R.root ∙ sym (λ i. pos D ⊙ Zs 0 h i);
      down = λ m u j l o g.
          let h = level-node b L (suc m) u o in
          let q = level-node b L m (child b u j) (child-level b L m u j l g o) in
          (λ i. pos (b * D * size b m) ⊙ Xs (child b u j) q i) ∙ R.down m u j l o g
          ∙ sym (λ i. pos D ⊙ (pos (b * D) ⊙ Zs (child b u j) q i ⊕ (pos (size b m) ⊙ Xs u h i ⊖ pos D ⊙ kids m u l o i)));
    }
