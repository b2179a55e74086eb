-- The downward pass, one parent at a time, and the last step at one node.
use Rattle.std.proofs.Common.{◌≡◌, ℕ, suc, ◌+◌, ◌-◌, ◌*◌, ◌/◌, ◌^◌, ◌<◌, ◌≤◌, ◌≢◌, ◌⊎◌, List, length, replicate, set, pos, sym, ap, ◌∙◌, subst, inl, inr, arith}
use borrow.Rule.Slice.PartMut.{put_mid}
use native.Mathlib.Nat.{pow-zero}
use Rattle.std.proofs.lemmas.Bool.{cases_lt}
use Rattle.std.proofs.lemmas.List.{length-replicate}
use Rattle.algebra.specs.Row.{Row, Within, row_at, zeros, ◌⊕◌, ◌⊖◌, ◌⊙◌}
use Rattle.algebra.proofs.Places.{row_same, row_other}
use Rattle.cells.specs.Calls.{carry_limit}
use Rattle.cells.specs.declared.kind.Kind.{Ghosts}
use Rattle.shapes.specs.Denominator.{denominator_of}
use Rattle.shapes.specs.Tree.{size, child, height, Level}
use Rattle.shapes.proofs.Heights.{level-height, level-node, child-level, height-root}
use Rattle.shapes.proofs.Sizes.{size-some}
use Rattle.inference.specs.Table.{Sized, over_children}
use Rattle.inference.specs.Formulas.{Z_at, share, C_at, X_at}
use Rattle.inference.proofs.Steps.{rest-own, C-child}
use Rattle.solver.specs.declared.counts.Counts.{Counts}
use Rattle.solver.specs.Steps.{Hands, Settles}
use Rattle.solver.specs.Passes.{nodes, above, counted, Z_of, C_of, X_of, Lowered, Finished}
use Rattle.solver.proofs.Parts.{row_below-part, row_in-part, row_of-replicate}
use Rattle.solver.proofs.Upward.{bounded, Z-level, kids-inside}

module _ {K : Type 0} {kind : Ghosts K} (c : Counts K kind) where
  abbrev b : ℕ
  b = c.shape.fanout

  abbrev L : ℕ
  L = c.shape.height

  abbrev D : ℕ
  D = denominator_of b L

  pub C-level : (k v : ℕ) → Level b L k v → C_of c v ≡ C_at kind.width b L D (counted c) (L - k) v
  C-level k v o = ap (λ (n : ℕ). C_at kind.width b L D (counted c) (L - n) v) (level-height b L k v o)

  pub X-level : (k v : ℕ) → Level b L k v → X_of c v ≡ X_at kind.width b L D (counted c) k v
  X-level k v o = ap (λ (n : ℕ). X_at kind.width b L D (counted c) n v) (level-height b L k v o)

  -- C at the root, which alone is on the top level
  pub lowered-root : (cells : List K) (x : K) → nodes c ≤ length cells → kind.row x ≡ zeros kind.width → Lowered c (above c (L - 1)) (set cells 0 x)
  lowered-root cells x room e v l n =
      let q : L - (L - 1) ≡ 1 = omega (arith, c.shape.shapely.2) in
      let z : v ≡ 0 = omega (arith, subst (λ (m : ℕ). v < size b m) q l, pow-zero b) in
      let h : L - height b L 0 ≡ 0 = omega (arith, height-root b L) in
      subst (λ (m : ℕ). row_at kind.row (set cells 0 x) m ≡ C_of c m) (sym z)
      (row_same kind.row cells 0 x (omega (arith, size-some b L c.shape.shapely.2)) ∙ e ∙ sym (ap (λ (m : ℕ). C_at kind.width b L D (counted c) m 0) h))

  module _ (sized : Sized kind.width b L (counted c)) (k u : ℕ) (one : 1 ≤ k) (o : Level b L (suc k) u)
      (n f : ℕ) (own z r : Row) (en : n ≡ size b (suc k)) (ef : f ≡ D / (size b k * size b (suc k))) (eo : own ≡ counted c u) (ez : z ≡ Z_of c u) (er : r ≡ C_of c u) where
    some : 1 ≤ b
    some = omega (arith, c.shape.shapely.0)

    rest-is : pos n ⊙ own ⊖ z ≡ pos (size b k) ⊙ counted c u ⊖ over_children kind.width b (Z_at kind.width b (counted c) k) u
    rest-is = (λ i. pos (en i) ⊙ eo i ⊖ (ez ∙ Z-level c (suc k) u o) i) ∙ rest-own kind.width b L (counted c) sized k u one o

    share-is : pos f ⊙ (pos n ⊙ own ⊖ z) ≡ share kind.width b D (counted c) k u
    share-is = λ i. pos (ef i) ⊙ rest-is i

    -- what u hands down is C at each of its children
    handed-is : (j : ℕ) → j < b → r ⊕ pos f ⊙ (pos n ⊙ own ⊖ z) ≡ C_of c (child b u j)
    handed-is j g =
        (λ i. (er ∙ C-level (suc k) u o) i ⊕ share-is i)
        ∙ sym (C-level k (child b u j) (child-level b L k u j one g o) ∙ C-child kind.width b L D (counted c) k u j o.high g)

    pub hands : Hands carry_limit n f own z r
    hands = record {
      times = subst (Within carry_limit) (sym (λ i. pos (en i) ⊙ eo i)) ((bounded c).given (suc k) u o);
      rest = subst (Within carry_limit) (sym rest-is) ((bounded c).rest k u one o);
      share = subst (Within carry_limit) (sym share-is) ((bounded c).handed k u one o);
      both = subst (Within carry_limit) (sym (handed-is 0 some ∙ C-level k (child b u 0) (child-level b L k u 0 one some o))) ((bounded c).carried k (child b u 0) (child-level b L k u 0 one some o));
    }

    -- C stands at the children of u once it is spread over them
    pub lowered-more : (cells part : List K) (x : K) (m : ℕ) → m ≡ b → nodes c ≤ length cells → part ≡ replicate m x
        → kind.row x ≡ r ⊕ pos f ⊙ (pos n ⊙ own ⊖ z) → Lowered c (b * u + 1) cells → Lowered c (b * (u + 1) + 1) (put_mid (b * u + 1) m cells part)
    lowered-more cells part x m em room e ex old v h l = by (cases_lt v (b * u + 1))
      where
        inside : b * u + 1 + m ≤ length cells
        inside = omega (arith, kids-inside c k u one o)

        long : length part ≡ m
        long = ap length e ∙ length-replicate m x

        by : (v < b * u + 1) ⊎ (b * u + 1 ≤ v) → row_at kind.row (put_mid (b * u + 1) m cells part) v ≡ C_of c v
        by (inl g) = row_below-part kind.row cells part (b * u + 1) m v g inside ∙ old v g l
        by (inr g) =
            let j = v - (b * u + 1) in
            let q : b * u + 1 + j ≡ v = omega arith in
            let i : j < b = omega arith in
            subst (λ (a : ℕ). row_at kind.row (put_mid (b * u + 1) m cells part) a ≡ C_of c a) q
            (row_in-part kind.row cells part (b * u + 1) m j (omega (arith, long)) inside
            ∙ ap (λ (xs : List K). row_at kind.row xs j) e ∙ row_of-replicate kind.row m x j (omega arith) ∙ ex ∙ handed-is j i)

  module _ (k v : ℕ) (o : Level b L (suc k) v)
      (f p : ℕ) (z r : Row) (ef : f ≡ D / size b (suc k)) (ep : p ≡ b ^ k) (ez : z ≡ Z_of c v) (er : r ≡ C_of c v) where
    near-is : pos f ⊙ z ≡ pos (D / size b (suc k)) ⊙ Z_at kind.width b (counted c) (suc k) v
    near-is = λ i. pos (ef i) ⊙ (ez ∙ Z-level c (suc k) v o) i

    far-is : pos p ⊙ r ≡ pos (b ^ (suc k - 1)) ⊙ C_at kind.width b L D (counted c) (L - suc k) v
    far-is =
        let power : suc k - 1 ≡ k = omega arith in
        λ i. pos ((ep ∙ ap (λ (n : ℕ). b ^ n) (sym power)) i) ⊙ (er ∙ C-level (suc k) v o) i

    settled_is : pos f ⊙ z ⊕ pos p ⊙ r ≡ X_of c v
    settled_is = (λ i. near-is i ⊕ far-is i) ∙ sym (X-level (suc k) v o)

    pub settles : Settles carry_limit f p z r
    settles = record {
      near = subst (Within carry_limit) (sym near-is) ((bounded c).near (suc k) v o);
      far = subst (Within carry_limit) (sym far-is) ((bounded c).far (suc k) v o);
      both = subst (Within carry_limit) (sym (settled_is ∙ X-level (suc k) v o)) ((bounded c).result (suc k) v o);
    }

    -- one more node is finished
    pub finished-more : (cells : List K) (x : K) → nodes c ≤ length cells → kind.row x ≡ pos f ⊙ z ⊕ pos p ⊙ r → Finished c v cells → Finished c (v + 1) (set cells v x)
    finished-more cells x room e old = record {
      done = λ u h l. by u (cases_lt u v) h l;
      left = λ u h l. row_other kind.row cells v u x (let n : u ≢ v = omega arith in n) ∙ old.left u (omega arith) l;
    }
      where
        by : (u : ℕ) → (u < v) ⊎ (v ≤ u) → u < v + 1 → u < nodes c → row_at kind.row (set cells v x) u ≡ X_of c u
        by u (inl g) h l = row_other kind.row cells v u x (let n : u ≢ v = omega arith in n) ∙ old.done u g l
        by u (inr g) h l =
            let q : v ≡ u = omega arith in
            subst (λ (m : ℕ). row_at kind.row (set cells v x) m ≡ X_of c m) q (row_same kind.row cells v x (omega (arith, level-node b L (suc k) v o)) ∙ e ∙ settled_is)
