-- The formulas look at the nodes alone: noisy tables that agree there have the same X there.
use Rattle.std.proofs.Common.{◌≡◌, ℕ, zero, suc, ◌+◌, ◌-◌, ◌*◌, ◌/◌, ◌^◌, ◌<◌, ◌≤◌, cond, ltb, length, pos, sym, refl, ap, ◌∙◌, subst, arith}
use native.Mathlib.Decide.{dec_lt}
use Rattle.std.proofs.lemmas.Bool.{lt-ltb, le-ltb}
use Rattle.algebra.specs.Row.{zeros, ◌⊕◌, ◌⊖◌, ◌⊙◌}
use Rattle.algebra.proofs.Rows.{rows_ext, zeros-length}
use Rattle.shapes.specs.Tree.{size, child, parent, height, Level}
use Rattle.shapes.proofs.Heights.{level-node, node-level, child-level, parent-level}
use Rattle.inference.specs.Table.{Table}
use Rattle.inference.specs.Formulas.{Z_at, share, C_at, X_at, Z, X}

-- a table with zeros past the last of N nodes
unfoldable pub clip : ℕ → ℕ → Table → Table
clip w N T v = cond (ltb v N) (T v) (zeros w)

pub clip-in : (w N : ℕ) (T : Table) (v : ℕ) → v < N → clip w N T v ≡ T v
unfolding clip
clip-in w N T v h = ap (λ c. cond c (T v) (zeros w)) (lt-ltb v N h)

pub clip-sized : (w N : ℕ) (T : Table) → ((v : ℕ) → v < N → length (T v) ≡ w) → (v : ℕ) → length (clip w N T v) ≡ w
unfolding clip
clip-sized w N T s v = by (dec_lt v N)
  where
    by : Dec (v < N) → length (cond (ltb v N) (T v) (zeros w)) ≡ w
    by (yes h) = ap (λ c. length (cond c (T v) (zeros w))) (lt-ltb v N h) ∙ s v h
    by (no h) = ap (λ c. length (cond c (T v) (zeros w))) (le-ltb v N (omega arith)) ∙ zeros-length w

module _ (w b L D : ℕ) (t t' : Table) (hb : 1 ≤ b) (same : (v : ℕ) → v < size b L → t v ≡ t' v) where
  Z-agree : (m v : ℕ) → Level b L (suc m) v → Z_at w b t (suc m) v ≡ Z_at w b t' (suc m) v
  Z-agree zero v o = same v (level-node b L 1 v o)
  Z-agree (suc m) v o = λ i.
      pos (b ^ suc m) ⊙ same v (level-node b L (suc (suc m)) v o) i
      ⊕ rows_ext w b (λ j. Z_at w b t (suc m) (child b v j)) (λ j. Z_at w b t' (suc m) (child b v j)) (λ j g. Z-agree m (child b v j) (child-level b L (suc m) v j (omega arith) g o)) i

  Z-level-agree : (k v : ℕ) → Level b L k v → Z_at w b t k v ≡ Z_at w b t' k v
  Z-level-agree zero v o = absurd (omega (arith, o.low))
  Z-level-agree (suc m) v o = Z-agree m v o

  pub Z-node-agree : (v : ℕ) → v < size b L → Z w b L t v ≡ Z w b L t' v
  Z-node-agree v h = Z-level-agree (height b L v) v (node-level b L v h)

  share-agree : (m u : ℕ) → Level b L (suc (suc m)) u → share w b D t (suc m) u ≡ share w b D t' (suc m) u
  share-agree m u o = λ i.
      pos (D / (size b (suc m) * size b (suc (suc m)))) ⊙ (pos (size b (suc m)) ⊙ same u (level-node b L (suc (suc m)) u o) i
      ⊖ rows_ext w b (λ j. Z_at w b t (suc m) (child b u j)) (λ j. Z_at w b t' (suc m) (child b u j)) (λ j g. Z-agree m (child b u j) (child-level b L (suc m) u j (omega arith) g o)) i)

  C-agree : (d m v : ℕ) → d + suc m ≡ L → Level b L (suc m) v → C_at w b L D t d v ≡ C_at w b L D t' d v
  C-agree zero m v e o = refl
  C-agree (suc d) m v e o =
      let u = parent b v in
      let p : Level b L (suc (suc m)) u = parent-level b L (suc m) v hb (omega arith) o in
      let h : L - suc d ≡ suc m = omega arith in
      λ i. C-agree d (suc m) u (omega arith) p i ⊕ subst (λ (n : ℕ). share w b D t n u ≡ share w b D t' n u) (sym h) (share-agree m u p) i

  X-level-agree : (k v : ℕ) → Level b L k v → X_at w b L D t k v ≡ X_at w b L D t' k v
  X-level-agree zero v o = absurd (omega (arith, o.low))
  X-level-agree (suc m) v o = λ i.
      pos (D / size b (suc m)) ⊙ Z-agree m v o i ⊕ pos (b ^ (suc m - 1)) ⊙ C-agree (L - suc m) m v (omega (arith, o.high)) o i

  pub X-agree : (v : ℕ) → v < size b L → X w b L D t v ≡ X w b L D t' v
  X-agree v h = X-level-agree (height b L v) v (node-level b L v h)
