-- The formulas one step at a time, as a program works them out.
use Rattle.std.proofs.Common.{◌≡◌, ℕ, zero, suc, ◌+◌, ◌-◌, ◌^◌, ◌<◌, ◌≤◌, length, ℤ, pos, ◌+ℤ◌, ◌-ℤ◌, ◌*ℤ◌, sym, refl, ap, ◌∙◌, arith}
use Rattle.algebra.specs.Row.{Row, part, ◌⊕◌, ◌⊖◌, ◌⊙◌}
use Rattle.algebra.proofs.Ring.{ring, lin}
use Rattle.algebra.proofs.Rows.{zip_length, scale-length, rows-length, part-add, part-sub, part-scale, same_row}
use Rattle.shapes.specs.Tree.{size, child, Level}
use Rattle.shapes.proofs.Sizes.{parent_of}
use Rattle.shapes.proofs.Heights.{level-node, child-level}
use Rattle.inference.specs.Table.{Table, Sized, over_children}
use Rattle.inference.specs.Formulas.{Z_at, share, C_at}

-- Z at a node of height k + 1 that has children
pub Z-parent : (w b : ℕ) (t : Table) (k v : ℕ) → 1 ≤ k → Z_at w b t (suc k) v ≡ pos (b ^ k) ⊙ t v ⊕ over_children w b (Z_at w b t k) v
Z-parent w b t zero v one = absurd (omega arith)
Z-parent w b t (suc m) v one = refl

-- (s + p) t − (p t + z) = s t − z, row by row
take_own : (w s p : ℕ) (t z : Row) → length t ≡ w → length z ≡ w → pos (s + p) ⊙ t ⊖ (pos p ⊙ t ⊕ z) ≡ pos s ⊙ t ⊖ z
take_own w s p t z ht hz =
    let hs : length (pos s ⊙ t) ≡ w = scale-length (pos s) t ∙ ht in
    let hp : length (pos p ⊙ t) ≡ w = scale-length (pos p) t ∙ ht in
    let hb : length (pos (s + p) ⊙ t) ≡ w = scale-length (pos (s + p)) t ∙ ht in
    let hz' : length (pos p ⊙ t ⊕ z) ≡ w = zip_length ◌+ℤ◌ w (pos p ⊙ t) z hp hz in
    same_row w (pos (s + p) ⊙ t ⊖ (pos p ⊙ t ⊕ z)) (pos s ⊙ t ⊖ z) (zip_length ◌-ℤ◌ w (pos (s + p) ⊙ t) (pos p ⊙ t ⊕ z) hb hz') (zip_length ◌-ℤ◌ w (pos s ⊙ t) z hs hz)
    (λ i. part-sub w (pos (s + p) ⊙ t) (pos p ⊙ t ⊕ z) hb hz' i
    ∙ (λ e. part-scale (pos (s + p)) t i e -ℤ (part-add w (pos p ⊙ t) z hp hz i ∙ ap (λ x. x +ℤ part z i) (part-scale (pos p) t i)) e)
    ∙ identity (pos s) (pos p) (part t i) (part z i)
    ∙ sym (part-sub w (pos s ⊙ t) z hs hz i ∙ ap (λ x. x -ℤ part z i) (part-scale (pos s) t i)))
  where
    identity : (a b x y : ℤ) → (a +ℤ b) *ℤ x -ℤ (b *ℤ x +ℤ y) ≡ a *ℤ x -ℤ y
    identity a b x y = simp ring (omega (arith, lin))

module _ (w b L : ℕ) (t : Table) (sized : Sized w b L t) where
  pub Z-length : (m v : ℕ) → Level b L (suc m) v → length (Z_at w b t (suc m) v) ≡ w
  Z-length zero v o = sized v (level-node b L 1 v o)
  Z-length (suc m) v o =
      zip_length ◌+ℤ◌ w (pos (b ^ suc m) ⊙ t v) (over_children w b (Z_at w b t (suc m)) v) (scale-length (pos (b ^ suc m)) (t v) ∙ sized v (level-node b L (suc (suc m)) v o))
      (rows-length w b (λ j. Z_at w b t (suc m) (child b v j)) (λ j g. Z-length m (child b v j) (child-level b L (suc m) v j (omega arith) g o)))

  pub kids-length : (m v : ℕ) → Level b L (suc (suc m)) v → length (over_children w b (Z_at w b t (suc m)) v) ≡ w
  kids-length m v o = rows-length w b (λ j. Z_at w b t (suc m) (child b v j)) (λ j g. Z-length m (child b v j) (child-level b L (suc m) v j (omega arith) g o))

  -- what a node of height k + 1 has over its children, of its own count and its own Z
  pub rest-own : (k u : ℕ) → 1 ≤ k → Level b L (suc k) u → pos (size b (suc k)) ⊙ t u ⊖ Z_at w b t (suc k) u ≡ pos (size b k) ⊙ t u ⊖ over_children w b (Z_at w b t k) u
  rest-own zero u one o = absurd (omega arith)
  rest-own (suc m) u one o =
      take_own w (size b (suc m)) (b ^ suc m) (t u) (over_children w b (Z_at w b t (suc m)) u) (sized u (level-node b L (suc (suc m)) u o)) (kids-length m u o)

-- C at a child of height k, of its parent's C and what the parent hands down
pub C-child : (w b L D : ℕ) (t : Table) (k u j : ℕ) → suc k ≤ L → j < b → C_at w b L D t (L - k) (child b u j) ≡ C_at w b L D t (L - suc k) u ⊕ share w b D t k u
C-child w b L D t k u j h g =
    let e : L - k ≡ suc (L - suc k) = omega arith in
    let f : L - suc (L - suc k) ≡ k = omega arith in
    ap (λ (n : ℕ). C_at w b L D t n (child b u j)) e
    ∙ (λ i. C_at w b L D t (L - suc k) (parent_of b u j g i) ⊕ share w b D t (f i) (parent_of b u j g i))
