-- The published recurrences of the two passes, as equations of fractions: z of a node of height k is Z over S_k, and h is X over D.
use Rattle.std.specs.Prelude.{◌≡◌, ℕ, suc, ◌*◌, ◌^◌, ◌<◌, ◌≤◌, pos}
use Rattle.algebra.specs.Row.{Row, ◌⊕◌, ◌⊖◌, ◌⊙◌}
use Rattle.shapes.specs.Tree.{size, child, Level}
use Rattle.inference.specs.Table.{Table, Sized, over_children}
use Rattle.inference.specs.Formulas.{Z, X}
use Rattle.inference.specs.Nearest.{Multiple}

-- r over p is s over q, by cross-multiplication
abbrev pub Same : Row → ℕ → Row → ℕ → Type 0
Same r p s q = pos q ⊙ r ≡ pos p ⊙ s

pub record TwoPass (w b L D : ℕ) (t : Table) : Type 0 where
  -- z at a leaf is the count
  pub leaf : (v : ℕ) → Level b L 1 v → Same (Z w b L t v) (size b 1) (t v) 1
  -- at a parent of height m + 1: S_(m+1) × z = b^m × the count + S_m × the sum of the children's z
  pub up : (m u : ℕ) → 1 ≤ m → Level b L (suc m) u
      → Same (pos (size b (suc m)) ⊙ Z w b L t u) (size b (suc m)) (pos (size b m) ⊙ (pos (b ^ m) ⊙ t u ⊕ over_children w b (Z w b L t) u)) (size b m)
  -- h at the root is z
  pub root : Same (X w b L D t 0) D (Z w b L t 0) (size b L)
  -- at a child of height m: h = z + (the parent's h − the sum of z over the parent's children) ÷ b
  pub down : (m u j : ℕ) → 1 ≤ m → Level b L (suc m) u → j < b
      → Same (X w b L D t (child b u j)) D
      (pos (b * D) ⊙ Z w b L t (child b u j) ⊕ (pos (size b m) ⊙ X w b L D t u ⊖ pos D ⊙ over_children w b (Z w b L t) u)) (b * D * size b m)

abbrev pub TwoPassStands : Type 0
TwoPassStands = (w b L D : ℕ) (t : Table) → 1 ≤ b → 1 ≤ L → Multiple b L D → Sized w b L t → TwoPass w b L D t
