-- The two passes of constrained inference on a tree (Hay, Rastogi, Miklau and Suciu 2010), over whole numbers: t is the noisy
-- table, D a common multiple of S_1 … S_L, and X over D the table that is published. Rows have width w, the tree has
-- fan-out b and height L.
use Rattle.std.specs.Prelude.{ℕ, zero, suc, ◌-◌, ◌*◌, ◌/◌, ◌^◌, pos}
use Rattle.algebra.specs.Row.{◌⊕◌, ◌⊖◌, ◌⊙◌, zeros}
use Rattle.shapes.specs.Tree.{size, parent, height}
use Rattle.inference.specs.Table.{Table, over_children}

-- Upwards: Z at a node of height k. A leaf has its own count, a parent b^(k−1) times its own and the sum of its children's Z.
abbrev pub Z_at : (w b : ℕ) → Table → ℕ → Table
Z_at w b t zero v = zeros w
Z_at w b t (suc zero) v = t v
Z_at w b t (suc (suc m)) v = pos (b ^ suc m) ⊙ t v ⊕ over_children w b (Z_at w b t (suc m)) v

-- what a node u hands to each of its children, which have height m
abbrev pub share : (w b D : ℕ) → Table → ℕ → Table
share w b D t m u = pos (D / (size b m * size b (suc m))) ⊙ (pos (size b m) ⊙ t u ⊖ over_children w b (Z_at w b t m) u)

-- Downwards: C at a node d levels below the root. The root has 0, a child its parent's C and what the parent hands down.
abbrev pub C_at : (w b L D : ℕ) → Table → ℕ → Table
C_at w b L D t zero v = zeros w
C_at w b L D t (suc d) v = C_at w b L D t d (parent b v) ⊕ share w b D t (L - suc d) (parent b v)

-- X at a node of height k, of its Z and its C
abbrev pub X_at : (w b L D : ℕ) → Table → ℕ → Table
X_at w b L D t k v = pos (D / size b k) ⊙ Z_at w b t k v ⊕ pos (b ^ (k - 1)) ⊙ C_at w b L D t (L - k) v

-- the same by the node alone
abbrev pub Z : (w b L : ℕ) → Table → Table
Z w b L t v = Z_at w b t (height b L v) v

abbrev pub C : (w b L D : ℕ) → Table → Table
C w b L D t v = C_at w b L D t (L - height b L v) v

abbrev pub X : (w b L D : ℕ) → Table → Table
X w b L D t v = X_at w b L D t (height b L v) v
