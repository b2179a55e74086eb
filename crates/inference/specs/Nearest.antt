-- What "nearest" means, for any product of rows that keeps the three laws.
use Rattle.std.specs.Prelude.{ℕ, ◌*◌, ◌≤◌, ℤ, pos, ◌*ℤ◌, ◌<ℤ◌, ◌≢◌}
use Rattle.std.specs.Int.{◌∣◌}
use Rattle.algebra.specs.Row.{Row, Product, ◌⊖◌, ◌⊙◌}
use Rattle.algebra.specs.Sum.{sum}
use Rattle.shapes.specs.Tree.{size, Node}
use Rattle.inference.specs.Table.{Table, Sized, AddsUp}
use Rattle.inference.specs.Formulas.{X}

-- The distance of two tables of n nodes: the sum, over all nodes, of the product of their difference with itself.
abbrev pub distance : (Row → Row → ℤ) → ℕ → Table → Table → ℤ
distance dot n A B = sum n (λ v. dot (A v ⊖ B v) (A v ⊖ B v))

-- k times a table
abbrev pub times : ℕ → Table → Table
times k T v = pos k ⊙ T v

-- A rival is a table Y of whole-number rows over q, from 1 up, that adds up.
pub record Rival (w b L q : ℕ) (Y : Table) : Type 0 where
  pub whole : 1 ≤ q
  pub sized : Sized w b L Y
  pub adds_up : AddsUp w b L Y

-- Y over q is another table than X over D: q X and D Y differ at some node.
abbrev pub Another : (b L D q : ℕ) → Table → Table → Type 0
Another b L D q X Y = (v : ℕ) × (Node b L v × (times q X v ≢ times D Y v))

-- X over D is nearer to t than Y over q, told over whole numbers.
abbrev pub Nearer : (Row → Row → ℤ) → ℕ → Table → (D : ℕ) → Table → (q : ℕ) → Table → Type 0
Nearer dot n t D X q Y = (pos (q * q) *ℤ distance dot n X (times D t)) <ℤ (pos (D * D) *ℤ distance dot n Y (times q t))

-- X over D adds up, and every other table that adds up lies strictly farther from t.
pub record Nearest (w b L D : ℕ) (dot : Row → Row → ℤ) (t X : Table) : Type 0 where
  pub adds_up : AddsUp w b L X
  pub nearer : (q : ℕ) (Y : Table) → Rival w b L q Y → Another b L D q X Y → Nearer dot (size b L) t D X q Y

abbrev pub Multiple : (b L D : ℕ) → Type 0
Multiple b L D = (k : ℕ) → 1 ≤ k → k ≤ L → size b k ∣ D

-- The table of the formulas is the nearest that adds up, for counts of any size.
abbrev pub TreeNearest : Type 0
TreeNearest = (w b L D : ℕ) (dot : Row → Row → ℤ) (t : Table) → 1 ≤ b → 1 ≤ L → Multiple b L D → Product w dot → Sized w b L t
    → Nearest w b L D dot t (X w b L D t)
