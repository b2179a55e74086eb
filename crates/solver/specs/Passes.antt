-- How far the passes have come, over counts on a tree.
use Rattle.std.specs.Prelude.{◌≡◌, ℕ, ◌-◌, ◌<◌, ◌≤◌, List}
use Rattle.algebra.specs.Row.{row_at}
use Rattle.cells.specs.declared.kind.Kind.{Ghosts}
use Rattle.shapes.specs.Denominator.{denominator_of}
use Rattle.shapes.specs.Tree.{size}
use Rattle.inference.specs.Table.{Table}
use Rattle.inference.specs.Formulas.{Z, C, X}
use Rattle.solver.specs.declared.counts.Counts.{Counts}

-- How many nodes there are.
abbrev pub nodes : {K : Type 0} {kind : Ghosts K} → Counts K kind → ℕ
nodes c = size c.shape.fanout c.shape.height

-- How many nodes lie above height k, which is the first node of that height.
abbrev pub above : {K : Type 0} {kind : Ghosts K} → Counts K kind → ℕ → ℕ
above c k = size c.shape.fanout (c.shape.height - k)

-- The rows of the counts, and what the formulas make of them.
abbrev pub counted : {K : Type 0} {kind : Ghosts K} → Counts K kind → Table
counted {kind} c = row_at kind.row c.cells.now

abbrev pub Z_of : {K : Type 0} {kind : Ghosts K} → Counts K kind → Table
Z_of {kind} c = Z kind.width c.shape.fanout c.shape.height (counted c)

abbrev pub C_of : {K : Type 0} {kind : Ghosts K} → Counts K kind → Table
C_of {kind} c = C kind.width c.shape.fanout c.shape.height (denominator_of c.shape.fanout c.shape.height) (counted c)

abbrev pub X_of : {K : Type 0} {kind : Ghosts K} → Counts K kind → Table
X_of {kind} c = X kind.width c.shape.fanout c.shape.height (denominator_of c.shape.fanout c.shape.height) (counted c)

-- Z stands at every node from x on.
abbrev pub Raised : {K : Type 0} {kind : Ghosts K} → Counts K kind → ℕ → List K → Type 0
Raised {kind} c x cells = (v : ℕ) → x ≤ v → v < nodes c → row_at kind.row cells v ≡ Z_of c v

-- C stands at every node below x.
abbrev pub Lowered : {K : Type 0} {kind : Ghosts K} → Counts K kind → ℕ → List K → Type 0
Lowered {kind} c x cells = (v : ℕ) → v < x → v < nodes c → row_at kind.row cells v ≡ C_of c v

-- X stands at every node below x, and C at the others.
pub record Finished {K : Type 0} {kind : Ghosts K} (c : Counts K kind) (x : ℕ) (cells : List K) : Type 0 where
  pub done : (v : ℕ) → v < x → v < nodes c → row_at kind.row cells v ≡ X_of c v
  pub left : (v : ℕ) → x ≤ v → v < nodes c → row_at kind.row cells v ≡ C_of c v
