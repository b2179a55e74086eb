-- What counts on a tree are.
use Rattle.std.specs.Prelude.{ℕ, ◌<◌, List}
use Rattle.algebra.specs.Row.{Row, Within, row_at}
use Rattle.shapes.specs.Laid.{entry_limit}
use Rattle.shapes.specs.Tree.{size}

-- The cell of each node is within the entry limit.
abbrev pub Entries : {K : Type 0} → (K → Row) → (b L : ℕ) → List K → Type 0
Entries row b L cells = (v : ℕ) → v < size b L → Within (entry_limit b L) (row_at row cells v)
