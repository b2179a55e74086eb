-- What a release asks of a tree sheet, and which slices a sheet works over.
use Rattle.std.specs.Prelude.{◌≡◌, ℕ, ◌<◌, ◌≤◌, length}
use Rattle.algebra.specs.Row.{Row, row_at, Within}
use Rattle.history.specs.Facts.{Form, nodes, limit}
use Rattle.tree_sheet.specs.declared.sheet.Sheet.{Sheet}

-- Each slice is long enough for n nodes.
pub record Roomy {K : Type 0} (n : ℕ) (s : Sheet K) : Type 0 where
  pub noisy : n ≤ length s.noisy.now
  pub marks : n ≤ length s.marks.now
  pub numerators : n ≤ length s.numerators.now
  pub work : n ≤ length s.work.now

-- The slices have room for a shape, and its counts are within its limit.
pub record Ready {K : Type 0} (row : K → Row) (f : Form) (s : Sheet K) : Type 0 where
  pub roomy : Roomy (nodes f) s
  pub counts : (v : ℕ) → v < nodes f → Within (limit f) (row_at row s.noisy.now v)

-- Each slice is the one that was lent.
pub record Lent {K : Type 0} (s s' : Sheet K) : Type 0 where
  pub noisy : s'.noisy.ghost_name ≡ s.noisy.ghost_name
  pub marks : s'.marks.ghost_name ≡ s.marks.ghost_name
  pub numerators : s'.numerators.ghost_name ≡ s.numerators.ghost_name
  pub work : s'.work.ghost_name ≡ s.work.ghost_name
