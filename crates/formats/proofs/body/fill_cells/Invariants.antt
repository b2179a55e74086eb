use Rattle.std.proofs.Common.{◌≡◌, ℕ, ◌<◌}
use Rattle.algebra.specs.Row.{row_at}
use Rattle.formats.specs.NoisyTable.{body_row}
use Rattle.formats.proofs.body.fill_cells.Given as goal

abbrev pub invariant-loop-v : goal.invariant-loop-v
invariant-loop-v g l = (u : ℕ) → u < l.v → row_at g.K.Kind.row l.cell-items u ≡ body_row g.K.Kind.width l.components u
