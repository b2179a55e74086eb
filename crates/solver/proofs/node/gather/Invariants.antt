use Rattle.std.proofs.Common.{◌≡◌}
use Rattle.algebra.specs.Row.{row_at}
use Rattle.algebra.specs.Sum.{sum_rows}
use Rattle.solver.proofs.node.gather.Given as goal

abbrev pub invariant-loop-cell : goal.invariant-loop-cell
invariant-loop-cell g l = g.K.Kind.row l.sum ≡ sum_rows g.K.Kind.width l.cell-index (row_at g.K.Kind.row l.cells)
