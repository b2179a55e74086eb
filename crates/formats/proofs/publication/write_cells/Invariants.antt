use Rattle.std.proofs.Common.{◌≡◌, ◌*◌, take}
use Rattle.algebra.specs.Row.{row_at}
use Rattle.formats.specs.Publication.{table_bytes}
use Rattle.formats.proofs.publication.write_cells.Given as goal

abbrev pub invariant-loop-v : goal.invariant-loop-v
invariant-loop-v g l = take (8 * g.K.Kind.width * l.v) l.out ≡ table_bytes l.v (row_at g.K.Kind.row l.cells)
