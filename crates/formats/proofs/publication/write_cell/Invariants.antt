use Rattle.std.proofs.Common.{◌≡◌, ◌*◌, take, drop}
use Rattle.std.specs.Iterator.Adapters.{enumerate_source, enumerate_count}
use Rattle.cells.specs.Components.{components_left}
use Rattle.formats.specs.Publication.{row_bytes}
use Rattle.formats.proofs.publication.write_cell.Given as goal

-- the components that were told are written, and the others are still to be told
abbrev pub invariant-loop-i : goal.invariant-loop-i
invariant-loop-i g l =
    (components_left g.K.Kind.row (enumerate_source l.i-iterator) ≡ drop (enumerate_count l.i-iterator) (g.K.Kind.row l.fn.cell))
    × (take (8 * enumerate_count l.i-iterator) l.out ≡ row_bytes (take (enumerate_count l.i-iterator) (g.K.Kind.row l.fn.cell)))
