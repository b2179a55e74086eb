use Rattle.std.proofs.Common.{◌≡◌, take, map}
use Rattle.formats.specs.Bytes.{signed}
use Rattle.formats.proofs.body.cell_of.Given as goal

abbrev pub invariant-loop-i : goal.invariant-loop-i
invariant-loop-i g l = take l.i (g.K.Kind.row l.cell) ≡ map signed (take l.i l.words)
