use Rattle.std.proofs.Common.{ap, ◌∙◌, arith, mul-le-mul_left}
use Rattle.algebra.specs.Row.{row_at}
use Rattle.algebra.proofs.Places.{row_read, row_sized}
use Rattle.formats.specs.Publication.{row_bytes}
use Rattle.formats.proofs.Overlay.{rows_written}
use Rattle.formats.proofs.publication.write_cells.Goals as goal

pub loop-v-preserved : goal.loop-v-preserved
loop-v-preserved g c =
    let w = g.K.Kind.width in
    let cells = c.args.cells.now in
    let v = c.loop-v.v in
    rows_written c.loop-v.out _ w _ v _ (row_at g.K.Kind.row cells) c.width-size.ensures
    (omega (arith, mul-le-mul_left w c.loop-v.auto.v-end))
    (c.write_cell.ensures ∙ ap row_bytes (row_read g.K.Kind.row cells v c.index-cells-v.result c.loop-v-test.true c.index-cells-v.is))
    (row_sized g.K.Kind.row w g.met.K.Kind.sized cells v c.loop-v-test.true) c.loop-v.invariant
