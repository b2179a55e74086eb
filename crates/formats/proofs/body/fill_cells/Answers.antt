use Rattle.std.proofs.Common.{◌<◌, length, ◌/◌, ◌∙◌, arith}
use Rattle.std.proofs.lemmas.List.{length-take-le}
use Rattle.formats.specs.NoisyTable.{body_row}
use Rattle.formats.proofs.Words.{rows_more, row-words, room-below}
use Rattle.formats.proofs.body.fill_cells.Goals as goal

pub loop-v-preserved : goal.loop-v-preserved
loop-v-preserved g c =
    let w = g.K.Kind.width in
    let v = c.loop-v.v in
    let body = c.args.components.now in
    let inside : v < c.args.n = omega (arith, c.loop-v-test.true, length-take-le c.args.n c.args.noisy.now c.requires.room) in
    let room = room-below w v c.args.n (length body) inside c.requires.whole in
    rows_more g.K.Kind.row (body_row w body) c.loop-v.cell-items v c.cell_of.result (omega (arith, c.loop-v.auto.cell-items))
    (c.cell_of.ensures ∙ row-words w _ v (length body / 4) body _ c.width-width.ensures c.as_chunks.ensures.front (omega arith) (omega arith))
    c.loop-v.invariant
