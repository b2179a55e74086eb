use Rattle.std.proofs.Common.{arith}
use Rattle.formats.proofs.Tables.{filled}
use Rattle.formats.proofs.header.Header.fill_into.Goals as goal

pub returns-clause-answer : goal.returns-clause-answer
returns-clause-answer g c =
    filled g.K.Kind.row g.K.Kind.width c.args.shape.fanout c.args.shape.height _ c.nodes-nodes.result _ c.args.noisy.now _ c.nodes-nodes.ensures.count (omega arith)
    c.in_ok-check_body.ensures.0 c.fill_cells.ensures.rows c.fill_cells.ensures.rest c.fill_cells.ensures.same_length
