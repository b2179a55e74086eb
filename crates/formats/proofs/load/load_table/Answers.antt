use Rattle.formats.proofs.Loads.{load-whole}
use Rattle.formats.proofs.load.load_table.Goals as goal

pub returns-clause-answer : goal.returns-clause-answer
returns-clause-answer g c =
    load-whole g.K.Kind.row g.K.Kind.number g.K.Kind.width c.args.table.now c.args.shape.fanout c.args.shape.height c.args.noisy.now _ _ _ _ _
    c.in_ok-header.ensures.1 c.in_ok-header.ensures.0 c.in_ok-check_kind.ensures.0 c.in_ok-check_shape.ensures.0 c.fill_into.result c.fill_into.ensures.answer
