use Rattle.formats.proofs.Tables.{read-whole}
use Rattle.formats.proofs.read.read_table.Goals as goal

pub returns-clause-answer : goal.returns-clause-answer
returns-clause-answer g c =
    read-whole g.K.Kind.row g.K.Kind.number g.K.Kind.width c.args.table.now c.in_ok-shape.shape c.args.noisy.now _ _ _ _ _
    c.in_ok-header.ensures.1 c.in_ok-header.ensures.0 c.in_ok-check_kind.ensures.0 c.in_ok-shape.ensures.0 c.in_ok-shape.ensures.1.0 c.in_ok-shape.ensures.1.1
    c.in_ok-fill_into.ensures.answer.0 c.in_ok-fill_into.ensures.answer.1
