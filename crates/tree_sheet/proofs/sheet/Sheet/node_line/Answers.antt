use Rattle.tree_sheet.specs.Held.{contents}
use Rattle.tree_sheet.proofs.Lined.{line-so}
use Rattle.tree_sheet.proofs.sheet.Sheet.node_line.Goals as goal

pub returns : goal.returns
returns g c =
    let read = c.in_ok-cell.ensures.outcome in
    let line = line-so g.K.Kind.row (contents c.args.self.now) c.args.node c.in_ok-cell.cell c.in_ok-cell.denominator read.1 c.args.out.now c.node_line.new.out c.node_line.result
    read.0 c.node_line.ensures.answers c.node_line.ensures.buffer in
    record { outcome = line.0; buffer = line.1; same = c.in_ok-cell.ensures.same }
