use Rattle.std.proofs.Common.{get_or, Ok, ap, ◌∙◌, arith}
use Rattle.std.proofs.lemmas.Grind.{common_steps}
use Rattle.history.proofs.Steps.{read_step}
use Rattle.tree_sheet.specs.Held.{contents}
use Rattle.tree_sheet.proofs.sheet.Sheet.read.Goals as goal

pub returns-clause-history : goal.returns-clause-history
returns-clause-history g c =
    read_step g.K.Kind.row g.K.Kind.number g.K.Kind.width g.K.Kind.product _ _ _
    (Ok (get_or c.check_released.new.self.numerators.now c.args.node c.index-self-node.result, c.denominator.result))
    (ap contents (c.check_released.ensures.same ∙ c.in_ok-shape.ensures.same)) (grind (arith, common_steps))
