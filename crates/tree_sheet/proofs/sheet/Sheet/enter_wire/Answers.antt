use Rattle.std.proofs.Common.{Ok, arith}
use Rattle.std.proofs.lemmas.Grind.{common_steps}
use Rattle.history.proofs.Steps.{wire-step}
use Rattle.tree_sheet.proofs.sheet.Sheet.enter_wire.Goals as goal

pub returns-in_err-check_count-clause-history : goal.returns-in_err-check_count-clause-history
returns-in_err-check_count-clause-history g c =
    wire-step g.K.Kind.row g.K.Kind.number g.K.Kind.width g.K.Kind.product _ _ _ _ _ (grind (arith, common_steps))

pub returns-clause-history : goal.returns-clause-history
returns-clause-history g c =
    wire-step g.K.Kind.row g.K.Kind.number g.K.Kind.width g.K.Kind.product _ _ _ c.args.cell (Ok tt) (grind (arith, common_steps))
