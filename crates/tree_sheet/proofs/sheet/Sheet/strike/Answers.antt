use Rattle.std.proofs.Common.{Ok, Err, arith}
use Rattle.std.proofs.lemmas.Grind.{common_steps}
use Rattle.history.specs.Contents.{form_of}
use Rattle.history.proofs.Steps.{strike-step}
use Rattle.tree_sheet.proofs.Ended.{count-in}
use Rattle.tree_sheet.proofs.sheet.Sheet.strike.Goals as goal

pub returns-in_err-shape-clause-history : goal.returns-in_err-shape-clause-history
returns-in_err-shape-clause-history g c =
    strike-step g.K.Kind.row g.K.Kind.number g.K.Kind.width g.K.Kind.product _ _ _ _ (grind (arith, common_steps))

pub returns-then-not-is_filled-clause-outcome : goal.returns-then-not-is_filled-clause-outcome
returns-then-not-is_filled-clause-outcome g c =
    let laid = c.in_ok-shape.ensures.answer.1 in
    let here = count-in g.K.Kind.row c.args.self.now (form_of c.in_ok-shape.shape) laid.0 c.args.node laid.1 in
    grind (arith, common_steps)

pub returns-then-not-is_filled-clause-history : goal.returns-then-not-is_filled-clause-history
returns-then-not-is_filled-clause-history g c =
    strike-step g.K.Kind.row g.K.Kind.number g.K.Kind.width g.K.Kind.product _ _ c.args.node (Err _) (returns-then-not-is_filled-clause-outcome g c)

pub returns-clause-outcome : goal.returns-clause-outcome
returns-clause-outcome g c =
    let laid = c.in_ok-shape.ensures.answer.1 in
    let here = count-in g.K.Kind.row c.args.self.now (form_of c.in_ok-shape.shape) laid.0 c.args.node laid.1 in
    grind (arith, common_steps)

pub returns-clause-history : goal.returns-clause-history
returns-clause-history g c =
    strike-step g.K.Kind.row g.K.Kind.number g.K.Kind.width g.K.Kind.product _ _ _ (Ok tt) (returns-clause-outcome g c)
