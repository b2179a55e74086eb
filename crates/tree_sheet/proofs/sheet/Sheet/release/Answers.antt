use Rattle.std.proofs.Common.{Ok, Err, arith}
use Rattle.std.proofs.lemmas.Grind.{common_steps}
use Rattle.history.specs.Contents.{form_of}
use Rattle.history.proofs.Steps.{release-step}
use Rattle.tree_sheet.proofs.Ended.{ready}
use Rattle.tree_sheet.proofs.sheet.Sheet.release.Goals as goal

pub settle-requires : goal.settle-requires
settle-requires g c =
    let now = ready g.K.Kind.row c.args.self.now (form_of c.in_ok-shape.shape) c.in_ok-shape.ensures.answer.1 (grind (arith, common_steps)) in
    grind (arith, common_steps)

pub returns-in-Some-clause-history : goal.returns-in-Some-clause-history
returns-in-Some-clause-history g c =
    release-step g.K.Kind.row g.K.Kind.number g.K.Kind.width g.K.Kind.product _ _ (Err _) (grind (arith, common_steps))

pub returns-clause-history : goal.returns-clause-history
returns-clause-history g c =
    release-step g.K.Kind.row g.K.Kind.number g.K.Kind.width g.K.Kind.product _ _ (Ok tt) (grind (arith, common_steps))
