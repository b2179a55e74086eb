use Rattle.std.proofs.Common.{Ok, arith}
use Rattle.std.proofs.lemmas.Grind.{common_steps}
use Rattle.history.proofs.Steps.{lay_step}
use Rattle.tree_sheet.proofs.sheet.Sheet.lay.Goals as goal

pub returns-in_err-shape-clause-history : goal.returns-in_err-shape-clause-history
returns-in_err-shape-clause-history g c =
    lay_step g.K.Kind.row g.K.Kind.number g.K.Kind.width g.K.Kind.product _ _ _ _ _ (grind (arith, common_steps))

pub returns-clause-outcome : goal.returns-clause-outcome
returns-clause-outcome g c = (
  grind (arith, common_steps),
  record {
    shape = c.in_ok-shape.shape;
    formed = λ i. record { fanout = c.in_ok-shape.ensures.1.0 i; height = c.in_ok-shape.ensures.1.1 i };
    noisy = grind (arith, common_steps);
    marks = grind (arith, common_steps);
    numerators = grind (arith, common_steps);
    work = grind (arith, common_steps);
    state = grind (arith, common_steps);
  },
)

pub returns-clause-history : goal.returns-clause-history
returns-clause-history g c =
    lay_step g.K.Kind.row g.K.Kind.number g.K.Kind.width g.K.Kind.product _ _ _ _ (Ok tt) (returns-clause-outcome g c)
