use Rattle.std.proofs.Common.{Ok, arith, rules}
use Rattle.std.proofs.lemmas.Grind.{common_steps}
use Rattle.history.specs.Contents.{form_of}
use Rattle.history.proofs.Steps.{load_step}
use Rattle.tree_sheet.proofs.Ended.{load-rules}
use Rattle.tree_sheet.proofs.sheet.Sheet.load.Goals as goal

pub returns-in_err-load_table-clause-outcome : goal.returns-in_err-load_table-clause-outcome
returns-in_err-load_table-clause-outcome g c =
    let laid = c.in_ok-shape.ensures.answer in
    let same = load-rules g.K.Kind.row c.args.self.now (form_of c.in_ok-shape.shape) laid.1 laid.0 g.K.Kind.number g.K.Kind.width c.args.table.now in
    grind (arith, common_steps)

pub returns-in_err-load_table-clause-history : goal.returns-in_err-load_table-clause-history
returns-in_err-load_table-clause-history g c =
    load_step g.K.Kind.row g.K.Kind.number g.K.Kind.width g.K.Kind.product _ _ _ _ (returns-in_err-load_table-clause-outcome g c)

pub returns-clause-outcome : goal.returns-clause-outcome
returns-clause-outcome g c = search rules

pub returns-clause-history : goal.returns-clause-history
returns-clause-history g c =
    load_step g.K.Kind.row g.K.Kind.number g.K.Kind.width g.K.Kind.product _ _ _ (Ok tt) (returns-clause-outcome g c)
