use Rattle.std.proofs.Common.{vec_items}
use Rattle.history.specs.Contents.{rooms}
use Rattle.tree_sheet.specs.Held.{contents}
use Rattle.tree_sheet.specs.Passes.{Lent}
use Rattle.tree_sheet.proofs.Ran.{Ran}
use Rattle.tree_sheet.proofs.runs.replay.Given as goal

abbrev pub invariant-loop-call : goal.invariant-loop-call
invariant-loop-call g l =
    Ran g.K.Kind (rooms (contents l.initial.sheet)) l.calls l.call-index (vec_items l.log) l.sheet
    × Lent l.initial.sheet l.sheet
