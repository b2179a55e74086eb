use Rattle.std.proofs.Common.{map}
use Rattle.tree_sheet.specs.Replay.{asked}
use Rattle.console.specs.Words.{texts}
use Rattle.console.proofs.Calls.{Taken}
use Rattle.console.proofs.script.Script.calls.Given as goal

abbrev pub invariant-loop-i : goal.invariant-loop-i
invariant-loop-i g l = Taken g.K.Kind.width (texts l.line-items) l.i (map (asked g.K.Kind.row) l.calls.items)
