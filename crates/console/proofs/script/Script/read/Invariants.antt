use Rattle.std.proofs.Common.{◌≡◌, drop}
use Rattle.console.specs.Script.{said}
use Rattle.console.specs.Words.{texts}
use Rattle.console.proofs.script.Script.read.Given as goal

abbrev pub invariant-loop-i : goal.invariant-loop-i
invariant-loop-i l = said (texts l.lines) ≡ said (drop l.i (texts l.lines))
