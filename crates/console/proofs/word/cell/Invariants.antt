use Rattle.std.proofs.Common.{ℕ, ◌<◌, [], get_or}
use Rattle.algebra.specs.Row.{part}
use Rattle.console.specs.Words.{Component, texts}
use Rattle.console.proofs.word.cell.Given as goal

abbrev pub invariant-loop-i : goal.invariant-loop-i
invariant-loop-i g l = (k : ℕ) → k < l.i → Component (get_or (texts l.words) k []) (part (g.K.Kind.row l.answer) k)
