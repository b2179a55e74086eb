use Rattle.std.proofs.Common.{◌≡◌, drop}
use Rattle.solver.specs.Passes.{nodes, above, Raised}
use Rattle.solver.proofs.counts.Counts.raise.Given as goal

abbrev pub invariant-loop-k : goal.invariant-loop-k
invariant-loop-k g l = record { raised : Raised l.self (above l.self l.k) l.work; past : drop (nodes l.self) l.work ≡ drop (nodes l.self) l.initial.work }
