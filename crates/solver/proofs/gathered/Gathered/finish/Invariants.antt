use Rattle.std.proofs.Common.{◌≡◌, drop}
use Rattle.solver.specs.Passes.{nodes, above, Finished}
use Rattle.solver.proofs.gathered.Gathered.finish.Given as goal

abbrev pub invariant-loop-k : goal.invariant-loop-k
invariant-loop-k g l = record { finished : Finished l.self.counts (above l.self.counts l.k) l.numerators; past : drop (nodes l.self.counts) l.numerators ≡ drop (nodes l.self.counts) l.initial.numerators }
