use Rattle.std.proofs.Common.{◌≡◌, drop}
use Rattle.solver.specs.Passes.{nodes, Finished}
use Rattle.solver.proofs.gathered.Gathered.finish_level.Given as goal

abbrev pub invariant-loop-v : goal.invariant-loop-v
invariant-loop-v g l = record {
  finished : Finished l.self.counts l.v l.numerators;
  past : drop (nodes l.self.counts) l.numerators ≡ drop (nodes l.self.counts) l.initial.numerators;
}
