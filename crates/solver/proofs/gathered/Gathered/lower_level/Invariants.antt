use Rattle.std.proofs.Common.{◌≡◌, ◌+◌, ◌*◌, drop}
use Rattle.solver.specs.Passes.{nodes, Lowered}
use Rattle.solver.proofs.gathered.Gathered.lower_level.Given as goal

abbrev pub invariant-loop-u : goal.invariant-loop-u
invariant-loop-u g l = record {
  lowered : Lowered l.self.counts (l.fanout * l.u + 1) l.numerators;
  past : drop (nodes l.self.counts) l.numerators ≡ drop (nodes l.self.counts) l.initial.numerators;
}
