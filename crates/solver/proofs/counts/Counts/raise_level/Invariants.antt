use Rattle.std.proofs.Common.{◌≡◌, length, drop}
use Rattle.solver.specs.Passes.{nodes, Raised}
use Rattle.solver.proofs.counts.Counts.raise_level.Given as goal

abbrev pub invariant-loop-u : goal.invariant-loop-u
invariant-loop-u g l = record {
  long : length l.work ≡ length l.initial.work;
  raised : Raised l.self l.u l.work;
  past : drop (nodes l.self) l.work ≡ drop (nodes l.self) l.initial.work;
}
