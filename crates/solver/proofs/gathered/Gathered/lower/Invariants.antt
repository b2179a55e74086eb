use Rattle.std.proofs.Common.{◌≡◌, ◌-◌, ◌≤◌, drop}
use Rattle.solver.specs.Passes.{nodes, above, Lowered}
use Rattle.solver.proofs.gathered.Gathered.lower.Given as goal

abbrev pub invariant-loop-k : goal.invariant-loop-k
invariant-loop-k g l = record {
  low : 1 ≤ l.k;
  lowered : Lowered l.self.counts (above l.self.counts (l.k - 1)) l.numerators;
  past : drop (nodes l.self.counts) l.numerators ≡ drop (nodes l.self.counts) l.fn.numerators;
}
