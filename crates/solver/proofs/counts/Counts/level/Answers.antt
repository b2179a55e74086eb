use Rattle.std.proofs.Common.{◌-◌, arith}
use Rattle.shapes.proofs.Sizes.{size-le}
use Rattle.solver.proofs.counts.Counts.level.Goals as goal

pub returns-clause-inside : goal.returns-clause-inside
returns-clause-inside g c = let s = c.args.self.now.shape in omega (arith, c.size-2.ensures.count, size-le s.fanout (s.height - c.args.k) s.height (omega arith))
