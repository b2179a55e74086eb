use Rattle.std.proofs.Common.{arith}
use Rattle.std.proofs.lemmas.List.{drop-set-lt}
use Rattle.shapes.proofs.Sizes.{size-some}
use Rattle.solver.specs.Passes.{nodes}
use Rattle.solver.proofs.Downward.{lowered-root}
use Rattle.solver.proofs.gathered.Gathered.lower.Goals as goal

pub bounds-numerators-0 : goal.bounds-numerators-0
bounds-numerators-0 g c = let s = c.args.self.now.counts.shape in omega (arith, c.requires.room, size-some s.fanout s.height s.shapely.2)

pub loop-k-init : goal.loop-k-init
loop-k-init g c =
    let s = c.args.self.now.counts.shape in
    record {
      low = s.shapely.2;
      lowered = lowered-root c.args.self.now.counts c.args.numerators.now c.zero.result c.requires.room c.zero.ensures;
      past = drop-set-lt (nodes c.args.self.now.counts) c.args.numerators.now 0 c.zero.result (size-some s.fanout s.height s.shapely.2);
    }
