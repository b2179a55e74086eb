use Rattle.std.proofs.Common.{◌≡◌}
use Rattle.shapes.specs.Tree.{size}
use Rattle.shapes.proofs.laid.count.Given as goal

abbrev pub invariant-loop : goal.invariant-loop
invariant-loop l = l.nodes ≡ size l.fanout l.counter
