use Rattle.std.proofs.Common.{rules, ◌<◌, ◌≤◌, ◌-◌, arith}
use borrow.Author.Tests.{tests}
use Rattle.shapes.proofs.Firsts.{first_up}
use Rattle.shapes.proofs.Heights.{heights, first-level}
use Rattle.shapes.specs.Tree.{size}
use Rattle.shapes.proofs.shape.Shape.height_of.Goals as goal

pub returns-then-node-nodes-clause-law : goal.returns-then-node-nodes-clause-law
returns-then-node-nodes-clause-law c = search (rules, heights)

pub returns-clause-value : goal.returns-clause-value
returns-clause-value c =
    let s = c.args.self in
    let n = c.new.ensures in
    let first = first_up c.new.result _ 1 s.height (λ k. size s.fanout (s.height - k) ≤ c.args.node) (λ k. c.args.node < size s.fanout (s.height - k))
    c.find.result c.find.ensures.runs n.start n.end n.exhausted (λ a r q k. search rules) (λ x k. search (rules, tests)) (λ x k. search (rules, tests)) in
    search (rules, first-level s.fanout s.height c.args.node c.find.result (omega (arith, c.nodes.ensures.count)) first)

pub returns-clause-law : goal.returns-clause-law
returns-clause-law c = search (rules, heights)
