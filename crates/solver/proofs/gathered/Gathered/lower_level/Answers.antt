use Rattle.std.proofs.Common.{◌≡◌, ℕ, suc, ◌+◌, ◌-◌, ◌*◌, ◌/◌, ◌≤◌, length, replicate, take, drop, refl, ap, ◌∙◌, add-one, length-take, length-drop, slice_index_or, rules, arith}
use Rattle.std.proofs.lemmas.Nat.{mul-le}
use Rattle.std.proofs.lemmas.List.{length-replicate}
use Rattle.std.proofs.lemmas.Slice.{drop-put_mid}
use Rattle.algebra.proofs.Places.{row_copied, row_read, row_sized}
use Rattle.inference.specs.Table.{Sized}
use Rattle.shapes.specs.Denominator.{denominator_of}
use Rattle.shapes.specs.Tree.{size, Level}
use Rattle.shapes.proofs.Heights.{level-node}
use Rattle.shapes.proofs.Sizes.{size-next, size-some}
use Rattle.solver.specs.Passes.{nodes, counted, Z_of, C_of}
use Rattle.solver.proofs.Upward.{level-at, kids-inside}
use Rattle.solver.proofs.Downward.{hands, lowered-more}
use Rattle.solver.proofs.gathered.Gathered.lower_level.Given as given
use Rattle.solver.proofs.gathered.Gathered.lower_level.Goals as goal
use Rattle.solver.proofs.gathered.Gathered.lower_level.Goals.{After-index-numerators-u}

pub nonzero_div-factor : goal.nonzero_div-factor
nonzero_div-factor g c =
    let b = c.args.self.now.counts.shape.fanout in
    omega (arith, mul-le 1 1 c.size-fewer.result c.size-nodes.result (omega (arith, c.size-fewer.ensures.count, size-some b c.args.k c.requires.low)) (omega (arith, c.size-nodes.ensures.count, size-some b (c.args.k + 1) (omega arith))))

pub loop-u-init : goal.loop-u-init
loop-u-init g c =
    let s = c.args.self.now.counts.shape in
    let e : s.height - c.args.k ≡ suc (s.height - suc c.args.k) = omega (arith, c.requires.high) in
    record {
      lowered = λ v h n. c.requires.above v (omega (arith, ap (λ (m : ℕ). s.fanout * m) c.level-first.ensures.first, size-next s.fanout (s.height - suc c.args.k), ap (size s.fanout) e)) n;
      past = refl;
    }

-- the node of the turn, what is read there, and the two factors
module _ (g : given.Over) (c : goal.After-index-numerators-u g) where
  node : Level c.args.self.now.counts.shape.fanout c.args.self.now.counts.shape.height (suc c.args.k) c.loop-u.u
  node = level-at c.args.self.now.counts c.args.k _ _ c.loop-u.u c.requires.high c.level-first.ensures.first c.level-first.ensures.end c.loop-u.auto.u c.loop-u-test.true

  inside : suc c.loop-u.u ≤ nodes c.args.self.now.counts
  inside = level-node c.args.self.now.counts.shape.fanout c.args.self.now.counts.shape.height (suc c.args.k) c.loop-u.u node

  own_is : g.K.Kind.row (slice_index_or c.args.self.now.counts.cells.now c.loop-u.u c.index-self-u.result) ≡ counted c.args.self.now.counts c.loop-u.u
  own_is = let w = c.args.self.now.counts.whole in row_copied g.K.Kind.row c.args.self.now.counts.cells.now c.loop-u.u c.index-self-u.result (omega (arith, inside))

  gathered-is : g.K.Kind.row (slice_index_or c.args.self.now.work.now c.loop-u.u c.index-self-u-in-loop-u.result) ≡ Z_of c.args.self.now.counts c.loop-u.u
  gathered-is =
      row_copied g.K.Kind.row c.args.self.now.work.now c.loop-u.u c.index-self-u-in-loop-u.result (omega (arith, inside, c.args.self.now.worked))
      ∙ c.args.self.now.raised c.loop-u.u (omega arith) inside

  carried-is : g.K.Kind.row c.index-numerators-u.result ≡ C_of c.args.self.now.counts c.loop-u.u
  carried-is =
      let w = c.args.self.now.counts.shape.shapely in
      row_read g.K.Kind.row c.loop-u.numerators c.loop-u.u c.index-numerators-u.result (omega (arith, inside, c.requires.room, c.loop-u.auto.numerators)) c.index-numerators-u.is
      ∙ c.loop-u.invariant.lowered c.loop-u.u (omega (arith, mul-le 1 c.loop-u.u c.args.self.now.counts.shape.fanout c.loop-u.u (omega arith) (omega arith))) inside

  nodes-is : c.size-nodes.result ≡ size c.args.self.now.counts.shape.fanout (suc c.args.k)
  nodes-is = c.size-nodes.ensures.count ∙ ap (size c.args.self.now.counts.shape.fanout) (add-one c.args.k)

  factor-is : c.denominator.result / (c.size-fewer.result * c.size-nodes.result)
      ≡ denominator_of c.args.self.now.counts.shape.fanout c.args.self.now.counts.shape.height / (size c.args.self.now.counts.shape.fanout c.args.k * size c.args.self.now.counts.shape.fanout (suc c.args.k))
  factor-is = λ i. c.denominator.ensures.value i / (c.size-fewer.ensures.count i * nodes-is i)

  sized : Sized g.K.Kind.width c.args.self.now.counts.shape.fanout c.args.self.now.counts.shape.height (counted c.args.self.now.counts)
  sized v h = let w = c.args.self.now.counts.whole in row_sized g.K.Kind.row g.K.Kind.width g.met.K.Kind.sized c.args.self.now.counts.cells.now v (omega arith)

pub handed-cell-requires-clause-hands : goal.handed-cell-requires-clause-hands
handed-cell-requires-clause-hands g c =
    hands c.args.self.now.counts (sized g c) c.args.k c.loop-u.u c.requires.low (node g c) c.size-nodes.result _ _ _ _
    (nodes-is g c) (factor-is g c) (own_is g c) (gathered-is g c) (carried-is g c)

-- where the children of the node of the turn end
kids-end : (g : given.Over) (c : goal.After-index-numerators-u g) → c.args.self.now.counts.shape.fanout * c.loop-u.u + 1 + c.args.self.now.counts.shape.fanout ≤ length c.loop-u.numerators
kids-end g c = omega (arith, kids-inside c.args.self.now.counts c.args.k c.loop-u.u c.requires.low (node g c), c.loop-u.auto.numerators, c.requires.room)

pub offset_bounds-numerators-child : goal.offset_bounds-numerators-child
offset_bounds-numerators-child g c = let h = kids-end g (goal.at.offset_bounds-numerators-child g c).After-index-numerators-u in search rules

pub slice_bounds-spread-end : goal.slice_bounds-spread-end
slice_bounds-spread-end g c = let h = kids-end g (goal.at.slice_bounds-spread-end g c).After-index-numerators-u in search rules

pub loop-u-preserved : goal.loop-u-preserved
loop-u-preserved g c =
    let a = (goal.at.loop-u-preserved g c).After-index-numerators-u in
    let s = c.args.self.now.counts in
    let b = s.shape.fanout in
    let from = b * c.loop-u.u + 1 in
    let h = kids-end g a in
    let part : length (take (from + b - from) (drop from c.loop-u.numerators)) ≡ from + b - from = omega (arith, length-take (from + b - from) (drop from c.loop-u.numerators), length-drop from c.loop-u.numerators) in
    let filled : c.spread.new.cells ≡ replicate (from + b - from) c.handed-cell.result = c.spread.ensures ∙ ap (λ (n : ℕ). replicate n c.handed-cell.result) part in
    record {
      lowered = lowered-more s (sized g a) c.args.k c.loop-u.u c.requires.low (node g a) c.size-nodes.result _ _ _ _ (nodes-is g a) (factor-is g a) (own_is g a) (gathered-is g a) (carried-is g a)
          c.loop-u.numerators c.spread.new.cells c.handed-cell.result (from + b - from) (omega arith) (omega (arith, c.loop-u.auto.numerators, c.requires.room))
          filled c.handed-cell.ensures c.loop-u.invariant.lowered;
      past = drop-put_mid from (from + b - from) c.loop-u.numerators c.spread.new.cells (nodes s)
          (omega (arith, kids-inside s c.args.k c.loop-u.u c.requires.low (node g a))) (omega arith) (ap length filled ∙ length-replicate (from + b - from) c.handed-cell.result)
          ∙ c.loop-u.invariant.past;
    }

pub returns-clause-lowered : goal.returns-clause-lowered
returns-clause-lowered g c =
    let s = c.args.self.now.counts.shape in
    let end : c.loop-u.u ≡ size s.fanout (s.height - c.args.k) = omega (arith, c.level-first.ensures.rising, c.level-first.ensures.end) in
    let e : s.height - (c.args.k - 1) ≡ suc (s.height - c.args.k) = omega (arith, c.requires.low, c.requires.high) in
    λ v h n. c.loop-u.invariant.lowered v (omega (arith, size-next s.fanout (s.height - c.args.k), ap (size s.fanout) e, ap (λ (m : ℕ). s.fanout * m) end)) n
