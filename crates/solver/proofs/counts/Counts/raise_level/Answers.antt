use Rattle.std.proofs.Common.{◌≡◌, ℕ, suc, ◌+◌, ◌-◌, ◌*◌, ◌≤◌, length, take, drop, ap, ◌∙◌, rules, length-take, length-drop, arith}
use Rattle.std.proofs.lemmas.List.{drop-set-lt, length-set}
use Rattle.algebra.specs.Sum.{sum_rows}
use Rattle.algebra.specs.Row.{row_at}
use Rattle.algebra.proofs.Places.{row_copied}
use Rattle.shapes.proofs.Heights.{level-node}
use Rattle.solver.specs.Passes.{nodes}
use Rattle.solver.proofs.Upward.{level-at, kids-inside, kids-within, lifts, raised-more}
use Rattle.solver.proofs.counts.Counts.raise_level.Given as given
use Rattle.solver.proofs.counts.Counts.raise_level.Goals as goal
use Rattle.solver.proofs.counts.Counts.raise_level.Goals.{In-loop-u, After-index-self-u}

-- where the children of the node of the turn end
kids-end : (g : given.Over) (c : goal.In-loop-u g) → c.args.self.now.shape.fanout * (c.loop-u.u - 1) + 1 + c.args.self.now.shape.fanout ≤ length c.loop-u.work
kids-end g c =
    let s = c.args.self.now in
    let o = level-at s c.args.k _ _ (c.loop-u.u - 1) c.requires.high c.level-first.ensures.first c.level-first.ensures.end (omega arith) (omega arith) in
    omega (arith, kids-inside s c.args.k (c.loop-u.u - 1) c.requires.low o, c.loop-u.invariant.long, c.requires.room)

pub offset_bounds-work-child : goal.offset_bounds-work-child
offset_bounds-work-child g c = let h = kids-end g c in search rules

pub slice_bounds-gather-end : goal.slice_bounds-gather-end
slice_bounds-gather-end g c = let h = kids-end g c in search rules

pub gather-kids-requires : goal.gather-kids-requires
gather-kids-requires g c =
    let s = c.args.self.now in
    let b = s.shape.fanout in
    let u = c.loop-u.u - 1 in
    let from = b * u + 1 in
    let o = level-at s c.args.k _ _ u c.requires.high c.level-first.ensures.first c.level-first.ensures.end (omega arith) (omega arith) in
    λ m h.
    kids-within s c.loop-u.work c.args.k u c.requires.low o (omega (arith, c.loop-u.invariant.long, c.requires.room))
    (λ v l n. c.loop-u.invariant.raised v (omega arith) n) m (omega (arith, length-take (from + b - from) (drop from c.loop-u.work)))

-- what is gathered is the sum over the children
gathered : (g : given.Over) (c : goal.After-index-self-u g) → c.args.self.now.shape.fanout * (c.loop-u.u - 1) + 1 + c.args.self.now.shape.fanout ≤ length c.loop-u.work →
    let b = c.args.self.now.shape.fanout in let from = b * (c.loop-u.u - 1) + 1 in
    g.K.Kind.row c.gather-kids.result ≡ sum_rows g.K.Kind.width b (row_at g.K.Kind.row (take (from + b - from) (drop from c.loop-u.work)))
gathered g c h =
    let b = c.args.self.now.shape.fanout in
    let from = b * (c.loop-u.u - 1) + 1 in
    let part = take (from + b - from) (drop from c.loop-u.work) in
    let long : length part ≡ b = omega (arith, length-take (from + b - from) (drop from c.loop-u.work), length-drop from c.loop-u.work) in
    c.gather-kids.ensures ∙ ap (λ (n : ℕ). sum_rows g.K.Kind.width n (row_at g.K.Kind.row part)) long

pub lifted-requires-clause-lifts : goal.lifted-requires-clause-lifts
lifted-requires-clause-lifts g c =
    let s = c.args.self.now in
    let u = c.loop-u.u - 1 in
    let o = level-at s c.args.k _ _ u c.requires.high c.level-first.ensures.first c.level-first.ensures.end (omega arith) (omega arith) in
    let room : nodes s ≤ length c.loop-u.work = omega (arith, c.loop-u.invariant.long, c.requires.room) in
    lifts s c.loop-u.work c.args.k u c.requires.low o room (λ v l n. c.loop-u.invariant.raised v (omega arith) n) c.power-power.result _ _ c.power-power.ensures.count
    (row_copied g.K.Kind.row s.cells.now u c.index-self-u.result (let w = s.whole in omega (arith, level-node s.shape.fanout s.shape.height (suc c.args.k) u o)))
    (gathered g c (omega (arith, kids-inside s c.args.k u c.requires.low o)))

pub loop-u-preserved : goal.loop-u-preserved
loop-u-preserved g c =
    let s = c.args.self.now in
    let u = c.loop-u.u - 1 in
    let o = level-at s c.args.k _ _ u c.requires.high c.level-first.ensures.first c.level-first.ensures.end (omega arith) (omega arith) in
    let n = level-node s.shape.fanout s.shape.height (suc c.args.k) u o in
    let w = s.whole in
    let room : nodes s ≤ length c.loop-u.work = omega (arith, c.loop-u.invariant.long, c.requires.room) in
    record {
      long = length-set c.loop-u.work u c.lifted.result ∙ c.loop-u.invariant.long;
      raised = raised-more s c.loop-u.work c.args.k u c.requires.low o room (λ v l n. c.loop-u.invariant.raised v (omega arith) n) c.power-power.result _ _ c.power-power.ensures.count
          (row_copied g.K.Kind.row s.cells.now u c.index-self-u.result (omega arith))
          (gathered g (goal.at.loop-u-preserved g c).After-index-self-u (omega (arith, kids-inside s c.args.k u c.requires.low o))) c.lifted.result c.lifted.ensures;
      past = drop-set-lt (nodes s) c.loop-u.work u c.lifted.result n ∙ c.loop-u.invariant.past;
    }
