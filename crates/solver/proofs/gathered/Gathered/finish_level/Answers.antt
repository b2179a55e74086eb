use Rattle.std.proofs.Common.{◌≡◌, suc, ◌+◌, ◌/◌, ◌≤◌, ap, ◌∙◌, add-one, slice_index_or, arith}
use Rattle.std.proofs.lemmas.List.{drop-set-lt}
use Rattle.algebra.proofs.Places.{row_copied, row_read}
use Rattle.shapes.specs.Denominator.{denominator_of}
use Rattle.shapes.specs.Tree.{size, Level}
use Rattle.shapes.proofs.Heights.{level-node}
use Rattle.shapes.proofs.Sizes.{size-some}
use Rattle.solver.specs.Passes.{nodes, Z_of, C_of}
use Rattle.solver.proofs.Upward.{level-at}
use Rattle.solver.proofs.Downward.{settles, finished-more}
use Rattle.solver.proofs.gathered.Gathered.finish_level.Given as given
use Rattle.solver.proofs.gathered.Gathered.finish_level.Goals as goal
use Rattle.solver.proofs.gathered.Gathered.finish_level.Goals.{After-index-numerators-v}

pub nonzero_div-factor : goal.nonzero_div-factor
nonzero_div-factor g c = omega (arith, c.size.ensures.count, size-some c.args.self.now.counts.shape.fanout (c.args.k + 1) (omega arith))

-- the node of the turn, what is read there, and the factor
module _ (g : given.Over) (c : goal.After-index-numerators-v g) where
  node : Level c.args.self.now.counts.shape.fanout c.args.self.now.counts.shape.height (suc c.args.k) c.loop-v.v
  node = level-at c.args.self.now.counts c.args.k _ _ c.loop-v.v c.requires.level c.level-first.ensures.first c.level-first.ensures.end c.loop-v.auto.v c.loop-v-test.true

  inside : suc c.loop-v.v ≤ nodes c.args.self.now.counts
  inside = level-node c.args.self.now.counts.shape.fanout c.args.self.now.counts.shape.height (suc c.args.k) c.loop-v.v node

  gathered-is : g.K.Kind.row (slice_index_or c.args.self.now.work.now c.loop-v.v c.index-self-v.result) ≡ Z_of c.args.self.now.counts c.loop-v.v
  gathered-is =
      row_copied g.K.Kind.row c.args.self.now.work.now c.loop-v.v c.index-self-v.result (omega (arith, inside, c.args.self.now.worked))
      ∙ c.args.self.now.raised c.loop-v.v (omega arith) inside

  carried-is : g.K.Kind.row c.index-numerators-v.result ≡ C_of c.args.self.now.counts c.loop-v.v
  carried-is =
      row_read g.K.Kind.row c.loop-v.numerators c.loop-v.v c.index-numerators-v.result (omega (arith, inside, c.requires.room, c.loop-v.auto.numerators)) c.index-numerators-v.is
      ∙ c.loop-v.invariant.finished.left c.loop-v.v (omega arith) inside

  factor-is : c.denominator.result / c.size.result ≡ denominator_of c.args.self.now.counts.shape.fanout c.args.self.now.counts.shape.height / size c.args.self.now.counts.shape.fanout (suc c.args.k)
  factor-is = λ i. c.denominator.ensures.value i / (c.size.ensures.count ∙ ap (size c.args.self.now.counts.shape.fanout) (add-one c.args.k)) i

pub settled-requires-clause-settles : goal.settled-requires-clause-settles
settled-requires-clause-settles g c =
    settles c.args.self.now.counts c.args.k c.loop-v.v (node g c) _ _ _ _ (factor-is g c) c.power-power.ensures.count (gathered-is g c) (carried-is g c)

pub loop-v-preserved : goal.loop-v-preserved
loop-v-preserved g c =
    let a = (goal.at.loop-v-preserved g c).After-index-numerators-v in
    record {
      finished = finished-more c.args.self.now.counts c.args.k c.loop-v.v (node g a) _ _ _ _ (factor-is g a) c.power-power.ensures.count (gathered-is g a) (carried-is g a)
          c.loop-v.numerators c.settled.result (omega (arith, c.requires.room, c.loop-v.auto.numerators)) c.settled.ensures c.loop-v.invariant.finished;
      past = drop-set-lt (nodes c.args.self.now.counts) c.loop-v.numerators c.loop-v.v c.settled.result (inside g a) ∙ c.loop-v.invariant.past;
    }
