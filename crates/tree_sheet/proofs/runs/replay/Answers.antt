use Rattle.std.proofs.Common.{[], map, take, vec_items, sym, subst, rules}
use Rattle.std.proofs.lemmas.Result.{err_from_is_err_and}
use Rattle.history.specs.Events.{Represents}
use Rattle.history.specs.Runs.{past}
use Rattle.tree_sheet.specs.Held.{contents}
use Rattle.tree_sheet.specs.Replay.{asked, reply}
use Rattle.tree_sheet.specs.declared.sheet.Sheet.{Sheet}
use Rattle.tree_sheet.proofs.Lending.{lent-then}
use Rattle.tree_sheet.proofs.Ran.{ran-more, ran-all, leaves-so}
use Rattle.tree_sheet.proofs.runs.replay.Goals as goal

pub loop-call-preserved : goal.loop-call-preserved
loop-call-preserved g c = (
  ran-more g.K.Kind _ c.args.calls.now c.loop-call.call-index c.call-item.result c.in_ok-outcome.outcome
      (vec_items c.loop-call.log) (vec_items c.push.new.self) c.loop-call.sheet c.perform.new.sheet c.loop-call-test.true c.call-item.is
      c.in_ok-push.ensures.items c.loop-call.invariant.0 c.in_ok-outcome.ensures.answer,
  lent-then _ c.loop-call.sheet c.perform.new.sheet c.loop-call.invariant.1 c.in_ok-outcome.ensures.lent,
)

pub returns-clause-slices : goal.returns-clause-slices
returns-clause-slices g c =
    let came = ran-all g.K.Kind _ c.args.calls.now c.loop-call.call-index (vec_items c.loop-call.log) c.loop-call.sheet
    c.loop-call-test.false c.loop-call.invariant.0 in
    leaves-so g.K.Kind.row g.K.Kind.width _ c.loop-call.sheet _ _ _ _ came.held (search rules) (search rules) (search rules) (search rules)

pub returns-in_err-outcome-clause-slices : goal.returns-in_err-outcome-clause-slices
returns-in_err-outcome-clause-slices g c =
    let p = err_from_is_err_and c.from_residual.result c.from_residual.ensures.1 in
    let same = c.in_err-outcome.ensures.answer in
    let h = past [] (map (asked g.K.Kind.row) (take c.loop-call.call-index c.args.calls.now)) (map (reply g.K.Kind.row) (vec_items c.loop-call.log)) in
    rw p.1 (
      h,
      leaves-so g.K.Kind.row g.K.Kind.width h c.perform.new.sheet _ _ _ _
          (subst (λ (t : Sheet _). Represents g.K.Kind.row g.K.Kind.width h (contents t)) (sym same) c.loop-call.invariant.0.held) (search rules) (search rules) (search rules) (search rules),
    )

pub returns-in_err-push-clause-slices : goal.returns-in_err-push-clause-slices
returns-in_err-push-clause-slices g c =
    let p = err_from_is_err_and c.from_residual-in_err-push.result c.from_residual-in_err-push.ensures.1 in
    rw p.1 (
      _,
      leaves-so g.K.Kind.row g.K.Kind.width _ c.perform.new.sheet _ _ _ _
          (c.in_ok-outcome.ensures.answer.kept _ c.loop-call.invariant.0.held) (search rules) (search rules) (search rules) (search rules),
    )
