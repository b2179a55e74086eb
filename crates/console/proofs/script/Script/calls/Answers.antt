use Rattle.std.proofs.Common.{◌≡◌, ap, ◌∙◌, arith, inl, inr, rules}
use Rattle.std.proofs.lemmas.Result.{MatchResult-at_err, MatchResult-at_ok, err_from_is_err_and}
use Rattle.console.specs.declared.mistake.Trouble.{Trouble}
use Rattle.console.proofs.Calls.{taken-more, taken-wrong}
use Rattle.console.proofs.Exits.{map_err-err, map_err-ok}
use Rattle.console.proofs.script.Script.calls.Goals as goal

pub returns-in_err-map_err : goal.returns-in_err-map_err
returns-in_err-map_err g c =
    let p = err_from_is_err_and c.from_residual.result c.from_residual.ensures.1 in
    let wrong = map_err-err _ c.add_call.result c.map_err.result _ c.map_err.ensures.cases c.in_err-map_err.was in
    let told = wrong.2 in
    let same : c.in_err-map_err.field-0.0.mistake ≡ wrong.0 = search rules in
    rw p.1 (elim (MatchResult-at_err _ _ wrong.0 wrong.1 c.add_call.ensures) [
      | inl e ↦ inl (ap (λ (t : Trouble). t.mistake) p.2 ∙ same ∙ e)
      | inr h ↦ inr (taken-wrong g.K.Kind.width c.args.self.now.lines.now c.loop-i.i _ (omega arith) _ c.loop-i.invariant h.0 h.1)
    ])

pub loop-i-preserved : goal.loop-i-preserved
loop-i-preserved g c =
    let right = map_err-ok _ c.add_call.result c.map_err.result _ c.map_err.ensures.cases c.in_ok-map_err.was in
    taken-more g.K.Kind.width c.args.self.now.lines.now c.loop-i.i _ g.K.Kind.row (omega arith) c.loop-i.calls.items c.add_call.new.calls.items c.loop-i.invariant
    (MatchResult-at_ok _ _ _ right c.add_call.ensures)
