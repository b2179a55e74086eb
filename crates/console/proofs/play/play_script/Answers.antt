use Rattle.std.proofs.Common.{sym, ap, ◌∙◌, subst, inl, inr}
use Rattle.std.specs.Str.Lines.{lines}
use Rattle.std.proofs.lemmas.Result.{MatchResult-at_ok, err_from_is_err_and}
use Rattle.console.specs.Play.{WantsMemory}
use Rattle.console.specs.Words.{texts}
use Rattle.console.proofs.Exits.{map_err-ok}
use Rattle.console.proofs.Scripts.{no-first}
use Rattle.console.proofs.play.play_script.Goals as goal

pub returns-in_err-script : goal.returns-in_err-script
returns-in_err-script c =
    let p = err_from_is_err_and c.from_residual-in_err-script.result c.from_residual-in_err-script.ensures.1 in
    let utf8 = MatchResult-at_ok _ _ _ (map_err-ok _ c.from_utf8.result c.map_err.result _ c.map_err.ensures.cases c.in_ok-text.was) c.from_utf8.ensures.cases in
    let read = ap texts c.as_slice.ensures.value ∙ c.in_ok-lines.ensures ∙ ap lines utf8.0 in
    rw p.1 (elim c.in_err-script.ensures [
      | inl m ↦ inl (subst WantsMemory (sym p.2) m)
      | inr never ↦ inr (no-first c.args.script.now c.as_slice.result.now read never)
    ])
