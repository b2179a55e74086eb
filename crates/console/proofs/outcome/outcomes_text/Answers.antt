use Rattle.std.proofs.Common.{[], string_bytes, sym, ◌∙◌}
use Rattle.std.proofs.lemmas.List.Folds.{flat_map-map}
use Rattle.tree_sheet.specs.Replay.{reply}
use Rattle.console.specs.Lines.{reply_line}
use Rattle.console.proofs.Texts.{joined-all}
use Rattle.console.proofs.outcome.outcomes_text.Goals as goal

pub returns : goal.returns
returns g c =
    joined-all (λ o. reply_line (reply g.K.Kind.row o)) [] c.args.outcomes.now c.loop-outcome.outcome-index (string_bytes c.loop-outcome.text) c.loop-outcome-test.false c.loop-outcome.invariant
    ∙ sym (flat_map-map reply_line (reply g.K.Kind.row) c.args.outcomes.now)
