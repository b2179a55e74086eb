use Rattle.std.proofs.Common.{◌≡◌, take, string_bytes}
use Rattle.std.specs.List.{flat_map}
use Rattle.tree_sheet.specs.Replay.{reply}
use Rattle.console.specs.Lines.{reply_line}
use Rattle.console.proofs.outcome.outcomes_text.Given as goal

abbrev pub invariant-loop-outcome : goal.invariant-loop-outcome
invariant-loop-outcome g l = string_bytes l.text ≡ flat_map (λ o. reply_line (reply g.K.Kind.row o)) (take l.outcome-index l.outcomes)
