use Rattle.std.proofs.Common.{arith}
use Rattle.std.proofs.lemmas.Result.{MatchResult-from_err}
use Rattle.console.proofs.Spelt.{number_in}
use Rattle.console.proofs.call.two_indices.Goals as goal

pub returns-in_err-number : goal.returns-in_err-number
returns-in_err-number c =
    MatchResult-from_err _ _ _ c.from_residual.ensures.0 (λ _ m n t. c.in_err-number.ensures.1 m (number_in 32 c.args.arguments.now 0 _ m (omega arith) t.1))

pub returns-in_err-number-2 : goal.returns-in_err-number-2
returns-in_err-number-2 c =
    MatchResult-from_err _ _ _ c.from_residual-in_err-number-2.ensures.0 (λ _ m n t. c.in_err-number-2.ensures.1 n (number_in 32 c.args.arguments.now 1 _ n (omega arith) t.2))
