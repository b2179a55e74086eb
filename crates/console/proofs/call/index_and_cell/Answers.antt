use Rattle.std.proofs.Common.{List, ℕ, arith, subst, sym}
use Rattle.std.proofs.lemmas.Result.{MatchResult-from_err}
use Rattle.console.specs.Words.{Components}
use Rattle.console.proofs.Spelt.{number_in, texts-rest}
use Rattle.console.proofs.call.index_and_cell.Goals as goal

pub returns-in_err-number : goal.returns-in_err-number
returns-in_err-number g c =
    MatchResult-from_err _ _ _ c.from_residual.ensures.0 (λ _ n x t. c.in_err-number.ensures.1 n (number_in 32 c.args.arguments.now 0 _ n (omega arith) t.1))

pub returns-in_err-cell : goal.returns-in_err-cell
returns-in_err-cell g c =
    MatchResult-from_err _ _ _ c.from_residual-in_err-cell.ensures.0
    (λ _ n x t. c.in_err-cell.ensures x (subst (λ (args : List (List ℕ)). Components g.K.Kind.width args x) (sym (texts-rest c.args.arguments.now)) t.2))
