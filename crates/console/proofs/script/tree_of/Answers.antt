use Rattle.std.proofs.Common.{arith, codes}
use Rattle.std.proofs.lemmas.Result.{MatchResult-from_err}
use Rattle.console.proofs.Spelt.{lengths-refused, long-refused}
use Rattle.console.proofs.script.tree_of.Goals as goal

pub returns-in_err-slice_length-in-len5 : goal.returns-in_err-slice_length-in-len5
returns-in_err-slice_length-in-len5 c =
    let ws = c.args.arguments.now in
    MatchResult-from_err _ _ _ c.from_residual-in_err-slice_length-in-len5.ensures.0
    (λ _. lengths-refused ws (codes "tree") (omega arith) (λ l f. long-refused ws (codes "tree") 1 _ (omega arith) c.in_err-slice_length-in-len5.ensures l.noisy f.0))

pub returns-in_err-slice_length-in-len5-2 : goal.returns-in_err-slice_length-in-len5-2
returns-in_err-slice_length-in-len5-2 c =
    let ws = c.args.arguments.now in
    MatchResult-from_err _ _ _ c.from_residual-in_err-slice_length-in-len5-2.ensures.0
    (λ _. lengths-refused ws (codes "tree") (omega arith) (λ l f. long-refused ws (codes "tree") 2 _ (omega arith) c.in_err-slice_length-in-len5-2.ensures l.marks f.1))

pub returns-in_err-slice_length-in-len5-3 : goal.returns-in_err-slice_length-in-len5-3
returns-in_err-slice_length-in-len5-3 c =
    let ws = c.args.arguments.now in
    MatchResult-from_err _ _ _ c.from_residual-in_err-slice_length-in-len5-3.ensures.0
    (λ _. lengths-refused ws (codes "tree") (omega arith) (λ l f. long-refused ws (codes "tree") 3 _ (omega arith) c.in_err-slice_length-in-len5-3.ensures l.numerators f.2))

pub returns-in_err-slice_length-in-len5-4 : goal.returns-in_err-slice_length-in-len5-4
returns-in_err-slice_length-in-len5-4 c =
    let ws = c.args.arguments.now in
    MatchResult-from_err _ _ _ c.from_residual-in_err-slice_length-in-len5-4.ensures.0
    (λ _. lengths-refused ws (codes "tree") (omega arith) (λ l f. long-refused ws (codes "tree") 4 _ (omega arith) c.in_err-slice_length-in-len5-4.ensures l.work f.3))
