use Rattle.std.proofs.Common.{◌≡◌, ◌+◌, ◌<◌, length, ap, ◌∙◌, inr, arith}
use Rattle.std.proofs.lemmas.Bool.Decides.{nat_tests}
use Rattle.std.proofs.lemmas.Result.{IfOk-at_ok, MatchResult-at_err, MatchResult-at_ok, MatchResult-from_err}
use Rattle.console.specs.Words.{texts}
use Rattle.console.proofs.Exits.{map_err-err, map_err-ok}
use Rattle.console.proofs.Said.{first-spelt, first-wrong, silent}
use Rattle.console.proofs.Texts.{texts-from}
use Rattle.console.proofs.script.Script.read.Goals as goal

pub returns-in_err-tree : goal.returns-in_err-tree
returns-in_err-tree c =
    let ws = c.args.lines.now in
    let vs = c.as_slice.result.now in
    let words = IfOk-at_ok _ (map_err-ok _ c.words_of.result c.map_err.result _ c.map_err.ensures.cases c.in_ok-words.was) c.words_of.ensures in
    let some : 0 < length vs = grind (arith, nat_tests) in
    let wrong = map_err-err _ c.read_tree.result c.map_err-then-not-is_empty.result _ c.map_err-then-not-is_empty.ensures.cases c.in_err-tree.was in
    let never = MatchResult-at_err _ _ wrong.0 wrong.1 c.read_tree.ensures in
    MatchResult-from_err _ _ _ c.from_residual-in_err-tree.ensures.0
    (λ _. inr (first-wrong ws c.loop-i.i _ (omega arith) vs (ap texts c.as_slice.ensures.value ∙ words) c.loop-i.invariant some never))

pub returns-then-not-is_empty : goal.returns-then-not-is_empty
returns-then-not-is_empty c =
    let ws = c.args.lines.now in
    let vs = c.as_slice.result.now in
    let words = IfOk-at_ok _ (map_err-ok _ c.words_of.result c.map_err.result _ c.map_err.ensures.cases c.in_ok-words.was) c.words_of.ensures in
    let some : 0 < length vs = grind (arith, nat_tests) in
    let right = map_err-ok _ c.read_tree.result c.map_err-then-not-is_empty.result _ c.map_err-then-not-is_empty.ensures.cases c.in_ok-tree.was in
    let spelt = MatchResult-at_ok _ _ _ right c.read_tree.ensures in (
      first-spelt ws c.loop-i.i _ (omega arith) vs (ap texts c.as_slice.ensures.value ∙ words) c.loop-i.invariant some _ spelt,
      texts-from (c.loop-i.i + 1) ws,
    )

pub loop-i-preserved : goal.loop-i-preserved
loop-i-preserved c =
    let words = IfOk-at_ok _ (map_err-ok _ c.words_of.result c.map_err.result _ c.map_err.ensures.cases c.in_ok-words.was) c.words_of.ensures in
    let none : length c.in_ok-words.words.items ≡ 0 = grind (arith, nat_tests) in
    c.loop-i.invariant ∙ silent c.args.lines.now c.loop-i.i _ (omega arith) c.in_ok-words.words.items words none
