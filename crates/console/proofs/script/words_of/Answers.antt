use Rattle.std.proofs.Common.{◌≡◌, false, cond, eqb, List, [], get_or, sym, ap, subst, IfOk, rules}
use Rattle.std.proofs.lemmas.Iterator.Consumers.{map_from_collect}
use Rattle.console.specs.Script.{words}
use Rattle.console.specs.Words.{texts}
use Rattle.console.proofs.LineWords.{YieldsList-from_words}
use Rattle.console.proofs.script.words_of.Goals as goal

pub returns : goal.returns
returns c =
    let line = c.args.line.now in
    let all = map_from_collect _ c.collect.ensures.ran (YieldsList-from_words line c.split_ascii_whitespace.ensures.text) in
    let test : eqb (get_or line 0 0) 35 ≡ false = search rules in
    subst (λ (ws : List _). IfOk c.collect.result (λ v. texts v.items ≡ ws)) (sym (ap (λ b. cond b [] (words line)) test)) all
