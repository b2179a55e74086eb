use Rattle.std.proofs.Common.{◌≡◌, Some, None, sym, ◌∙◌, rules, arith}
use Rattle.std.proofs.lemmas.Grind.{common_steps}
use Rattle.formats.specs.NoisyTable.{unlike}
use Rattle.formats.proofs.Marks.{unlike-position}
use Rattle.formats.proofs.header.check_mark.Goals as goal

pub returns-in-Some : goal.returns-in-Some
returns-in-Some c =
    let at : unlike 0 c.args.mark c.args.found ≡ Some c.in-Some.at
    = sym (unlike-position c.args.mark c.args.found (search rules)) ∙ sym c.wrong_mark.ensures ∙ c.in-Some.is in
    rw at (search rules)

pub returns-then-from_be_bytes-ne-VERSION : goal.returns-then-from_be_bytes-ne-VERSION
returns-then-from_be_bytes-ne-VERSION c =
    let none : unlike 0 c.args.mark c.args.found ≡ None
    = sym (unlike-position c.args.mark c.args.found (search rules)) ∙ sym c.wrong_mark.ensures ∙ c.in_default.is in
    rw none (grind (arith, common_steps))

pub returns : goal.returns
returns c =
    let none : unlike 0 c.args.mark c.args.found ≡ None
    = sym (unlike-position c.args.mark c.args.found (search rules)) ∙ sym c.wrong_mark.ensures ∙ c.in_default.is in
    rw none (grind (arith, common_steps))
