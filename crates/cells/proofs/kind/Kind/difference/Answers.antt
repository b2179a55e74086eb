use Rattle.std.proofs.Common.{◌-ℤ◌, rules}
use Rattle.algebra.proofs.Rows.{part-sub, zip_length}
use Rattle.algebra.specs.Row.{◌⊖◌}
use Rattle.cells.proofs.Build.{sofar-none, builds}
use Rattle.cells.proofs.kind.Kind.difference.Goals as goal

pub loop-i-init : goal.loop-i-init
loop-i-init g c =
    let law = g.met.Self.Kind in
    let row = g.Self.Kind.row in
    let r = row c.args.self in
    let s = row c.args.other in
    let lr = law.sized c.args.self in
    let ls = law.sized c.args.other in
    (sofar-none (r ⊖ s) r, builds row _ (r ⊖ s) law.sized law.held (zip_length ◌-ℤ◌ _ r s lr ls), part-sub _ r s lr ls)

pub returns-in_err-answer : goal.returns-in_err-answer
returns-in_err-answer g c = search rules
