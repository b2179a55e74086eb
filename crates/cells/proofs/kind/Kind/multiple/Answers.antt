use Rattle.std.proofs.Common.{◌∙◌, w64, to_z, of_z, rules}
use Rattle.algebra.proofs.Rows.{part-scale, scale-length}
use Rattle.algebra.specs.Row.{◌⊙◌}
use Rattle.cells.proofs.Build.{sofar-none, builds}
use Rattle.cells.proofs.kind.Kind.multiple.Goals as goal

pub loop-i-init : goal.loop-i-init
loop-i-init g c =
    let law = g.met.Self.Kind in
    let row = g.Self.Kind.row in
    let by = to_z w64 (of_z w64 c.args.by) in
    let r = row c.args.self in
    let wide = scale-length by r ∙ law.sized c.args.self in
    (sofar-none (by ⊙ r) r, builds row _ (by ⊙ r) law.sized law.held wide, part-scale by r)

pub returns-in_err-answer : goal.returns-in_err-answer
returns-in_err-answer g c = search rules
