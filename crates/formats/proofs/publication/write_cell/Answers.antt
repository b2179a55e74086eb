use Rattle.std.proofs.Common.{ap, ◌∙◌, arith, w64, SFits, rules}
use Rattle.std.proofs.lemmas.Int.{to_z-of_z}
use Rattle.formats.specs.Bytes.{bytes_of, eight_bytes}
use Rattle.formats.proofs.Overlay.{cell-more}
use Rattle.formats.proofs.publication.write_cell.Goals as goal

pub loop-i-preserved : goal.loop-i-preserved
unfolding bytes_of
loop-i-preserved g c =
    let fits : SFits w64 c.in-Some.x = search rules in
    let told = c.in-Some.ensures.steps in
    cell-more _ c.in-Some.i _ _ c.loop-i.out _ (g.K.Kind.row c.args.cell) _ _ c.in-Some.x told.1 told.2
    (omega (arith, g.met.K.Kind.sized c.args.cell)) told.0
    (c.copy_from_slice.ensures.after ∙ c.to_be_bytes.ensures ∙ ap eight_bytes (to_z-of_z w64 c.in-Some.x fits))
    c.loop-i.invariant
