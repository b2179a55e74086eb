use Rattle.std.proofs.Common.{◌≡◌, ◌++◌, length, length-append, ap, ◌∙◌, arith, rules, w64, SFits}
use Rattle.std.proofs.lemmas.Grind.{common_steps}
use Rattle.std.proofs.lemmas.Int.{to_z-of_z}
use Rattle.std.proofs.lemmas.List.{flat_map_more}
use Rattle.listing_lines.specs.Lines.{nearest_field, signed_field}
use Rattle.listing_lines.specs.Nearest.{nearest}
use Rattle.listing_lines.proofs.node.node_line_text.Goals as goal

pub add_field-requires-in-loop-numerator-2 : goal.add_field-requires-in-loop-numerator-2
add_field-requires-in-loop-numerator-2 g c =
    let first = simp length-append at (ap length c.loop-numerator.invariant.parts) in
    let second = simp length-append at (ap length c.loop-numerator-2.invariant.parts) in
    let left = ap length c.in-Some-numerator.ensures.steps in
    omega (arith, first, second, left, ap length c.new-line.ensures, g.met.K.Kind.sized c.args.cell, g.met.K.Kind.narrow)

pub loop-numerator-2-preserved : goal.loop-numerator-2-preserved
loop-numerator-2-preserved g c =
    let x = c.in-Some-numerator.numerator in
    let y = c.in_ok-nearest.field-0 in
    let d = c.args.denominator in
    let x_fits : SFits w64 x = search rules in
    let y_fits : SFits w64 y = search rules in
    let rounded : y ≡ nearest x d = c.in_ok-nearest.ensures.1.0 ∙ ap (λ n. nearest n d) (to_z-of_z w64 x x_fits) in
    let before = c.loop-numerator-2.invariant.added in
    record {
      parts = grind (arith, common_steps);
      added = c.add_field-in-loop-numerator-2.ensures.adds ∙ (λ i. before i ++ signed_field ((to_z-of_z w64 y y_fits ∙ rounded) i))
          ∙ flat_map_more (nearest_field d) c.loop-numerator.line.bytes c.loop-numerator-2.yielded x;
      short = grind (arith, common_steps);
      accepted = λ _. c.in_ok-nearest.ensures.0;
    }
