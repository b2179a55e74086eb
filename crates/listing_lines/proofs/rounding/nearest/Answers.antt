use Rattle.std.proofs.Common.{◌≡◌, nat_abs, ap, ◌∙◌, arith}
use Rattle.std.proofs.lemmas.Int.{ints}
use Rattle.listing_lines.specs.Nearest.{nearest, nearest_size}
use Rattle.listing_lines.proofs.Halves.{accepted, below-zero, from-zero}
use Rattle.listing_lines.proofs.rounding.nearest.Goals as goal
use Rattle.listing_lines.proofs.rounding.nearest.Goals.{then-numerator-lt0, else-numerator-lt0}

pub returns : goal.returns
returns c =
    let n = c.args.numerator in
    let d = c.args.denominator in
    let size : c.nearest_size.result ≡ nearest_size (nat_abs n) d = c.nearest_size.ensures.value ∙ ap (λ x. nearest_size x d) (omega (arith, ints)) in
    let value : c.if-numerator-lt0.signed ≡ nearest n d = elim c.if-numerator-lt0.branch [
      | then-numerator-lt0 w ↦ omega (arith, ints) ∙ below-zero n d _ (omega (arith, ints)) size
      | else-numerator-lt0 w ↦ omega (arith, ints) ∙ from-zero n d _ (omega (arith, ints)) size
    ] in
    accepted n d _ c.if-denominator-eq0.false (omega (arith, ints))
