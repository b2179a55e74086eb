use Rattle.listing_lines.proofs.Halves.{rounded}
use Rattle.listing_lines.proofs.rounding.nearest_size.Goals as goal

pub returns-clause-value : goal.returns-clause-value
returns-clause-value c = rounded c.args.size c.args.denominator _ c.requires c.from.ensures
