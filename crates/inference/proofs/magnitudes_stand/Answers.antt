use Rattle.inference.proofs.Magnitudes.{magnitudes}
use Rattle.inference.proofs.magnitudes_stand.Goals as goal

pub returns : goal.returns
returns c = magnitudes
