use Rattle.inference.proofs.Final.{tree-nearest}
use Rattle.inference.proofs.nearest_stands.Goals as goal

pub returns : goal.returns
returns c = tree-nearest
