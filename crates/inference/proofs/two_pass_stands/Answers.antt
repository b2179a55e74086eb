use Rattle.inference.proofs.Recurrences.{two-pass}
use Rattle.inference.proofs.two_pass_stands.Goals as goal

pub returns : goal.returns
returns c = two-pass
