use Rattle.std.proofs.Common.{rules}
use Rattle.formats.proofs.Again.{one-publication}
use Rattle.formats.proofs.Cuts.{cuts_back}
use Rattle.formats.proofs.ReadBack.{reads-back}
use Rattle.formats.proofs.publication.publication_length.Goals as goal

pub returns : goal.returns
returns g c = record { value = search rules; law = reads-back; cuts = cuts_back; one = one-publication }
