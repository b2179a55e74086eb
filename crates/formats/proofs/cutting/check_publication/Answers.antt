use Rattle.formats.proofs.Cuts.{answered}
use Rattle.formats.proofs.cutting.check_publication.Goals as goal

pub returns : goal.returns
returns g c =
    let header = c.in_ok-published.ensures in
    answered g.K.Kind.number g.K.Kind.width c.args.publication.now _ _ _ _ header.1 header.0
    c.in_ok-check_kind.ensures.0 c.shape.result c.shape.ensures
