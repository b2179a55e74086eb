use Rattle.std.proofs.Common.{rules}
use Rattle.shapes.specs.Laid.{Shapely}
use Rattle.shapes.proofs.Multiples.{rule, entry-is, entry-in}
use Rattle.shapes.proofs.shape.Shape.denominator.Goals as goal

pub bounds-self-2 : goal.bounds-self-2
bounds-self-2 c = search (rules, entry-in)

pub returns : goal.returns
returns c =
    let s = c.args.self in
    let shapely : Shapely s.fanout s.height = s.shapely in
    record { value = search (rules, entry-is); law = rw entry-is (rule s.fanout s.height shapely) }
