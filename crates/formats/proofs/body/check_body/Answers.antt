use Rattle.std.proofs.Common.{None, arith}
use Rattle.shapes.specs.Laid.{entry_limit}
use Rattle.shapes.specs.Tree.{size}
use Rattle.formats.proofs.Tables.{body-searched}
use Rattle.formats.proofs.body.check_body.Goals as goal

pub returns-in-Some : goal.returns-in-Some
returns-in-Some g c =
    body-searched (entry_limit c.args.shape.fanout c.args.shape.height) _ g.K.Kind.width (size c.args.shape.fanout c.args.shape.height) _ c.args.components.now _ _ _
    c.component_count-bytes.ensures (omega arith) c.entry_limit.ensures c.as_chunks.ensures.front c.first_beyond.ensures c.in-Some.is

pub returns : goal.returns
returns g c = (
  body-searched (entry_limit c.args.shape.fanout c.args.shape.height) _ g.K.Kind.width (size c.args.shape.fanout c.args.shape.height) _ c.args.components.now _ None _
      c.component_count-bytes.ensures (omega arith) c.entry_limit.ensures c.as_chunks.ensures.front c.first_beyond.ensures c.in_default.is,
  tt,
)
