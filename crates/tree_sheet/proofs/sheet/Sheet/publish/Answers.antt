use Rattle.std.proofs.Common.{length, ap, arith}
use Rattle.std.proofs.lemmas.Grind.{common_steps}
use Rattle.history.proofs.Same.{same_bytes}
use Rattle.history.proofs.Steps.{publish-step}
use Rattle.tree_sheet.specs.Calls.{Publishes}
use Rattle.tree_sheet.specs.Held.{contents}
use Rattle.tree_sheet.proofs.sheet.Sheet.publish.Goals as goal

pub returns-in_err-shape-clause-again : goal.returns-in_err-shape-clause-again
returns-in_err-shape-clause-again g c = same_bytes

pub returns-clause-history : goal.returns-clause-history
returns-clause-history g c =
    let s = c.args.self.now in
    let out = c.args.out.now in
    let ends : Publishes g.K.Kind s out c.write_publication.new.out c.write_publication.result = grind (arith, common_steps) in
    publish-step g.K.Kind.row g.K.Kind.number g.K.Kind.width g.K.Kind.product (contents s) _ g.met.K.Kind.sized g.met.K.Kind.held g.met.K.Kind.lawful
    (length out) out c.write_publication.new.out c.write_publication.result (ap contents c.in_ok-shape.ensures.same) ends

pub returns-clause-again : goal.returns-clause-again
returns-clause-again g c = same_bytes
