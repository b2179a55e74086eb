use Rattle.std.proofs.Common.{ℕ, ◌*◌, ap, rules}
use Rattle.formats.specs.Publication.{NodePart}
use Rattle.formats.proofs.Cuts.{node-within, part-reads}
use Rattle.formats.proofs.cutting.cut.Goals as goal

pub slice_bounds-result-end : goal.slice_bounds-result-end
slice_bounds-result-end g c =
    let told = c.in_ok-shape.ensures in
    let within = node-within g.K.Kind.number g.K.Kind.width c.args.publication.now c.in_ok-shape.shape.fanout c.in_ok-shape.shape.height
    c.args.node c.nodes.result told.0 told.1.0 told.1.1 c.nodes.ensures.count c.if-node-nodes.false in
    let product = ap (λ (n : ℕ). n * c.args.node) c.width-width.ensures in
    search rules

pub returns : goal.returns
returns g c =
    let part : NodePart g.K.Kind.width c.args.publication.now c.args.node _ _ = search rules in
    record {
      answer = (search rules, part);
      reads = part-reads g.K.Kind.width c.args.publication.now c.args.node _ _ part;
    }
