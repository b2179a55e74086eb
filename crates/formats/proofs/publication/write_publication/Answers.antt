use Rattle.std.proofs.Common.{length, ap, ◌∙◌, arith}
use Rattle.std.proofs.lemmas.List.{length-take-le}
use Rattle.algebra.specs.Row.{row_at}
use Rattle.shapes.specs.Tree.{size}
use Rattle.formats.specs.Publication.{publication_header, table_bytes}
use Rattle.formats.proofs.Overlay.{table-taken, publication-done}
use Rattle.formats.proofs.ReadBack.{header-length, written-reads}
use Rattle.formats.proofs.publication.write_publication.Goals as goal

pub copy_from_slice-requires : goal.copy_from_slice-requires
copy_from_slice-requires g c =
    let b = c.args.shape.fanout in
    let L = c.args.shape.height in
    omega (arith, length-take-le 16 c.args.out.now (omega (arith, c.publication_length-bytes.ensures.value)), ap length c.header.ensures, header-length g.K.Kind.number b L c.args.denominator)

pub returns : goal.returns
returns g c =
    let b = c.args.shape.fanout in
    let L = c.args.shape.height in
    let D = c.args.denominator in
    let k = g.K.Kind.number in
    let row = g.K.Kind.row in
    let cells = c.args.numerators.now in
    let value = c.publication_length-bytes.ensures.value in
    let now =
    publication-done (publication_header k b L D) _ (table_bytes (size b L) (row_at row cells)) _ c.args.out.now c.publication_length-bytes.result
    (header-length k b L D) (omega arith) (c.copy_from_slice.ensures.after ∙ c.header.ensures)
    (c.write_cells.ensures ∙ table-taken row cells c.nodes-nodes.result (size b L) c.nodes-nodes.ensures.count c.if-numerators-nodes.false) in
    record {
      answer = (grind arith, value);
      written = now;
      reads = written-reads row k g.K.Kind.width b L D cells c.publication_length-bytes.result _ _
          g.met.K.Kind.sized g.met.K.Kind.held (omega (arith, c.nodes-nodes.ensures.count)) c.ranges.denominator.fits value now;
    }
