use Rattle.std.proofs.Common.{◌≡◌, ◌<◌, ◌++◌, List, length-take-le, vec_items, sym, ap, ◌∙◌, subst, arith}
use Rattle.std.proofs.lemmas.List.{get_or-take}
use Rattle.std.proofs.lemmas.Result.{err_from_is_err_and}
use Rattle.algebra.specs.Row.{row_at}
use Rattle.algebra.proofs.Places.{row_read}
use Rattle.listing_lines.specs.Lines.{node_line}
use Rattle.listing_lines.specs.Nearest.{nearest_rules}
use Rattle.listing.specs.Text.{node_lines, GrowsBy}
use Rattle.listing.proofs.Grown.{nodes-more, unwrapped}
use Rattle.listing.proofs.lines.add_nodes.Goals as goal

pub returns-in_err-extend_from_slice : goal.returns-in_err-extend_from_slice
returns-in_err-extend_from_slice g c =
    let p = err_from_is_err_and c.from_residual.result c.from_residual.ensures.1 in
    let cells = c.args.numerators.now in
    let old = vec_items c.args.text.now in
    let new = vec_items c.extend_from_slice.new.self in
    let lines = node_lines (row_at g.K.Kind.row cells) c.args.d in
    let less : c.loop-v.v < c.args.n = omega (arith, length-take-le c.args.n cells c.requires.within) in
    subst (λ r. GrowsBy old lines c.args.n r new) (sym p.1) (c.loop-v.v, less, c.in_err-extend_from_slice.ensures.items ∙ c.loop-v.invariant)

pub loop-v-preserved : goal.loop-v-preserved
loop-v-preserved g c =
    let row = g.K.Kind.row in
    let cells = c.args.numerators.now in
    let v = c.loop-v.v in
    let x = c.cell-item.result in
    let less : v < c.args.n = omega (arith, length-take-le c.args.n cells c.requires.within) in
    let here : row x ≡ row_at row cells v = row_read row cells v x (omega arith) (c.cell-item.is ∙ get_or-take c.args.n cells v x less) in
    let line : c.unwrap-line.result.bytes ≡ node_line v (row x) c.args.d
    = unwrapped (nearest_rules c.args.d) (λ l. l.bytes ≡ node_line v (row x) c.args.d) c.node_line_text.result c.unwrap-line.result c.node_line_text.ensures c.unwrap-line.ensures in
    let added : c.as_bytes.result.now ≡ node_line v (row x) c.args.d = c.as_bytes.ensures.value ∙ c.deref.ensures.0 ∙ line in
    nodes-more (row_at row cells) c.args.d v (row x) (vec_items c.args.text.now) (vec_items c.loop-v.text) (vec_items c.extend_from_slice.new.self) here c.loop-v.invariant
    (c.in_ok-extend_from_slice.ensures.items ∙ ap (λ (l : List _). vec_items c.loop-v.text ++ l) added)
