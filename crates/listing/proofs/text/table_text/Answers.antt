use Rattle.std.proofs.Common.{◌≡◌, List, length, Some, None, vec_items, sym, ◌∙◌, subst}
use Rattle.std.proofs.lemmas.Result.{err_from_is_err_and}
use Rattle.algebra.specs.Row.{Within, row_at}
use Rattle.formats.specs.NoisyTable.{read_rules}
use Rattle.shapes.specs.Laid.{entry_limit}
use Rattle.listing.specs.Listing.{Listed, most_nodes}
use Rattle.listing.proofs.Made.{listed-so, refilled-is, read_as, refused-so}
use Rattle.listing.proofs.text.table_text.Goals as goal

pub returns-in_err-shape : goal.returns-in_err-shape
returns-in_err-shape g c =
    let p = err_from_is_err_and c.from_residual-in_err-shape.result c.from_residual-in_err-shape.ensures.1 in
    let n = g.K.Kind.number in
    let w = g.K.Kind.width in
    let table = c.args.table.now in
    let room : length c.as_mut_slice.result.now ≡ most_nodes = c.as_mut_slice.ensures.len ∙ c.in_ok-noisy.ensures.len in
    refused-so (read_rules n w most_nodes table) (λ t. Listed n w table (vec_items t)) c.from_residual-in_err-shape.result p.0 c.in_err-shape.field-0.0
    (read_as n w (length c.as_mut_slice.result.now) table (Some c.in_err-shape.field-0.0) room c.in_err-shape.ensures.answer) p.1 p.2

pub solve-d-requires-clause-counts : goal.solve-d-requires-clause-counts
solve-d-requires-clause-counts g c =
    let s = c.in_ok-shape.shape in
    let read = c.in_ok-shape.ensures.answer.1 in
    let long : length c.read_table.new.noisy ≡ c.in_ok-noisy.noisy.len = read.same_length ∙ c.as_mut_slice.ensures.len in
    let same = refilled-is c.in_ok-noisy.noisy.len c.in_ok-noisy.noisy.items c.read_table.new.noisy c.as_mut_slice-2.result.now long c.as_mut_slice-2.ensures.value in
    λ v h. subst (λ (xs : List _). Within (entry_limit s.fanout s.height) (row_at g.K.Kind.row xs v)) (sym same) (read.within v h)

pub returns : goal.returns
returns g c =
    let n = g.K.Kind.number in
    let w = g.K.Kind.width in
    let table = c.args.table.now in
    let answer = c.in_ok-shape.ensures.answer in
    let room : length c.as_mut_slice.result.now ≡ most_nodes = c.as_mut_slice.ensures.len ∙ c.in_ok-noisy.ensures.len in
    let long : length c.read_table.new.noisy ≡ c.in_ok-noisy.noisy.len = answer.1.same_length ∙ c.as_mut_slice.ensures.len in
    let same = refilled-is c.in_ok-noisy.noisy.len c.in_ok-noisy.noisy.items c.read_table.new.noisy c.as_mut_slice-2.result.now long c.as_mut_slice-2.ensures.value in
    let wide : length c.solve-d.new.numerators ≡ c.in_ok-numerators.numerators.len = c.solve-d.auto.numerators ∙ c.as_mut_slice-3.ensures.len in
    let shown = refilled-is c.in_ok-numerators.numerators.len c.in_ok-numerators.numerators.items c.solve-d.new.numerators c.as_slice.result.now wide c.as_slice.ensures.value in (
      read_as n w (length c.as_mut_slice.result.now) table None room answer.0,
      listed-so g.K.Kind.row n w c.solve-d.result table (vec_items c.in_ok-text.text) c.in_ok-shape.shape c.as_mut_slice.result.now c.read_table.new.noisy c.as_mut_slice-2.result.now c.solve-d.new.numerators c.as_slice.result.now
          answer.1 same c.solve-d.ensures.denominator c.solve-d.ensures.solved shown c.in_ok-text.ensures,
    )
