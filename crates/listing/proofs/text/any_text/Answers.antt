use Rattle.std.proofs.Common.{vec_items}
use Rattle.std.proofs.lemmas.Result.{err_from_is_err_and}
use Rattle.formats.specs.NoisyTable.{kind_in}
use Rattle.listing.specs.Listing.{ListedAt, table_rules, width_of}
use Rattle.listing.proofs.Made.{refused-so, unknown-refused}
use Rattle.listing.proofs.text.any_text.Goals as goal

pub returns-in_err-cell_kind : goal.returns-in_err-cell_kind
returns-in_err-cell_kind c =
    let p = err_from_is_err_and c.from_residual-in_err-cell_kind.result c.from_residual-in_err-cell_kind.ensures.1 in
    let table = c.args.table.now in
    let e = c.in_err-cell_kind.field-0.0 in
    let header = c.in_ok-header.ensures in
    refused-so (table_rules table) (λ t. ListedAt (width_of (kind_in table)) table (vec_items t)) c.from_residual-in_err-cell_kind.result p.0 e
    (unknown-refused c.in_ok-header.header.kind table e header.0 header.1.kind c.in_err-cell_kind.ensures) p.1 p.2
