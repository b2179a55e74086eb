use Rattle.std.proofs.Common.{◌≡◌, ◌++◌, vec_items}
use Rattle.algebra.specs.Row.{row_at}
use Rattle.listing.specs.Text.{node_lines}
use Rattle.listing.proofs.lines.add_nodes.Given as goal

abbrev pub invariant-loop-v : goal.invariant-loop-v
invariant-loop-v g l = vec_items l.text ≡ vec_items l.initial.text ++ node_lines (row_at g.K.Kind.row l.numerators) l.d l.v
