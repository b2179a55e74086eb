use Rattle.std.proofs.Common.{◌≡◌, map, replicate, vec_items, vec_len}
use Rattle.algebra.specs.Row.{zeros}
use Rattle.listing.proofs.text.zero_cells.Given as goal

abbrev pub invariant-loop-i : goal.invariant-loop-i
invariant-loop-i g l =
    (vec_len l.cells ≡ l.i)
    × (map g.K.Kind.row (vec_items l.cells) ≡ replicate l.i (zeros g.K.Kind.width))
