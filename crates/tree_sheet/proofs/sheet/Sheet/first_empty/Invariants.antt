use Rattle.std.proofs.Common.{◌≡◌, map, drop}
use Rattle.std.specs.List.{range_with_len}
use Rattle.history.specs.Contents.{count_at}
use Rattle.history.specs.Refusals.{empty_from}
use Rattle.tree_sheet.specs.Held.{contents}
use Rattle.tree_sheet.proofs.sheet.Sheet.first_empty.Given as goal

abbrev pub invariant-loop-v : goal.invariant-loop-v
invariant-loop-v g l =
    (l.self ≡ l.initial.self)
    × (empty_from 0 (map (count_at g.K.Kind.row l.limit (contents l.initial.self)) (range_with_len 0 l.v-end))
    ≡ empty_from l.v (drop l.v (map (count_at g.K.Kind.row l.limit (contents l.initial.self)) (range_with_len 0 l.v-end))))
