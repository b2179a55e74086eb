use Rattle.std.proofs.Common.{[], ◌∷◌, vec_items, refl, rules}
use Rattle.std.proofs.lemmas.Slice.{pushed}
use Rattle.algebra.specs.Row.{zeros}
use Rattle.tree_sheet.proofs.Filled.{rows_more}
use Rattle.tree_sheet.proofs.zeros.zero_cells.Goals as goal

pub loop-i-preserved : goal.loop-i-preserved
loop-i-preserved g c =
    let x = c.zero.result in (
      search rules,
      rows_more g.K.Kind.row (vec_items c.loop-i.cells) (vec_items c.push.new.self) x c.loop-i.i (zeros g.K.Kind.width) c.loop-i.invariant.1 c.zero.ensures
          (pushed (x ∷ []) refl c.in_ok-push.was c.push.ensures.items),
    )
