use Rattle.std.proofs.Common.{◌≡◌, suc, ◌∙◌, sym, subst, add-one, arith}
use Rattle.algebra.specs.Row.{Within, row_at, ◌⊕◌}
use Rattle.algebra.specs.Sum.{sum_rows}
use Rattle.algebra.proofs.Places.{row_read}
use Rattle.cells.specs.Calls.{carry_limit}
use Rattle.solver.proofs.node.gather.Given as given
use Rattle.solver.proofs.node.gather.Goals as goal
use Rattle.solver.proofs.node.gather.Goals.{After-cell-item}

-- the sum with one more cell
one_more : (g : given.Over) (c : goal.After-cell-item g) →
    g.K.Kind.row c.loop-cell.sum ⊕ g.K.Kind.row c.cell-item.result ≡ sum_rows g.K.Kind.width (suc c.loop-cell.cell-index) (row_at g.K.Kind.row c.args.cells.now)
one_more g c = λ i. c.loop-cell.invariant i ⊕ row_read g.K.Kind.row c.args.cells.now c.loop-cell.cell-index c.cell-item.result (omega arith) c.cell-item.is i

pub plus-sum-requires : goal.plus-sum-requires
plus-sum-requires g c = subst (Within carry_limit) (sym (one_more g (goal.at.plus-sum-requires g c).After-cell-item)) (c.requires (suc c.loop-cell.cell-index) (omega arith))

pub loop-cell-preserved : goal.loop-cell-preserved
loop-cell-preserved g c = rw add-one (c.plus-sum.ensures ∙ one_more g (goal.at.loop-cell-preserved g c).After-cell-item)
