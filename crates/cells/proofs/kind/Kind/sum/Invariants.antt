use Rattle.std.proofs.Common.{◌≡◌, ℕ, ◌+ℤ◌}
use Rattle.algebra.specs.Row.{part, ◌⊕◌}
use Rattle.cells.proofs.Build.{Sofar, Builds}
use Rattle.cells.proofs.kind.Kind.sum.Given as goal

abbrev pub invariant-loop-i : goal.invariant-loop-i
invariant-loop-i g l =
    let row = g.Self.Kind.row in
    let r = row l.self in
    let s = row l.other in
    Sofar (r ⊕ s) (row l.answer) l.i
    × Builds row g.Self.Kind.width (r ⊕ s)
    × ((j : ℕ) → part (r ⊕ s) j ≡ part r j +ℤ part s j)
