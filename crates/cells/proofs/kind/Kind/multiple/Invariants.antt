use Rattle.std.proofs.Common.{◌≡◌, ℕ, ◌*ℤ◌}
use Rattle.algebra.specs.Row.{part, ◌⊙◌}
use Rattle.cells.proofs.Build.{Sofar, Builds}
use Rattle.cells.proofs.kind.Kind.multiple.Given as goal

abbrev pub invariant-loop-i : goal.invariant-loop-i
invariant-loop-i g l =
    let row = g.Self.Kind.row in
    let r = row l.self in
    Sofar (l.by ⊙ r) (row l.answer) l.i
    × Builds row g.Self.Kind.width (l.by ⊙ r)
    × ((j : ℕ) → part (l.by ⊙ r) j ≡ l.by *ℤ part r j)
