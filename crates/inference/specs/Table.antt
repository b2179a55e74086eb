-- Tables on a complete tree of fan-out b and height L, with rows of width w.
use Rattle.std.specs.Prelude.{◌≡◌, ℕ, length}
use Rattle.algebra.specs.Row.{Row}
use Rattle.algebra.specs.Sum.{sum_rows}
use Rattle.shapes.specs.Tree.{child, Node, Parent}

-- a row at every number; only those at nodes count
abbrev pub Table : Type 0
Table = ℕ → Row

abbrev pub Sized : (w b L : ℕ) → Table → Type 0
Sized w b L T = (v : ℕ) → Node b L v → length (T v) ≡ w

-- the sum over the children of v
abbrev pub over_children : (w b : ℕ) → Table → ℕ → Row
over_children w b T v = sum_rows w b (λ j. T (child b v j))

-- each parent is the sum of its children
abbrev pub AddsUp : (w b L : ℕ) → Table → Type 0
AddsUp w b L T = (u : ℕ) → Parent b L u → T u ≡ over_children w b T u
