-- The components of a cell that are still to be told.
use Rattle.std.specs.Prelude.{List, ℤ, drop}
use Rattle.algebra.specs.Row.{Row}
use Rattle.cells.specs.declared.components.Components.{Components}

-- Those from the next on, where `row` says what a cell means.
abbrev pub components_left : {K : Type 0} → (K → Row) → Components K → List ℤ
components_left row c = drop c.next (row c.cell)
