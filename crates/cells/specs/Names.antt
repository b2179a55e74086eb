-- Which kind of cell a number names.
use Rattle.std.specs.Prelude.{◌≡◌, ◌≢◌, ℕ, Ok, Err, Result}
use Rattle.cells.specs.declared.cell_kind.CellKind.{CellKind}
use Rattle.cells.specs.declared.cell_kind.CellKind.TheVariants.{Single, Pair, Four}
use Rattle.cells.specs.declared.cell_kind.UnknownKind.{UnknownKind}

abbrev pub kind_number : CellKind → ℕ
kind_number Single = 1
kind_number Pair = 2
kind_number Four = 3

-- The kind that has a number, or that number where no kind has it.
abbrev pub Names : ℕ → Result CellKind UnknownKind → Type 0
Names number (Ok kind) = number ≡ kind_number kind
Names number (Err unknown) = (unknown.0 ≡ number) × ((kind : CellKind) → number ≢ kind_number kind)
