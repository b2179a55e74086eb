-- The slices of a tree sheet.
use Rattle.std.specs.Prelude.{ℕ}
use Rattle.tree_sheet.specs.declared.room.Slice.{Slice}
use Rattle.tree_sheet.specs.declared.room.Slice.TheVariants.{Noisy, Marks, Numerators, Work}

-- The number by which a denial names a slice.
abbrev pub number : Slice → ℕ
number Noisy = 1
number Marks = 2
number Numerators = 3
number Work = 4
