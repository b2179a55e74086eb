-- The products of the kinds: by them the distance between two cells is measured.
use Rattle.std.specs.Prelude.{ℤ, ◌+ℤ◌, ◌-ℤ◌, ◌*ℤ◌}
use Rattle.algebra.specs.Row.{Row, part}

abbrev pub single : Row → Row → ℤ
single r s = part r 0 *ℤ part s 0

-- What came in, what went out, and what stayed.
abbrev pub pair : Row → Row → ℤ
pair r s =
    part r 0 *ℤ part s 0 +ℤ part r 1 *ℤ part s 1
    +ℤ (part r 0 -ℤ part r 1) *ℤ (part s 0 -ℤ part s 1)

abbrev pub four : Row → Row → ℤ
four r s =
    part r 0 *ℤ part s 0 +ℤ part r 1 *ℤ part s 1 +ℤ part r 2 *ℤ part s 2
    +ℤ part r 3 *ℤ part s 3
