-- Finite sums.
use Rattle.std.specs.Prelude.{ℕ, zero, suc, ℤ, pos, ◌+ℤ◌}
use Rattle.algebra.specs.Row.{Row, ◌⊕◌, zeros}

-- f 0 + … + f (n − 1)
abbrev pub sum : ℕ → (ℕ → ℤ) → ℤ
sum zero f = pos 0
sum (suc n) f = sum n f +ℤ f n

-- f 0 ⊕ … ⊕ f (n − 1), for rows of width w
abbrev pub sum_rows : ℕ → ℕ → (ℕ → Row) → Row
sum_rows w zero f = zeros w
sum_rows w (suc n) f = sum_rows w n f ⊕ f n
