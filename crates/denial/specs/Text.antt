-- What is printed of a denial, as codes of characters: 32 is a space.
use Rattle.std.specs.Prelude.{ℕ, List, ◌∷◌, ◌++◌, codes, decimal}
use Rattle.denial.specs.Numbers.{number}
use Rattle.denial.specs.declared.denial.Denial.{Denial}

-- A refusal's number and its place.
abbrev pub denial_text : Denial → List ℕ
denial_text e = codes "refused" ++ (32 ∷ decimal (number e.reason)) ++ (32 ∷ decimal e.place)
