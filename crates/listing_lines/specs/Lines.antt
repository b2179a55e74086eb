-- What the lines of a listing say, as codes of characters: 32 is a space, 10 a line feed.
use Rattle.std.specs.Prelude.{ℕ, List, [], ◌∷◌, ◌++◌, ℤ, codes, decimal}
use Rattle.std.specs.List.{flat_map}
use Rattle.std.specs.Fmt.{signed_decimal}
use Rattle.algebra.specs.Row.{Row}
use Rattle.denial.specs.Numbers.{number}
use Rattle.denial.specs.Rules.{Rule}
use Rattle.denial.specs.declared.denial.Denial.{Denial}
use Rattle.listing_lines.specs.Buffer.{line_rules}
use Rattle.listing_lines.specs.Nearest.{nearest, nearest_rules}

-- A single space parts a number from what stands before it.
abbrev pub field : ℕ → List ℕ
field n = 32 ∷ decimal n

abbrev pub signed_field : ℤ → List ℕ
signed_field x = 32 ∷ signed_decimal x

abbrev pub nearest_field : ℕ → ℤ → List ℕ
nearest_field d x = signed_field (nearest x d)

abbrev pub line_feed : List ℕ
line_feed = 10 ∷ []

-- The mark, the version, the kind, the fan-out, the height and the denominator.
abbrev pub first_line : ℕ → ℕ → ℕ → ℕ → List ℕ
first_line kind fanout height d = codes "HCR" ++ field 1 ++ field kind ++ field fanout ++ field height ++ field d ++ line_feed

-- A node, the numerators of its row, then the nearest whole number of each over the denominator.
abbrev pub node_line : ℕ → Row → ℕ → List ℕ
node_line node row d = decimal node ++ flat_map signed_field row ++ flat_map (nearest_field d) row ++ line_feed

abbrev pub node_rules : ℕ → Row → ℕ → List ℕ → List Rule
node_rules node row d buffer = nearest_rules d ++ line_rules (node_line node row d) buffer

-- A refusal's number and its place.
abbrev pub refusal_line : Denial → List ℕ
refusal_line e = codes "refused" ++ field (number e.reason) ++ field e.place ++ line_feed
