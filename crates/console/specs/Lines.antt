-- What is printed, as codes of characters: 32 is a space, 10 a line feed.
use Rattle.std.specs.Prelude.{ℕ, List, [], ◌∷◌, ◌++◌, ℤ, codes, decimal}
use Rattle.std.specs.List.{flat_map}
use Rattle.std.specs.Fmt.{signed_decimal}
use Rattle.algebra.specs.Row.{Row}
use Rattle.denial.specs.Text.{denial_text}
use Rattle.denial.specs.declared.denial.Denial.{Denial}
use Rattle.history.specs.Replies.{Reply, done, refused, seen, printed}
use Rattle.console.specs.Hex.{hex_text}

-- A single space parts a number from what stands before it.
abbrev pub field : ℕ → List ℕ
field n = 32 ∷ decimal n

abbrev pub signed_field : ℤ → List ℕ
signed_field x = 32 ∷ signed_decimal x

abbrev pub line_feed : List ℕ
line_feed = 10 ∷ []

abbrev pub denial_line : Denial → List ℕ
denial_line e = denial_text e ++ line_feed

abbrev pub cell_line : Row → ℕ → List ℕ
cell_line row d = codes "ok" ++ (flat_map signed_field row ++ (field d ++ line_feed))

abbrev pub bytes_line : List ℕ → List ℕ
bytes_line bytes = codes "ok " ++ (hex_text bytes ++ line_feed)

-- The line of what a call answers.
abbrev pub reply_line : Reply → List ℕ
reply_line done = codes "ok" ++ line_feed
reply_line (refused e) = denial_line e
reply_line (seen row d) = cell_line row d
reply_line (printed bytes) = bytes_line bytes
