-- The lines of the listing of what a sheet holds, and how the calls for them end.
use Rattle.std.specs.Prelude.{◌≡◌, ℕ, List, length, Result}
use Rattle.algebra.specs.Row.{Row, row_at}
use Rattle.denial.specs.Rules.{Answers}
use Rattle.denial.specs.declared.denial.Denial.{Denial}
use Rattle.shapes.specs.Denominator.{denominator_of}
use Rattle.listing_lines.specs.Lines.{first_line, node_line}
use Rattle.history.specs.Contents.{Contents, laid, facts}
use Rattle.history.specs.Facts.{fanout_of, height_of}
use Rattle.history.specs.Refusals.{first_line_rules, node_line_rules}

-- The denominator of the laid shape.
abbrev pub denominator_in : {K : Type 0} → Contents K → ℕ
denominator_in c = denominator_of (fanout_of (laid c)) (height_of (laid c))

-- For a kind of number k.
abbrev pub first_line_of : {K : Type 0} → ℕ → Contents K → List ℕ
first_line_of k c = first_line k (fanout_of (laid c)) (height_of (laid c)) (denominator_in c)

abbrev pub node_line_of : {K : Type 0} → (K → Row) → Contents K → ℕ → List ℕ
node_line_of row c v = node_line v (row_at row c.numerators v) (denominator_in c)

-- The answer is the length of the line.
abbrev pub FirstLine : {K : Type 0} → (K → Row) → ℕ → Contents K → List ℕ → Result ℕ Denial → Type 0
FirstLine row k c before r = Answers (first_line_rules (facts row c) (first_line_of k c) (length before)) (λ n. n ≡ length (first_line_of k c)) r

abbrev pub NodeLine : {K : Type 0} → (K → Row) → Contents K → ℕ → List ℕ → Result ℕ Denial → Type 0
NodeLine row c v before r = Answers (node_line_rules (facts row c) v (node_line_of row c v) (length before)) (λ n. n ≡ length (node_line_of row c v)) r
