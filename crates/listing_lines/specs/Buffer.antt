-- A line that is put into a buffer.
use Rattle.std.specs.Prelude.{ℕ, List, [], ◌∷◌, ◌++◌, length, drop, Ok, Err, Result, nat_lt}
use Rattle.denial.specs.Rules.{Rule, rule}
use Rattle.denial.specs.declared.denial.Denial.{Denial}
use Rattle.denial.specs.declared.reason.Reason.TheVariants.{BufferTooShort}

-- A buffer that is shorter than the line.
abbrev pub line_rules : List ℕ → List ℕ → List Rule
line_rules line buffer = rule (nat_lt (length buffer) (length line)) BufferTooShort (length line) ∷ []

-- What the buffer holds after the call: the line, then what stood past it; after a denial all that it held before.
abbrev pub buffered : List ℕ → List ℕ → Result ℕ Denial → List ℕ
buffered line before (Ok n) = line ++ drop (length line) before
buffered line before (Err e) = before
