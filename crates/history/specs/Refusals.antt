-- The table of refusals of each call on a tree sheet.
use Rattle.std.specs.Prelude.{ℕ, suc, not, List, [], ◌∷◌, ◌++◌, length, is_some, Some, None, Option, nat_le, nat_lt, slice_index_or}
use Rattle.algebra.specs.Row.{Row, beyond}
use Rattle.denial.specs.Rules.{Rule, rule, rule_at}
use Rattle.denial.specs.declared.reason.Reason.TheVariants.{SliceTooShort, Unlaid, NoSuchNode, EnteredBeyondLimit, NodeEmpty, SomeNodeEmpty, NotReleased, BufferTooShort}
use Rattle.shapes.specs.Laid.{shape_rules}
use Rattle.shapes.specs.Tree.{size}
use Rattle.formats.specs.NoisyTable.{load_rules as table_rules}
use Rattle.formats.specs.Publication.{publication_length}
use Rattle.history.specs.Facts.{Facts, Rooms, fanout_of, height_of, nodes_of, wires_of, limit_of}

-- The first slice that is too short for n nodes.
abbrev pub room_rules : ℕ → Rooms → List Rule
room_rules n r =
    rule (nat_lt r.noisy n) SliceTooShort 1
    ∷ rule (nat_lt r.marks n) SliceTooShort 2
    ∷ rule (nat_lt r.numerators n) SliceTooShort 3
    ∷ rule (nat_lt r.work n) SliceTooShort 4
    ∷ []

abbrev pub lay_rules : Rooms → ℕ → ℕ → List Rule
lay_rules r b L = shape_rules b L ++ room_rules (size b L) r

-- Every call but lay.
abbrev pub laid_rules : Facts → List Rule
laid_rules s = rule (not (is_some s.shape)) Unlaid 0 ∷ []

-- A node that is named.
abbrev pub node_rules : Facts → ℕ → List Rule
node_rules s v = laid_rules s ++ rule (nat_le (nodes_of s.shape) v) NoSuchNode v ∷ []

-- A wire that is named.
abbrev pub wire_rules : Facts → ℕ → List Rule
wire_rules s j = laid_rules s ++ rule (nat_le (wires_of s.shape) j) NoSuchNode j ∷ []

-- A count of the row r.
abbrev pub count_rules : Facts → Row → List Rule
count_rules s r = rule_at EnteredBeyondLimit (beyond (limit_of s.shape) r) ∷ []

abbrev pub enter_rules : Facts → ℕ → Row → List Rule
enter_rules s v r = node_rules s v ++ count_rules s r

abbrev pub enter_wire_rules : Facts → ℕ → Row → List Rule
enter_wire_rules s j r = wire_rules s j ++ count_rules s r

abbrev pub strike_rules : Facts → ℕ → List Rule
strike_rules s v = node_rules s v ++ rule (not (is_some (slice_index_or s.counts v None))) NodeEmpty v ∷ []

-- Loading a table onto a sheet of a kind of width w.
abbrev pub load_rules : ℕ → ℕ → Facts → List ℕ → List Rule
load_rules kind w s table = laid_rules s ++ table_rules kind w (fanout_of s.shape) (height_of s.shape) table

-- The first node with no count, the nodes numbered from v.
abbrev pub empty_from : ℕ → List (Option Row) → Option ℕ
empty_from v [] = None
empty_from v (None ∷ xs) = Some v
empty_from v (Some r ∷ xs) = empty_from (suc v) xs

abbrev pub release_rules : Facts → List Rule
release_rules s = laid_rules s ++ rule_at SomeNodeEmpty (empty_from 0 s.counts) ∷ []

-- A release that is asked for.
abbrev pub released_rule : Facts → Rule
released_rule s = rule (not s.released) NotReleased 0

abbrev pub read_rules : Facts → ℕ → List Rule
read_rules s v = node_rules s v ++ released_rule s ∷ []

-- A buffer of so many bytes for what needs so many.
abbrev pub buffer_rule : ℕ → ℕ → Rule
buffer_rule room needed = rule (nat_lt room needed) BufferTooShort needed

abbrev pub released_rules : Facts → List Rule
released_rules s = laid_rules s ++ released_rule s ∷ []

-- Publishing rows of width w into a buffer.
abbrev pub publish_rules : ℕ → Facts → ℕ → List Rule
publish_rules w s room = released_rules s ++ buffer_rule room (publication_length w (nodes_of s.shape)) ∷ []

-- The first line of a listing into a buffer, and the line of node v.
abbrev pub first_line_rules : Facts → List ℕ → ℕ → List Rule
first_line_rules s line room = released_rules s ++ buffer_rule room (length line) ∷ []

abbrev pub node_line_rules : Facts → ℕ → List ℕ → ℕ → List Rule
node_line_rules s v line room = read_rules s v ++ buffer_rule room (length line) ∷ []
