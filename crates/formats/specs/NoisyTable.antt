-- The format of a noisy table: a header of 8 bytes, which are the mark, a version of two bytes, the kind, the fan-out and
-- the height; then the components of nodes 0, 1, 2 …, four signed bytes each, those of one node side by side.
use Rattle.std.specs.Prelude.{◌≡◌, ℕ, suc, ◌+◌, ◌*◌, ◌<◌, Bool, cond, not, ◌||◌, List, [], ◌∷◌, ◌++◌, length, drop, Some, None, codes, Option, ◌==◌, nat_lt, slice_index}
use Rattle.std.specs.Option.{option_map}
use Rattle.std.specs.List.{range_with_len, flat_map, between}
use Rattle.algebra.specs.Row.{Row, tabulate, row_at, beyond, Within}
use Rattle.cells.specs.Names.{kind_number}
use Rattle.cells.specs.declared.cell_kind.CellKind.TheVariants.{Single, Pair, Four}
use Rattle.denial.specs.Rules.{Rule, rule, rule_at, first}
use Rattle.denial.specs.declared.reason.Reason.TheVariants.{SliceTooShort, TableTooShort, WrongMark, WrongVersion, WrongKind, WrongShape, WrongLength, LoadedBeyondLimit}
use Rattle.shapes.specs.Laid.{shape_rules, entry_limit}
use Rattle.shapes.specs.Tree.{size}
use Rattle.shapes.specs.declared.shape.Shape.{Shape}
use Rattle.formats.specs.Bytes.{AreBytes, bytes_at, unsigned, word, four_bytes}

abbrev pub mark : List ℕ
mark = codes "HCT"

abbrev pub kind_in : List ℕ → ℕ
kind_in table = slice_index table 5

abbrev pub fanout_in : List ℕ → ℕ
fanout_in table = slice_index table 6

abbrev pub height_in : List ℕ → ℕ
height_in table = slice_index table 7

-- What stands after the header.
abbrev pub body_of : List ℕ → List ℕ
body_of table = between 8 (length table) table

-- The row of node v, where rows of width w stand one after another: its component i is word w × v + i.
abbrev pub body_row : ℕ → List ℕ → ℕ → Row
body_row w body v = tabulate w (λ i. word body (w * v + i))

-- The row of node v in a table of rows of width w.
abbrev pub table_row : ℕ → List ℕ → ℕ → Row
table_row w table v = body_row w (body_of table) v

-- How many bytes a table of n rows of width w has.
abbrev pub table_length : ℕ → ℕ → ℕ
table_length w n = 8 + 4 * (w * n)

-- The first place at which bytes are not those of a string, the places counted from i.
abbrev pub unlike : ℕ → List ℕ → List ℕ → Option ℕ
unlike i [] bytes = None
unlike i (m ∷ ms) [] = Some i
unlike i (m ∷ ms) (x ∷ xs) = cond (x == m) (unlike (suc i) ms xs) (Some i)

-- Whether three bytes are a format's mark, and the bytes of a version say 1.
abbrev pub start_rules : List ℕ → List ℕ → List ℕ → List Rule
start_rules expected found version = rule_at WrongMark (unlike 0 expected found) ∷ rule (not (unsigned version == 1)) WrongVersion 3 ∷ []

-- Whether bytes begin with a format's mark, and then with version 1.
abbrev pub mark_rules : List ℕ → List ℕ → List Rule
mark_rules expected bytes = start_rules expected (bytes_at bytes 0 3) (bytes_at bytes 3 2)

-- Whether these bytes are a table at all.
abbrev pub form_rules : List ℕ → List Rule
form_rules table = rule (nat_lt (length table) 8) TableTooShort (length table) ∷ mark_rules mark table

-- Whether the kind that a header names is the one that is asked for.
abbrev pub kind_rules : ℕ → ℕ → List Rule
kind_rules kind found = rule (not (found == kind)) WrongKind 5 ∷ []

-- Whether a number is that of a kind of cell.
abbrev pub is_kind : ℕ → Bool
is_kind number = number == kind_number Single || number == kind_number Pair || number == kind_number Four

-- Whether the kind that a header names is one that there is.
abbrev pub any_kind_rules : ℕ → List Rule
any_kind_rules found = rule (not (is_kind found)) WrongKind 5 ∷ []

abbrev pub head_rules : ℕ → List ℕ → List Rule
head_rules kind table = form_rules table ++ kind_rules kind (kind_in table)

-- Whether what stands after the header is n rows of width w with no component over a limit, up to its sign.
abbrev pub body_rules : ℕ → ℕ → ℕ → List ℕ → List Rule
body_rules limit w n body =
    rule (not (8 + length body == table_length w n)) WrongLength (table_length w n)
    ∷ rule_at LoadedBeyondLimit (option_map (λ i. 8 + 4 * i) (beyond limit (tabulate (w * n) (word body))))
    ∷ []

-- The same for the shape of fan-out b and height L, and its entry limit.
abbrev pub laid_rules : ℕ → ℕ → ℕ → List ℕ → List Rule
laid_rules w b L body = body_rules (entry_limit b L) w (size b L) body

-- Whether a slice of so many cells is long enough for n.
abbrev pub room_rules : ℕ → ℕ → List Rule
room_rules room n = rule (nat_lt room n) SliceTooShort 1 ∷ []

-- Filling a slice of so many cells with what stands after the header of a table of that shape.
abbrev pub fill_rules : ℕ → ℕ → ℕ → ℕ → List ℕ → List Rule
fill_rules w b L room body = room_rules room (size b L) ++ laid_rules w b L body

-- Reading a table of a kind of width w into a slice of that many cells.
abbrev pub read_rules : ℕ → ℕ → ℕ → List ℕ → List Rule
read_rules kind w room table =
    head_rules kind table
    ++ shape_rules (fanout_in table) (height_in table)
    ++ fill_rules w (fanout_in table) (height_in table) room (body_of table)

-- Whether the fan-out and the height that a header names are b and L.
abbrev pub like_rules : ℕ → ℕ → ℕ → ℕ → List Rule
like_rules b L fanout height =
    rule (not (fanout == b)) WrongShape 6
    ∷ rule (not (height == L)) WrongShape 7
    ∷ []

-- Whether a table names the shape of fan-out b and height L.
abbrev pub match_rules : ℕ → ℕ → List ℕ → List Rule
match_rules b L table = like_rules b L (fanout_in table) (height_in table)

-- Loading a table of a kind of width w onto the shape of fan-out b and height L.
abbrev pub load_rules : ℕ → ℕ → ℕ → ℕ → List ℕ → List Rule
load_rules kind w b L table = head_rules kind table ++ match_rules b L table ++ laid_rules w b L (body_of table)

-- Loading it into a slice of so many cells.
abbrev pub load_into_rules : ℕ → ℕ → ℕ → ℕ → ℕ → List ℕ → List Rule
load_into_rules kind w b L room table = head_rules kind table ++ match_rules b L table ++ fill_rules w b L room (body_of table)

-- A header taken apart: its kind, fan-out and height, and what stands after it.
pub record HeaderOf (table : List ℕ) (k b L : ℕ) (components : List ℕ) : Type 0 where
  pub kind : k ≡ kind_in table
  pub fanout : b ≡ fanout_in table
  pub height : L ≡ height_in table
  pub body : components ≡ body_of table

-- What the cells of a slice hold after it was filled with what stands after the header of a table of fan-out b and height L.
pub record Filled {K : Type 0} (row : K → Row) (w b L : ℕ) (body : List ℕ) (before after : List K) : Type 0 where
  pub rows : (v : ℕ) → v < size b L → row_at row after v ≡ body_row w body v
  pub within : (v : ℕ) → v < size b L → Within (entry_limit b L) (row_at row after v)
  pub rest : drop (size b L) after ≡ drop (size b L) before
  pub same_length : length after ≡ length before

-- What the cells of a slice hold after a table was read into it.
pub record TableRead {K : Type 0} (row : K → Row) (w : ℕ) (table : List ℕ) (s : Shape) (before after : List K) : Type 0 where
  pub fanout : s.fanout ≡ fanout_in table
  pub height : s.height ≡ height_in table
  pub rows : (v : ℕ) → v < size s.fanout s.height → row_at row after v ≡ table_row w table v
  pub within : (v : ℕ) → v < size s.fanout s.height → Within (entry_limit s.fanout s.height) (row_at row after v)
  pub rest : drop (size s.fanout s.height) after ≡ drop (size s.fanout s.height) before
  pub same_length : length after ≡ length before

-- What the cells of a slice hold after a table of fan-out b and height L was loaded into it.
pub record TableLoaded {K : Type 0} (row : K → Row) (w : ℕ) (table : List ℕ) (b L : ℕ) (before after : List K) : Type 0 where
  pub fanout : fanout_in table ≡ b
  pub height : height_in table ≡ L
  pub rows : (v : ℕ) → v < size b L → row_at row after v ≡ table_row w table v
  pub within : (v : ℕ) → v < size b L → Within (entry_limit b L) (row_at row after v)
  pub rest : drop (size b L) after ≡ drop (size b L) before
  pub same_length : length after ≡ length before

-- The table of kind k, fan-out b and height L that is made of rows.
abbrev pub noisy_table : ℕ → ℕ → ℕ → (ℕ → Row) → List ℕ
noisy_table k b L rows = mark ++ (0 ∷ 1 ∷ k ∷ b ∷ L ∷ []) ++ flat_map (λ v. flat_map four_bytes (rows v)) (range_with_len 0 (size b L))

-- The first n rows are of width w, with no component over a limit, up to its sign.
abbrev pub RowsWithin : ℕ → ℕ → ℕ → (ℕ → Row) → Type 0
RowsWithin limit w n rows = (v : ℕ) → v < n → (length (rows v) ≡ w) × Within limit (rows v)

-- Tables and rows determine one another: a table that is made of rows is bytes, is loaded, and has those rows; and a table
-- that is loaded is the one that is made of its rows.
pub record LaysOut : Type 0 where
  pub made : (k w b L : ℕ) (rows : ℕ → Row) → k < 256 → b < 256 → L < 256 → RowsWithin (entry_limit b L) w (size b L) rows
      → AreBytes (noisy_table k b L rows)
      × (first (load_rules k w b L (noisy_table k b L rows)) ≡ None)
      × ((v : ℕ) → v < size b L → table_row w (noisy_table k b L rows) v ≡ rows v)
  pub again : (k w b L : ℕ) (table : List ℕ) → AreBytes table → first (load_rules k w b L table) ≡ None → noisy_table k b L (table_row w table) ≡ table
