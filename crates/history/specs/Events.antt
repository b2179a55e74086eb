-- What a run of calls leaves standing, told from the calls' arguments and from which were accepted, and from nothing else.
-- A history has the newest event first. Rows have width w.
use Rattle.std.specs.Prelude.{◌≡◌, ℕ, ◌<◌, Bool, true, false, cond, List, [], ◌∷◌, map, is_some, Some, None, Option, ◌==◌}
use Rattle.std.specs.List.{range_with_len}
use Rattle.std.specs.Option.{unwrap_or}
use Rattle.algebra.specs.Row.{Row, row_at}
use Rattle.inference.specs.Table.{Table}
use Rattle.formats.specs.NoisyTable.{table_row}
use Rattle.history.specs.Contents.{Contents, laid, is_released, count_at}
use Rattle.history.specs.Effects.{solution}
use Rattle.history.specs.Facts.{Facts, Rooms, Form, nodes, limit, wire_node}

-- A call with its arguments: a count is entered at a node or at a wire, and a buffer to publish into has so many bytes.
pub data Asked : Type 0 where
  lay : ℕ → ℕ → Asked
  enter : ℕ → Row → Asked
  enter_wire : ℕ → Row → Asked
  strike : ℕ → Asked
  load : List ℕ → Asked
  release : Asked
  read : ℕ → Asked
  publish : ℕ → Asked

pub record Event : Type 0 where
  pub call : Asked
  pub accepted : Bool

abbrev pub event : Asked → Bool → Event
event a b = record { call = a; accepted = b }

-- The laid shape after an accepted call.
abbrev pub shape_by : Asked → Option Form → Option Form
shape_by (lay b L) s = Some (record { fanout = b; height = L })
shape_by (enter u r) s = s
shape_by (enter_wire j r) s = s
shape_by (strike u) s = s
shape_by (load table) s = s
shape_by release s = s
shape_by (read u) s = s
shape_by (publish n) s = s

abbrev pub shape_after : List Event → Option Form
shape_after [] = None
shape_after (e ∷ h) = cond e.accepted (shape_by e.call (shape_after h)) (shape_after h)

-- The count at node v after an accepted call, where s stood there before and f is the laid shape.
abbrev pub count_by : ℕ → Option Form → Asked → ℕ → Option Row → Option Row
count_by w f (lay b L) v s = None
count_by w f (enter u r) v s = cond (u == v) (Some r) s
count_by w f (enter_wire j r) v s = cond (wire_node f j == v) (Some r) s
count_by w f (strike u) v s = cond (u == v) None s
count_by w f (load table) v s = Some (table_row w table v)
count_by w f release v s = s
count_by w f (read u) v s = s
count_by w f (publish n) v s = s

-- The count that stands at node v: the row of the last accepted enter or load there, unless an accepted lay, or strike there, came later.
abbrev pub standing : ℕ → List Event → ℕ → Option Row
standing w [] v = None
standing w (e ∷ h) v = cond e.accepted (count_by w (shape_after h) e.call v (standing w h v)) (standing w h v)

-- The counts that stand, as a table.
abbrev pub standing_rows : ℕ → List Event → Table
standing_rows w h v = unwrap_or (standing w h v) []

-- Whether a release is there after an accepted call: every change of a count withdraws it.
abbrev pub released_by : Asked → Bool → Bool
released_by (lay b L) s = false
released_by (enter u r) s = false
released_by (enter_wire j r) s = false
released_by (strike u) s = false
released_by (load table) s = false
released_by release s = true
released_by (read u) s = s
released_by (publish n) s = s

abbrev pub released_after : List Event → Bool
released_after [] = false
released_after (e ∷ h) = cond e.accepted (released_by e.call (released_after h)) (released_after h)

abbrev pub counts_after : ℕ → List Event → Option Form → List (Option Row)
counts_after w h None = []
counts_after w h (Some f) = map (standing w h) (range_with_len 0 (nodes f))

-- What decides the next call's outcome.
abbrev pub facts_after : ℕ → Rooms → List Event → Facts
facts_after w r h = record { shape = shape_after h; counts = counts_after w h (shape_after h); released = released_after h; rooms = r }

-- A sheet holds what a history leaves: its shape, at each node the count that stands there, and where there is a release, no
-- empty node, and the numerators of the counts that stand.
pub record Represents {K : Type 0} (row : K → Row) (w : ℕ) (h : List Event) (c : Contents K) : Type 0 where
  pub shape : laid c ≡ shape_after h
  pub counts : (f : Form) → shape_after h ≡ Some f → (v : ℕ) → v < nodes f → count_at row (limit f) c v ≡ standing w h v
  pub released : is_released c.state ≡ released_after h
  pub full : (f : Form) → shape_after h ≡ Some f → released_after h ≡ true → (v : ℕ) → v < nodes f → is_some (standing w h v) ≡ true
  pub table : (f : Form) → shape_after h ≡ Some f → released_after h ≡ true → (v : ℕ) → v < nodes f
      → row_at row c.numerators v ≡ solution w f (standing_rows w h) v
