-- What a tree sheet holds, and the facts that are read off it.
use Rattle.std.specs.Prelude.{ℕ, Bool, true, false, cond, not, ◌&&◌, List, [], map, length, is_some, Some, None, Option, ◌==◌, slice_index}
use Rattle.std.specs.List.{range_with_len}
use Rattle.algebra.specs.Row.{Row, row_at, beyond}
use Rattle.shapes.specs.declared.shape.Shape.{Shape}
use Rattle.history.specs.Facts.{Facts, Form, Rooms, nodes, limit, roomy}
use Rattle.history.specs.declared.state.State.{State}
use Rattle.history.specs.declared.state.State.TheVariants.{Unlaid, Filling, Released}

pub record Contents (K : Type 0) : Type 0 where
  pub noisy : List K
  pub marks : List ℕ
  pub numerators : List K
  pub work : List K
  pub state : State

abbrev pub rooms : {K : Type 0} → Contents K → Rooms
rooms c = record { noisy = length c.noisy; marks = length c.marks; numerators = length c.numerators; work = length c.work }

abbrev pub form_of : Shape → Form
form_of s = record { fanout = s.fanout; height = s.height }

abbrev pub fitted : Form → Rooms → Option Form
fitted f r = cond (roomy (nodes f) r) (Some f) None

-- The laid shape. A sheet whose slices are too short for its shape counts as unlaid; no call leaves one so.
abbrev pub laid_in : State → Rooms → Option Form
laid_in Unlaid r = None
laid_in (Filling s) r = fitted (form_of s) r
laid_in (Released s) r = fitted (form_of s) r

abbrev pub laid : {K : Type 0} → Contents K → Option Form
laid c = laid_in c.state (rooms c)

abbrev pub is_released : State → Bool
is_released Unlaid = false
is_released (Filling s) = false
is_released (Released s) = true

-- The count at node v: the row of its cell, where its mark is 1 and no component is over the limit; no call marks another cell.
abbrev pub count_at : {K : Type 0} → (K → Row) → ℕ → Contents K → ℕ → Option Row
count_at row most c v =
    cond (slice_index c.marks v == 1 && not (is_some (beyond most (row_at row c.noisy v)))) (Some (row_at row c.noisy v)) None

abbrev pub counts_in : {K : Type 0} → (K → Row) → Option Form → Contents K → List (Option Row)
counts_in row None c = []
counts_in row (Some f) c = map (count_at row (limit f) c) (range_with_len 0 (nodes f))

abbrev pub facts : {K : Type 0} → (K → Row) → Contents K → Facts
facts row c = record { shape = laid c; counts = counts_in row (laid c) c; released = is_released c.state; rooms = rooms c }
