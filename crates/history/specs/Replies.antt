-- What a call answers after a history: for a kind of number k and width w, whose cells are measured by `dot`.
use Rattle.std.specs.Prelude.{◌≡◌, ℕ, ◌<◌, Bool, true, false, List, ◌∷◌, take, ℤ, Some, None, Ok, Err, Result}
use Rattle.algebra.specs.Row.{Row}
use Rattle.denial.specs.Rules.{Rule, first}
use Rattle.denial.specs.declared.denial.Denial.{Denial}
use Rattle.shapes.specs.Denominator.{Denominator}
use Rattle.inference.specs.Nearest.{Nearest}
use Rattle.formats.specs.Publication.{publication, denominator_in, published_row, row_from, cut_rules, NodePart, Says}
use Rattle.history.specs.Contents.{Contents, rooms}
use Rattle.history.specs.Effects.{denominator, solution}
use Rattle.history.specs.Events.{Asked, lay, enter, enter_wire, strike, load, release, read, publish, Event, event, shape_after, standing, standing_rows, facts_after, Represents}
use Rattle.history.specs.Facts.{Facts, Rooms, Form, nodes}
use Rattle.history.specs.Refusals.{lay_rules, enter_rules, enter_wire_rules, strike_rules, load_rules, release_rules, read_rules, publish_rules}

-- A call is done, denied, answered by a row over a denominator, or answered by the bytes that it wrote.
pub data Reply : Type 0 where
  done : Reply
  refused : Denial → Reply
  seen : Row → ℕ → Reply
  printed : List ℕ → Reply

abbrev pub accepts : Reply → Bool
accepts done = true
accepts (refused e) = false
accepts (seen r d) = true
accepts (printed bytes) = true

abbrev pub told : Result (Unit {0}) Denial → Reply
told (Ok x) = done
told (Err e) = refused e

abbrev pub told_cell : {K : Type 0} → (K → Row) → Result (K × ℕ) Denial → Reply
told_cell row (Ok p) = seen (row p.0) p.1
told_cell row (Err e) = refused e

-- what a call wrote into the first n bytes of a buffer
abbrev pub told_bytes : List ℕ → Result ℕ Denial → Reply
told_bytes out (Ok n) = printed (take n out)
told_bytes out (Err e) = refused e

-- The table of refusals of a call.
abbrev pub rules : ℕ → ℕ → Facts → Asked → List Rule
rules k w s (lay b L) = lay_rules s.rooms b L
rules k w s (enter v r) = enter_rules s v r
rules k w s (enter_wire j r) = enter_wire_rules s j r
rules k w s (strike v) = strike_rules s v
rules k w s (load table) = load_rules k w s table
rules k w s release = release_rules s
rules k w s (read v) = read_rules s v
rules k w s (publish n) = publish_rules w s n

-- The numerators of node v over the denominator, for the counts that stand.
pub record Seen (w : ℕ) (h : List Event) (v : ℕ) (r : Row) (d : ℕ) : Type 0 where
  pub form : Form
  pub laid : shape_after h ≡ Some form
  pub row : r ≡ solution w form (standing_rows w h) v
  pub over : d ≡ denominator form

-- The bytes are the publication of the counts that stand. Read back, they name the kind and the laid shape, their denominator is the
-- shape's, each parent is the sum of its children, and every other table that adds up lies strictly farther from the counts that
-- stand; and every node can be cut out of them.
pub record Published (k w : ℕ) (dot : Row → Row → ℤ) (h : List Event) (bytes : List ℕ) : Type 0 where
  pub form : Form
  pub laid : shape_after h ≡ Some form
  pub full : (v : ℕ) → v < nodes form → standing w h v ≡ Some (standing_rows w h v)
  pub whole : bytes ≡ publication k form.fanout form.height (denominator form) (solution w form (standing_rows w h))
  pub says : Says bytes k w form.fanout form.height (denominator form) (solution w form (standing_rows w h))
  pub common : Denominator form.fanout form.height (denominator_in bytes)
  pub nearest : Nearest w form.fanout form.height (denominator_in bytes) dot (standing_rows w h) (published_row w bytes)
  pub cuts : (v : ℕ) → v < nodes form
      → (first (cut_rules k w bytes v) ≡ None) × ((at : ℕ) (part : List ℕ) → NodePart w bytes v at part → row_from w part 0 ≡ published_row w bytes v)

-- Where the same counts stand on the same shape, a publication is the same bytes: so it is if nothing but questions came between two.
abbrev pub SameBytes : Type 0
SameBytes = (k w : ℕ) (dot : Row → Row → ℤ) (h h' : List Event) (out out' : List ℕ) → Published k w dot h out → Published k w dot h' out'
    → shape_after h' ≡ shape_after h → ((v : ℕ) → standing w h' v ≡ standing w h v) → out' ≡ out

-- What an accepted call answers.
pub data Wanted : Type 0 where
  nothing : Wanted
  cell : ℕ → Wanted
  bytes : Wanted

abbrev pub wanted : Asked → Wanted
wanted (lay b L) = nothing
wanted (enter v r) = nothing
wanted (enter_wire j r) = nothing
wanted (strike v) = nothing
wanted (load table) = nothing
wanted release = nothing
wanted (read v) = cell v
wanted (publish n) = bytes

-- An accepted call's answer after the history h.
abbrev pub Fits : (k w : ℕ) → (Row → Row → ℤ) → List Event → Wanted → Reply → Type 0
Fits k w dot h nothing done = Unit {0}
Fits k w dot h nothing (refused e) = ⊥
Fits k w dot h nothing (seen r d) = ⊥
Fits k w dot h nothing (printed out) = ⊥
Fits k w dot h (cell v) done = ⊥
Fits k w dot h (cell v) (refused e) = ⊥
Fits k w dot h (cell v) (seen r d) = Seen w h v r d
Fits k w dot h (cell v) (printed out) = ⊥
Fits k w dot h bytes done = ⊥
Fits k w dot h bytes (refused e) = ⊥
Fits k w dot h bytes (seen r d) = ⊥
Fits k w dot h bytes (printed out) = Published k w dot h out

-- The reply that a call has after the history h, on slices of these lengths: it is denied by the first row of its table that applies,
-- and answered where none does.
abbrev pub Right : (k w : ℕ) → (Row → Row → ℤ) → Rooms → List Event → Asked → Reply → Type 0
Right k w dot r h a (refused e) = first (rules k w (facts_after w r h) a) ≡ Some e
Right k w dot r h a done = (first (rules k w (facts_after w r h) a) ≡ None) × Fits k w dot h (wanted a) done
Right k w dot r h a (seen x d) = (first (rules k w (facts_after w r h) a) ≡ None) × Fits k w dot h (wanted a) (seen x d)
Right k w dot r h a (printed out) = (first (rules k w (facts_after w r h) a) ≡ None) × Fits k w dot h (wanted a) (printed out)

-- One call on a sheet, for every history that the sheet may have had: the reply is right, and the sheet holds what the history leaves
-- with this call added.
pub record Stepped {K : Type 0} (row : K → Row) (k w : ℕ) (dot : Row → Row → ℤ) (c : Contents K) (a : Asked) (o : Reply) (c' : Contents K) : Type 0 where
  pub held : rooms c' ≡ rooms c
  pub right : (h : List Event) → Represents row w h c → Right k w dot (rooms c) h a o
  pub kept : (h : List Event) → Represents row w h c → Represents row w (event a (accepts o) ∷ h) c'
