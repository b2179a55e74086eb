-- Calls and outcomes as a history has them, and what a run of calls leaves in the slices that were lent to it.
use Rattle.std.specs.Prelude.{ℕ, List, vec_items, Ok, Err, Result}
use Rattle.algebra.specs.Row.{Row}
use Rattle.denial.specs.declared.denial.Denial.{Denial}
use Rattle.history.specs.Events.{Asked, Event, lay, enter, enter_wire, strike, load, release, read, publish, Represents}
use Rattle.history.specs.Replies.{Reply, done, refused, seen, printed}
use Rattle.history.specs.declared.state.State.{State}
use Rattle.tree_sheet.specs.declared.call.Answer.{Answer}
use Rattle.tree_sheet.specs.declared.call.Answer.TheVariants.{Done, Cell, Publication}
use Rattle.tree_sheet.specs.declared.call.Call.{Call}
use Rattle.tree_sheet.specs.declared.call.Call.TheVariants.{Lay, Enter, EnterWire, Strike, Load, Release, Read, Publish}

abbrev pub asked : {K : Type 0} → (K → Row) → Call K → Asked
asked row (Lay b L) = lay b L
asked row (Enter v x) = enter v (row x)
asked row (EnterWire j x) = enter_wire j (row x)
asked row (Strike v) = strike v
asked row (Load table) = load (vec_items table)
asked row Release = release
asked row (Read v) = read v
asked row (Publish n) = publish n

abbrev pub reply : {K : Type 0} → (K → Row) → Result (Answer K) Denial → Reply
reply row (Ok Done) = done
reply row (Ok (Cell x d)) = seen (row x) d
reply row (Ok (Publication bytes)) = printed (vec_items bytes)
reply row (Err e) = refused e

-- Slices of these contents are what a history leaves, whatever the state.
pub record Leaves {K : Type 0} (row : K → Row) (w : ℕ) (h : List Event) (noisy : List K) (marks : List ℕ) (numerators work : List K) : Type 0 where
  pub state : State
  pub held : Represents row w h (record { noisy = noisy; marks = marks; numerators = numerators; work = work; state = state })
