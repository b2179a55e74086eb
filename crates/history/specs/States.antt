-- The states of a tree sheet: unlaid, filling or released.
use Rattle.history.specs.declared.state.Action.{Action}
use Rattle.history.specs.declared.state.Action.TheVariants.{Lay, Change, Release}
use Rattle.history.specs.declared.state.State.{State}
use Rattle.history.specs.declared.state.State.TheVariants.{Unlaid, Filling, Released}

-- The state after an accepted call. A release is withdrawn by every change of a count.
abbrev pub next : State → Action → State
next Unlaid (Lay s) = Filling s
next Unlaid Change = Unlaid
next Unlaid Release = Unlaid
next (Filling r) (Lay s) = Filling s
next (Filling r) Change = Filling r
next (Filling r) Release = Released r
next (Released r) (Lay s) = Filling s
next (Released r) Change = Filling r
next (Released r) Release = Released r
