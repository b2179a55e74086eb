-- A run of calls with their replies, from a new sheet on.
use Rattle.std.specs.Prelude.{ℕ, List, [], ◌∷◌, ℤ}
use Rattle.algebra.specs.Row.{Row}
use Rattle.history.specs.Events.{Asked, Event, event}
use Rattle.history.specs.Facts.{Rooms}
use Rattle.history.specs.Replies.{Reply, accepts, Right}

-- There is a reply for each call, and each is the one that the events before it determine.
abbrev pub Faithful : (k w : ℕ) → (Row → Row → ℤ) → Rooms → List Event → List Asked → List Reply → Type 0
Faithful k w dot r h [] [] = Unit {0}
Faithful k w dot r h [] (o ∷ os) = ⊥
Faithful k w dot r h (a ∷ calls) [] = ⊥
Faithful k w dot r h (a ∷ calls) (o ∷ os) = Right k w dot r h a o × Faithful k w dot r (event a (accepts o) ∷ h) calls os

-- The history after a run, where h was the history before it.
abbrev pub past : List Event → List Asked → List Reply → List Event
past h [] os = h
past h (a ∷ calls) [] = h
past h (a ∷ calls) (o ∷ os) = past (event a (accepts o) ∷ h) calls os
