-- A run that grows by one call.
use Rattle.std.proofs.Common.{◌≡◌, ℕ, List, [], ◌∷◌, ◌++◌, ℤ, refl}
use Rattle.algebra.specs.Row.{Row}
use Rattle.history.specs.Events.{Asked, Event, event}
use Rattle.history.specs.Facts.{Rooms}
use Rattle.history.specs.Replies.{Reply, accepts, Right}
use Rattle.history.specs.Runs.{Faithful, past}

module _ (k w : ℕ) (dot : Row → Row → ℤ) (r : Rooms) where
  pub faithful-more : (h : List Event) (xs : List Asked) (os : List Reply) (a : Asked) (o : Reply) → Faithful k w dot r h xs os → Right k w dot r (past h xs os) a o
      → Faithful k w dot r h (xs ++ a ∷ []) (os ++ o ∷ [])
  faithful-more h [] [] a o f q = (q, tt)
  faithful-more h [] (p ∷ os) a o f q = absurd f
  faithful-more h (x ∷ xs) [] a o f q = absurd f
  faithful-more h (x ∷ xs) (p ∷ os) a o f q = (f.0, faithful-more (event x (accepts p) ∷ h) xs os a o f.1 q)

  pub past_more : (h : List Event) (xs : List Asked) (os : List Reply) (a : Asked) (o : Reply) → Faithful k w dot r h xs os
      → past h (xs ++ a ∷ []) (os ++ o ∷ []) ≡ event a (accepts o) ∷ past h xs os
  past_more h [] [] a o f = refl
  past_more h [] (p ∷ os) a o f = absurd f
  past_more h (x ∷ xs) [] a o f = absurd f
  past_more h (x ∷ xs) (p ∷ os) a o f = past_more (event x (accepts p) ∷ h) xs os a o f.1
