-- What `map_err` leaves of a result.
use Rattle.std.proofs.Common.{◌≡◌, Ok, Err, Result, MatchResult, refl, subst}
use Rattle.std.specs.Result.{IsErrAnd}

module _ {A E F : Type 0} (Q : E → F → Type 0) where
  pub map_err-ok : (r : Result A E) (s : Result A F) (y : A) → MatchResult r (λ x. s ≡ Ok x) (λ e. IsErrAnd s (Q e)) → s ≡ Ok y → r ≡ Ok y
  map_err-ok (Ok x) s y k e = cc
  map_err-ok (Err d) s y k e = absurd (subst (λ (t : Result A F). IsErrAnd t (Q d)) e k)

  pub map_err-err : (r : Result A E) (s : Result A F) (m : F) → MatchResult r (λ x. s ≡ Ok x) (λ e. IsErrAnd s (Q e)) → s ≡ Err m → (e : E) × (r ≡ Err e) × Q e m
  map_err-err (Ok x) s m k e = cc
  map_err-err (Err d) s m k e = (d, refl, subst (λ (t : Result A F). IsErrAnd t (Q d)) e k)
