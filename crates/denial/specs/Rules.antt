-- A call's table of refusals: rows that are tried in order, of which the first that applies is given.
use Rattle.std.specs.Prelude.{◌≡◌, ℕ, Bool, cond, List, [], ◌∷◌, is_some, Some, None, Ok, Err, Option, Result}
use Rattle.std.specs.Option.{unwrap_or}
use Rattle.denial.specs.declared.reason.Reason.{Reason}
use Rattle.denial.specs.declared.denial.Denial.{Denial}

abbrev pub denied : Reason → ℕ → Denial
denied why at = record { reason = why; place = at }

-- One row: it applies where `when` is true, and gives `denial` then.
pub record Rule : Type 0 where
  pub when : Bool
  pub denial : Denial

abbrev pub rule : Bool → Reason → ℕ → Rule
rule b why at = record { when = b; denial = denied why at }

-- A row that applies where a place is found, and names it.
abbrev pub rule_at : Reason → Option ℕ → Rule
rule_at why found = rule (is_some found) why (unwrap_or found 0)

abbrev pub first : List Rule → Option Denial
first [] = None
first (x ∷ xs) = cond x.when (Some x.denial) (first xs)

-- A call answers a table: it is denied by the first row that applies, and accepted where none does, with an answer of which P holds.
abbrev pub Answers : {A : Type 0} → List Rule → (A → Type 0) → Result A Denial → Type 0
Answers rules P (Ok x) = (first rules ≡ None) × P x
Answers rules P (Err e) = first rules ≡ Some e
