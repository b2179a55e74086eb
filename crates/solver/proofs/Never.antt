-- A kind's call is not denied where the row that it answers is within the carry limit.
use Rattle.std.proofs.Common.{◌≡◌, ℕ, true, cond, is_some, is_ok, Some, None, Ok, Err, Option, Result, unwrap_or, refl, ap, arith}
use Rattle.algebra.specs.Row.{Row, Within}
use Rattle.algebra.proofs.Limits.{within_none}
use Rattle.cells.specs.Calls.{carry_limit, carry_rules}
use Rattle.denial.specs.Rules.{Answers, first, denied}
use Rattle.denial.specs.declared.denial.Denial.{Denial}
use Rattle.denial.specs.declared.reason.Reason.TheVariants.{BeyondCarryLimit}

pub held : {K : Type 0} (t : Row) (P : K → Type 0) (r : Result K Denial) → Answers (carry_rules t) P r → Within carry_limit t → is_ok r ≡ true
held t P (Ok c) a w = refl
held t P (Err e) a w =
    let n : first (carry_rules t) ≡ None = ap (λ (o : Option ℕ). cond (is_some o) (Some (denied BeyondCarryLimit (unwrap_or o 0))) None) (within_none carry_limit t w) in
    let z : ◌≡◌ {A = ℕ} 0 1 = cc in
    absurd (omega arith)
