-- The kind that a header names.
use Rattle.std.proofs.Common.{◌≡◌, ℕ, false, ◌||◌, None, Ok, Err, Result, refl, sym, subst}
use Rattle.std.specs.Result.{MatchResult, IsErrAnd}
use Rattle.std.proofs.lemmas.Bool.{ne_eqb}
use Rattle.std.proofs.lemmas.Result.{err_from_is_err_and}
use Rattle.denial.specs.Rules.{Answers, first, denied}
use Rattle.denial.specs.declared.denial.Denial.{Denial}
use Rattle.denial.specs.declared.reason.Reason.TheVariants.{WrongKind}
use Rattle.cells.specs.Names.{Names, kind_number}
use Rattle.cells.specs.declared.cell_kind.CellKind.{CellKind}
use Rattle.cells.specs.declared.cell_kind.CellKind.TheVariants.{Single, Pair, Four}
use Rattle.cells.specs.declared.cell_kind.UnknownKind.{UnknownKind}
use Rattle.formats.specs.NoisyTable.{any_kind_rules, is_kind}

known : (n : ℕ) (kind : CellKind) → n ≡ kind_number kind → first (any_kind_rules n) ≡ None
known n Single e = rw e refl
known n Pair e = rw e refl
known n Four e = rw e refl

pub kind_named : {Q : UnknownKind → Denial → Type 0} (n : ℕ) (found : Result CellKind UnknownKind) (answer : Result CellKind Denial)
    → Names n found → MatchResult found (λ kind. answer ≡ Ok kind) (λ u. IsErrAnd answer (Q u)) → ((u : UnknownKind) (e : Denial) → Q u e → e ≡ denied WrongKind 5)
    → Answers (any_kind_rules n) (λ kind. n ≡ kind_number kind) answer
kind_named n (Ok kind) answer names same denies =
    subst (λ (r : Result CellKind Denial). Answers (any_kind_rules n) (λ k. n ≡ kind_number k) r) (sym same) (known n kind names, names)
kind_named n (Err u) answer names given denies =
    let p = err_from_is_err_and answer given in
    let other = names.1 in
    let none : is_kind n ≡ false = λ i. ne_eqb n 1 (other Single) i || ne_eqb n 2 (other Pair) i || ne_eqb n 3 (other Four) i in
    subst (λ (r : Result CellKind Denial). Answers (any_kind_rules n) (λ k. n ≡ kind_number k) r) (sym p.1) (rw (none, denies u p.0 p.2) refl)
