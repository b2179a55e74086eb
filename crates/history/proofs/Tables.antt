-- Tables of refusals: one after another, and one of which no row applies.
use Rattle.std.proofs.Common.{◌≡◌, Bool, true, false, cond, List, [], ◌∷◌, ◌++◌, Some, None, Option, sym, refl, ap, ◌∙◌}
use Rattle.std.specs.Option.{option_or}
use Rattle.denial.specs.Rules.{Rule, first}
use Rattle.denial.specs.declared.denial.Denial.{Denial}
use Rattle.formats.proofs.Tables.{first-append}

abbrev pub Passed : List Rule → Type 0
Passed [] = Unit {0}
Passed (x ∷ xs) = (x.when ≡ false) × Passed xs

pub none_passed : (xs : List Rule) → first xs ≡ None → Passed xs
none_passed [] e = tt
none_passed (x ∷ xs) e = go x.when refl e (λ q. none_passed xs q)
  where
    go : (b : Bool) → x.when ≡ b → cond b (Some x.denial) (first xs) ≡ None → (first xs ≡ None → Passed xs) → (x.when ≡ false) × Passed xs
    go true p q rest = absurd cc
    go false p q rest = (p, rest q)

-- what the first table refuses, both refuse
pub front : (xs ys : List Rule) (e : Denial) → first xs ≡ Some e → first (xs ++ ys) ≡ Some e
front xs ys e h = first-append xs ys ∙ ap (λ o. option_or o (first ys)) h

-- where the first refuses nothing, the second decides
pub back : (xs ys : List Rule) → first xs ≡ None → first (xs ++ ys) ≡ first ys
back xs ys h = first-append xs ys ∙ ap (λ o. option_or o (first ys)) h

pub none-front : (xs ys : List Rule) → first (xs ++ ys) ≡ None → first xs ≡ None
none-front xs ys h = go (first xs) (first ys) (sym (first-append xs ys) ∙ h)
  where
    go : (o p : Option Denial) → option_or o p ≡ None → o ≡ None
    go None p e = refl
    go (Some x) p e = e

pub none-back : (xs ys : List Rule) → first (xs ++ ys) ≡ None → first ys ≡ None
none-back xs ys h = sym (back xs ys (none-front xs ys h)) ∙ h
