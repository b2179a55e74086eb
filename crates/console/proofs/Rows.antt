-- The components of a cell one by one.
use Rattle.std.proofs.Common.{◌≡◌, ℕ, ◌+◌, ◌<◌, ◌≤◌, cond, ltb, ◌≢◌, List, [], ◌∷◌, length, get_or, set, ℤ, pos, nat_abs, Some, None, sym, ap, ◌∙◌, subst, arith, below_more}
use Rattle.std.proofs.lemmas.List.{get_or-set_same, get_or-set_other}
use Rattle.std.proofs.lemmas.Bool.{le-ltb, lt-leb}
use Rattle.algebra.specs.Row.{Row, Within, part}
use Rattle.cells.specs.Calls.{carry_limit, replace_rules}
use Rattle.denial.specs.Rules.{denied, first, rule}
use Rattle.denial.specs.declared.denial.Denial.{Denial}
use Rattle.denial.specs.declared.reason.Reason.TheVariants.{BeyondCarryLimit, NoSuchComponent}
use Rattle.console.specs.Words.{Component, Integer}

-- a component within the limit is not refused
pub not-refused : (w i : ℕ) (x : ℤ) (e : Denial) → i < w → nat_abs x ≤ carry_limit → first (replace_rules w i x) ≡ Some e → ⊥
not-refused w i x e l h p =
    let q : first (replace_rules w i x) ≡ None =
    ap (λ b. cond b (Some (denied NoSuchComponent i)) (first (rule (ltb carry_limit (nat_abs x)) BeyondCarryLimit i ∷ []))) (lt-leb w i l)
    ∙ ap (λ b. cond b (Some (denied BeyondCarryLimit i)) None) (le-ltb carry_limit (nat_abs x) h) in
    let z : ◌≡◌ {A = ℕ} 0 1 = cc in omega arith

-- two numbers that one word writes
pub same-integer : (word : List ℕ) (x y : ℤ) → Integer word x → Integer word y → x ≡ y
same-integer word x y h k = h.written ∙ sym k.written

pub integer-as : (word word' : List ℕ) (x x' : ℤ) → word ≡ word' → x ≡ x' → Integer word x → Integer word' x'
integer-as word word' x x' e f h = subst (λ (w : List ℕ). Integer w x') e (subst (λ (y : ℤ). Integer word y) f h)

pub component-more : (words : List (List ℕ)) (row row' : Row) (i : ℕ) (x : ℤ) → i < length row → row' ≡ set row i x → Within carry_limit row' → Integer (get_or words i []) x
    → ((k : ℕ) → k < i → Component (get_or words k []) (part row k)) → (k : ℕ) → k < i + 1 → Component (get_or words k []) (part row' k)
component-more words row row' i x l e held here before =
    let same : part row' i ≡ x = ap (λ (r : Row). part r i) e ∙ get_or-set_same row i x (pos 0) l in
    below_more (λ k. Component (get_or words k []) (part row' k)) i
    (λ k less.
    let ne : k ≢ i = omega arith in
    let other : part row' k ≡ part row k = ap (λ (r : Row). part r k) e ∙ get_or-set_other row i k x (pos 0) ne in
    subst (λ (y : ℤ). Component (get_or words k []) y) (sym other) (before k less))
    (record { integer = subst (λ (y : ℤ). Integer (get_or words i []) y) (sym same) here; within = held i })
