-- `find` over `a..=b`, said of the numbers in it.
use Rattle.std.proofs.Common.{◌≡◌, ℕ, ◌+◌, ◌-◌, ◌<◌, ◌≤◌, Bool, true, false, Option, Some, None, MatchOption, ap, ◌∙◌, subst, arith}
use Rattle.std.proofs.iter.runs.Sources.{nat_range_inclusive_steps, inclusive_listed}
use Rattle.std.specs.Fn.{CalledAt}
use Rattle.std.specs.Iterator.Runs.{Run, SomeRun, ItemsCountUp, CallKeepsClosure, NoItemPasses, EndsAtFirstPassing}
use Rattle.std.specs.Range.{range_inclusive_start, range_inclusive_end, range_inclusive_exhausted}
use Rattle.std.specs.declared.ops.RangeInclusive.{RangeInclusive}
use denote.Param.Members.{Mut}
use denote.Ref.{Bor}

-- the first number from a to b that passes has Yes, and each before it, or each where none passes, has No
abbrev pub First : ℕ → ℕ → (ℕ → Type 0) → (ℕ → Type 0) → Option ℕ → Type 0
First a b Yes No r = MatchOption r ((k : ℕ) → a ≤ k → k ≤ b → No k) (λ i. (a ≤ i) × (i ≤ b) × Yes i × ((k : ℕ) → a ≤ k → k < i → No k))

module _ {F : Type 0} {g : Mut F (Bor ℕ × Unit {0}) Bool} (s : RangeInclusive ℕ) (f : F) (a b : ℕ) (Yes No : ℕ → Type 0) where
  first_in : (p : Run nat_range_inclusive_steps) (r : Option ℕ) → ItemsCountUp p a (b + 1) → MatchOption r ((p.whole ≡ true) × NoItemPasses p g f) (EndsAtFirstPassing p g f) → CallKeepsClosure g f
      → ((x : ℕ) → CalledAt g f x true f → Yes x) → ((x : ℕ) → CalledAt g f x false f → No x) → First a b Yes No r
  first_in p None up m keeps passes fails = λ k lo hi. grind (arith, up.3 (k - a), m.1 keeps (k - a), fails k)
  first_in p (Some x) up m keeps passes fails =
      let calls = m.3 keeps in
      let here : (x ≡ a + m.0) × (x < b + 1) = grind (arith, up.2 m.0) in
      (omega arith, omega arith, passes x calls.0, λ k lo hi. grind (arith, up.3 (k - a), calls.1 (k - a), fails k))

  pub first_up : (r : Option ℕ) → SomeRun nat_range_inclusive_steps s (λ p. MatchOption r ((p.whole ≡ true) × NoItemPasses p g f) (EndsAtFirstPassing p g f))
      → range_inclusive_start s ≡ a → range_inclusive_end s ≡ b → range_inclusive_exhausted s ≡ false → CallKeepsClosure g f
      → ((x : ℕ) → CalledAt g f x true f → Yes x) → ((x : ℕ) → CalledAt g f x false f → No x) → First a b Yes No r
  first_up r (p, is, m) sa sb fresh keeps passes fails =
      let all = inclusive_listed p p.seen in
      let from : all.0 ≡ a = all.2 ∙ ap range_inclusive_start is ∙ sa in
      let upto : all.1 ≡ b + 1 = all.3 ∙ ap (λ t. range_inclusive_end t + 1) is ∙ ap (λ n. n + 1) sb in
      let up : ItemsCountUp p a (b + 1) = subst (λ n. ItemsCountUp p n (b + 1)) from (subst (λ n. ItemsCountUp p all.0 n) upto (all.4 (ap range_inclusive_exhausted is ∙ fresh)).0) in
      first_in p r up m keeps passes fails
