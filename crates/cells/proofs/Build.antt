-- A cell that is built component by component: what the loops of sum, difference and multiple keep.
use Rattle.std.proofs.Common.{◌≡◌, ℕ, ◌+◌, ◌<◌, ◌≤◌, ◌≢◌, length, set, ℤ, pos, nat_abs, Some, None, sym, ap, ◌∙◌, subst, arith, below_more}
use Rattle.std.proofs.lemmas.List.{get_or-set_same, get_or-set_other, ext_get_or}
use Rattle.algebra.proofs.Limits.{within_none, beyond-at}
use Rattle.algebra.specs.Row.{Row, part, Within, beyond}
use Rattle.cells.specs.Calls.{carry_limit}

-- The components of a below i are those of t.
pub Sofar : Row → Row → ℕ → Type 0
Sofar t a i = (j : ℕ) → j < i → part a j ≡ part t j

pub sofar-none : (t a : Row) → Sofar t a 0
unfolding Sofar
sofar-none t a j h = absurd (omega arith)

-- What a loop that builds the cell of the row t may use of its kind.
pub record Builds {C : Type 0} (row : C → Row) (w : ℕ) (t : Row) : Type 0 where
  pub held : (c : C) → Within carry_limit (row c)
  -- what belongs at i is put there
  pub turn : (a b : C) (i : ℕ) (x : ℤ) → Sofar t (row a) i → i < w → row b ≡ set (row a) i x → x ≡ part t i → Sofar t (row b) (i + 1)
  -- what belongs at i is beyond the limit: it is the first component of t that is
  pub stops : (a : C) (i : ℕ) → Sofar t (row a) i → i < w → carry_limit < nat_abs (part t i) → beyond carry_limit t ≡ Some i
  -- the end
  pub whole : (a : C) (i : ℕ) → Sofar t (row a) i → w ≤ i → (beyond carry_limit t ≡ None) × (row a ≡ t)

pub builds : {C : Type 0} (row : C → Row) (w : ℕ) (t : Row)
    → ((c : C) → length (row c) ≡ w) → ((c : C) → Within carry_limit (row c)) → length t ≡ w → Builds row w t
unfolding Sofar
builds {C} row w t sized held wide = record { held = held; turn = turn; stops = stops; whole = whole }
  where
    turn : (a b : C) (i : ℕ) (x : ℤ) → Sofar t (row a) i → i < w → row b ≡ set (row a) i x → x ≡ part t i → Sofar t (row b) (i + 1)
    turn a b i x s h e ex =
        below_more _ _
        (λ j l. let ne : j ≢ i = omega arith in ap (λ (r : Row). part r j) e ∙ get_or-set_other (row a) i j x (pos 0) ne ∙ s j l)
        (ap (λ (r : Row). part r i) e ∙ get_or-set_same (row a) i x (pos 0) (omega (arith, sized a)) ∙ ex)

    stops : (a : C) (i : ℕ) → Sofar t (row a) i → i < w → carry_limit < nat_abs (part t i) → beyond carry_limit t ≡ Some i
    stops a i s h far =
        beyond-at carry_limit t i (omega arith) far (λ j l. subst (λ (z : ℤ). nat_abs z ≤ carry_limit) (s j l) (held a j))

    whole : (a : C) (i : ℕ) → Sofar t (row a) i → w ≤ i → (beyond carry_limit t ≡ None) × (row a ≡ t)
    whole a i s h =
        let same : row a ≡ t = ext_get_or (pos 0) (row a) t (sized a ∙ sym wide) (λ j l. s j (omega (arith, sized a))) in
        (within_none carry_limit t (subst (Within carry_limit) same (held a)), same)
