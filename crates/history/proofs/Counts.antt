-- The counts that a sheet holds after a call.
use Rattle.std.proofs.Common.{◌≡◌, ℕ, zero, suc, ◌+◌, ◌<◌, ◌≤◌, Bool, true, false, cond, not, ◌&&◌, eqb, ◌⊎◌, List, ◌∷◌, ◌++◌, map, length, get_or, drop, replicate, is_some, Some, None, Option, sym, refl, ap, ◌∙◌, inl, inr, add-one, arith}
use Rattle.std.specs.List.{range_with_len}
use Rattle.std.proofs.lemmas.Grind.{common_steps}
use Rattle.std.proofs.lemmas.List.{get_or-set_same, get_or-set_other}
use Rattle.std.proofs.lemmas.Bool.{cases_eq, eq-eqb, ne_eqb}
use Rattle.algebra.specs.Row.{Row, row_at, beyond, Within}
use Rattle.algebra.proofs.Limits.{within_none}
use Rattle.algebra.proofs.Places.{row_same, row_other}
use Rattle.formats.specs.NoisyTable.{table_row}
use Rattle.history.specs.Contents.{Contents, count_at}
use Rattle.history.specs.Effects.{Laid, Entered, Struck, Loaded}
use Rattle.history.specs.Facts.{Form, nodes}
use Rattle.history.specs.Refusals.{empty_from}

-- the count of a mark and a row
count : ℕ → ℕ → Row → Option Row
count most m r = cond (eqb m 1 && not (is_some (beyond most r))) (Some r) None

marked : (most : ℕ) (m : ℕ) (r : Row) → m ≡ 1 → beyond most r ≡ None → count most m r ≡ Some r
unfolding count
marked most m r e n = (λ i. cond (eq-eqb m 1 e i && not (is_some (n i))) (Some r) None)

unmarked : (most : ℕ) (m : ℕ) (r : Row) → (m ≡ 1 → ⊥) → count most m r ≡ None
unfolding count
unmarked most m r e = ap (λ b. cond (b && not (is_some (beyond most r))) (Some r) None) (ne_eqb m 1 e)

module _ {K : Type 0} (row : K → Row) (most : ℕ) (c c' : Contents K) where
  pub same_count : c'.noisy ≡ c.noisy → c'.marks ≡ c.marks → (v : ℕ) → count_at row most c' v ≡ count_at row most c v
  unfolding count
  same_count p q v = λ i. count most (get_or (q i) v 0) (row_at row (p i) v)

  module _ (u : ℕ) (x : K) (d : Entered u x c c') (hn : u < length c.noisy) (hm : u < length c.marks) (small : beyond most (row x) ≡ None) where
    pub count-entered : (v : ℕ) → count_at row most c' v ≡ cond (eqb u v) (Some (row x)) (count_at row most c v)
    unfolding count
    count-entered v = by (cases_eq v u)
      where
        by : (v ≡ u) ⊎ (v ≡ u → ⊥) → count_at row most c' v ≡ cond (eqb u v) (Some (row x)) (count_at row most c v)
        by (inl e) =
            (λ i. count most (get_or (d.marks i) (e i) 0) (row_at row (d.noisy i) (e i)))
            ∙ (λ i. count most (get_or-set_same c.marks u 1 0 hm i) (row_same row c.noisy u x hn i))
            ∙ marked most 1 (row x) refl small
            ∙ ap (λ b. cond b (Some (row x)) (count_at row most c v)) (sym (eq-eqb u v (sym e)))
        by (inr n) =
            (λ i. count most (get_or (d.marks i) v 0) (row_at row (d.noisy i) v))
            ∙ (λ i. count most (get_or-set_other c.marks u v 1 0 n i) (row_other row c.noisy u v x n i))
            ∙ ap (λ b. cond b (Some (row x)) (count_at row most c v)) (sym (ne_eqb u v (λ e. n (sym e))))

  module _ (u : ℕ) (d : Struck u c c') (hm : u < length c.marks) where
    pub count-struck : (v : ℕ) → count_at row most c' v ≡ cond (eqb u v) None (count_at row most c v)
    unfolding count
    count-struck v = by (cases_eq v u)
      where
        by : (v ≡ u) ⊎ (v ≡ u → ⊥) → count_at row most c' v ≡ cond (eqb u v) None (count_at row most c v)
        by (inl e) =
            (λ i. count most (get_or (d.marks i) (e i) 0) (row_at row (d.noisy i) v))
            ∙ ap (λ m. count most m (row_at row c.noisy v)) (get_or-set_same c.marks u 0 0 hm)
            ∙ unmarked most 0 (row_at row c.noisy v) (λ z. omega arith)
            ∙ ap (λ b. cond b None (count_at row most c v)) (sym (eq-eqb u v (sym e)))
        by (inr n) =
            (λ i. count most (get_or (d.marks i) v 0) (row_at row (d.noisy i) v))
            ∙ ap (λ m. count most m (row_at row c.noisy v)) (get_or-set_other c.marks u v 0 0 n)
            ∙ ap (λ b. cond b None (count_at row most c v)) (sym (ne_eqb u v (λ e. n (sym e))))

-- a slice whose first n marks were written
filled-front : (n m : ℕ) (xs : List ℕ) (v : ℕ) → v < n → get_or (replicate n m ++ xs) v 0 ≡ m
filled-front n m xs v h = grind (arith, common_steps)

module _ {K : Type 0} (row : K → Row) (most : ℕ) (c c' : Contents K) where
  pub count-laid : (f : Form) → Laid f c c' → (v : ℕ) → v < nodes f → count_at row most c' v ≡ None
  unfolding count
  count-laid f d v h =
      ap (λ m. count most (get_or m v 0) (row_at row c'.noisy v)) d.marks
      ∙ unmarked most _ (row_at row c'.noisy v) (λ z. omega (arith, filled-front (nodes f) 0 (drop (nodes f) c.marks) v h))

  pub count-loaded : (w n : ℕ) (table : List ℕ) → Loaded row w n table c c' → (v : ℕ) → v < n → Within most (table_row w table v)
      → count_at row most c' v ≡ Some (table_row w table v)
  unfolding count
  count-loaded w n table d v h small =
      (λ i. count most (get_or (d.marks i) v 0) (d.noisy v h i))
      ∙ ap (λ m. count most m (table_row w table v)) (filled-front n 1 (drop n c.marks) v h)
      ∙ marked most 1 (table_row w table v) refl (within_none most (table_row w table v) small)

-- a count that is there is the row of the cell
pub count-row : {K : Type 0} (row : K → Row) (most : ℕ) (c : Contents K) (v : ℕ) (r : Row) → count_at row most c v ≡ Some r
    → (r ≡ row_at row c.noisy v) × (beyond most (row_at row c.noisy v) ≡ None)
count-row row most c v r e = go (eqb (get_or c.marks v 0) 1) (beyond most (row_at row c.noisy v)) refl e
  where
    go : (b : Bool) (o : Option ℕ) → beyond most (row_at row c.noisy v) ≡ o → cond (b && not (is_some o)) (Some (row_at row c.noisy v)) None ≡ Some r
        → (r ≡ row_at row c.noisy v) × (beyond most (row_at row c.noisy v) ≡ None)
    go true None p q = (cc, p)
    go true (Some i) p q = absurd cc
    go false o p q = absurd cc

-- lists of counts
pub counts_same : (f g : ℕ → Option Row) (a n : ℕ) → ((v : ℕ) → v < a + n → f v ≡ g v) → map f (range_with_len a n) ≡ map g (range_with_len a n)
counts_same f g a zero h = refl
counts_same f g a (suc n) h = λ i. h a (omega arith) i ∷ counts_same f g (a + 1) n (λ v l. h v (omega arith)) i

-- no node is empty: each has a count
pub none-empty : (f : ℕ → Option Row) (a n : ℕ) → empty_from a (map f (range_with_len a n)) ≡ None → (v : ℕ) → a ≤ v → v < a + n → is_some (f v) ≡ true
none-empty f a zero e v lo hi = absurd (omega arith)
none-empty f a (suc n) e v lo hi = go (f a) refl e (λ q l. none-empty f (a + 1) n (ap (λ m. empty_from m (map f (range_with_len (a + 1) n))) (add-one a) ∙ q) v l (omega arith))
  where
    go : (o : Option Row) → f a ≡ o → empty_from a (o ∷ map f (range_with_len (a + 1) n)) ≡ None
        → (empty_from (suc a) (map f (range_with_len (a + 1) n)) ≡ None → a + 1 ≤ v → is_some (f v) ≡ true) → is_some (f v) ≡ true
    go None p q rest = absurd cc
    go (Some r) p q rest = by (cases_eq v a)
      where
        by : (v ≡ a) ⊎ (v ≡ a → ⊥) → is_some (f v) ≡ true
        by (inl s) = ap (λ u. is_some (f u)) s ∙ ap is_some p
        by (inr s) = rest q (omega arith)
