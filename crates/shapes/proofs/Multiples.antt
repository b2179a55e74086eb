-- The rule of the table of denominators, proved over all rows by one computed test.
use Rattle.std.proofs.Common.{◌≡◌, ℕ, zero, suc, ◌+◌, ◌-◌, ◌*◌, ◌/◌, ◌%◌, ◌<◌, ◌≤◌, Bool, true, cond, not, ◌&&◌, eqb, ltb, leb, ◌⊎◌, List, [], ◌∷◌, ◌++◌, map, replicate, length, get_or, Bor, sym, refl, ap, ◌∙◌, subst, inl, inr, ⊎_elim, le_of_suc-le-suc, not-suc-le-zero, mod-lt, mul_assoc, mul_comm, arith}
use mathlib.Core.Logic.{∥∥₁_elim}
use Prim.Native.Nat.{◌∣◌}
use native.Mathlib.Nat.{div-add-mod, dvd_of_mod-eq-zero, mod-eq-zero_of_dvd, dvd-mul_right, dvd-mul_left_of_dvd, dvd-add_iff_right, one-dvd, ∣_prop}
use Rattle.std.proofs.lemmas.Bool.{and_parts, cond-false, le-ltb, eqb-true, eqb-false, leb-true, ltb-true, not-true, cases_eq, cases_order}
use Rattle.std.proofs.lemmas.Grind.{elements}
use Rattle.std.proofs.lemmas.List.{length-map, get_or-map, get_or_past}
use Rattle.shapes.specs.Tree.{size}
use Rattle.shapes.specs.Laid.{Shapely}
use Rattle.shapes.specs.Denominator.{Least, Denominator, largest, denominators, denominator_of}
use Rattle.shapes.proofs.Sizes.{size-le}

-- no multiple i × p, 0 < i < j, is a multiple of s
abbrev none : ℕ → ℕ → ℕ → Bool
none p s zero = true
none p s (suc zero) = true
none p s (suc (suc i)) = not (eqb ((suc i * p) % s) 0) && none p s (suc i)

none-at : (p s j : ℕ) → none p s j ≡ true → (i : ℕ) → 0 < i → i < j → (i * p) % s ≡ 0 → ⊥
none-at p s zero t i l h z = omega arith
none-at p s (suc zero) t i l h z = omega arith
none-at p s (suc (suc j)) t i l h z = by (cases_eq i (suc j)) (λ k. none-at p s (suc j) a.1 i l k z)
  where
    a : (not (eqb ((suc j * p) % s) 0) ≡ true) × (none p s (suc j) ≡ true)
    a = and_parts (not (eqb ((suc j * p) % s) 0)) (none p s (suc j)) t

    by : (i ≡ suc j) ⊎ (i ≡ suc j → ⊥) → (i < suc j → ⊥) → ⊥
    by (inl e) again = eqb-false ((suc j * p) % s) 0 (not-true (eqb ((suc j * p) % s) 0) a.0) (subst (λ (n : ℕ). (n * p) % s ≡ 0) e z)
    by (inr n) again = again (⊎_elim (λ e. absurd (n e)) (⊎_elim (λ q. q) (λ q. absurd (omega arith))) (cases_order i (suc j)))

module _ (p s j : ℕ) (jp : 0 < j) (hit : (j * p) % s ≡ 0) (miss : (i : ℕ) → 0 < i → i < j → (i * p) % s ≡ 0 → ⊥) where
  -- a multiple x × p of s has x a multiple of j
  whole : (x : ℕ) → s ∣ x * p → x % j ≡ 0
  whole x h = by (cases_eq (x % j) 0)
    where
      split : x * p ≡ (x / j) * (j * p) + (x % j) * p
      split = omega (arith, ap (λ (n : ℕ). n * p) (div-add-mod x j), mul_assoc (x / j) j p)

      rest : s ∣ (x % j) * p
      rest = (dvd-add_iff_right s (dvd-mul_left_of_dvd s (dvd_of_mod-eq-zero s hit) (x / j))).1 (subst (λ (n : ℕ). s ∣ n) split h)

      by : (x % j ≡ 0) ⊎ (x % j ≡ 0 → ⊥) → x % j ≡ 0
      by (inl e) = e
      by (inr n) = absurd (miss (x % j) (omega arith) (mod-lt x jp) (mod-eq-zero_of_dvd s rest))

  joint : (m : ℕ) → p ∣ m → s ∣ m → j * p ∣ m
  joint m hp hs = ∥∥₁_elim hp (∣_prop (j * p) m) at
    where
      at : ((x : ℕ) × (m ≡ p * x)) → j * p ∣ m
      at (x, e) =
          let w : x % j ≡ 0 = whole x (subst (λ (n : ℕ). s ∣ n) (e ∙ mul_comm p x) hs) in
          let q : x ≡ j * (x / j) = omega (arith, div-add-mod x j) in
          let f : m ≡ j * p * (x / j) = omega (arith, e, ap (λ (n : ℕ). p * n) q) in
          subst (λ (n : ℕ). j * p ∣ n) (sym f) (dvd-mul_right (j * p) (x / j))

  extend : (b k : ℕ) → size b (suc k) ≡ s → Least b k p → Least b (suc k) (j * p)
  extend b k e l = record { each = each'; least = least' }
    where
      each' : (i : ℕ) → 1 ≤ i → i ≤ suc k → size b i ∣ j * p
      each' i lo hi = by (cases_eq i (suc k))
        where
          by : (i ≡ suc k) ⊎ (i ≡ suc k → ⊥) → size b i ∣ j * p
          by (inl q) = subst (λ (n : ℕ). n ∣ j * p) (sym (ap (size b) q ∙ e)) (dvd_of_mod-eq-zero s hit)
          by (inr n) = dvd-mul_left_of_dvd (size b i) (l.each i lo (⊎_elim (λ q. absurd (n q)) (⊎_elim (λ q. omega arith) (λ q. absurd (omega arith))) (cases_order i (suc k)))) j

      least' : (m : ℕ) → ((i : ℕ) → 1 ≤ i → i ≤ suc k → size b i ∣ m) → j * p ∣ m
      least' m h = joint m (l.least m (λ i lo hi. h i lo (omega arith))) (subst (λ (n : ℕ). n ∣ m) e (h (suc k) (omega arith) (omega arith)))

-- x is the least multiple of p that is one of s
abbrev rung : ℕ → ℕ → ℕ → Bool
rung p s x = eqb ((x / p) * p) x && (ltb 0 (x / p) && (eqb (((x / p) * p) % s) 0 && (none p s (x / p) && (leb x largest && leb 1 x))))

-- each entry from the height k + 1 on goes on from the one before it, p, as long as there are such shapes
abbrev ladder : ℕ → ℕ → ℕ → List ℕ → Bool
ladder b k p [] = true
ladder b k p (x ∷ xs) = cond (ltb 1023 (size b (suc k))) true (rung p (size b (suc k)) x && ladder b (suc k) x xs)

rung-at : (b k p x : ℕ) → rung p (size b (suc k)) x ≡ true → Least b k p → Denominator b (suc k) x
rung-at b k p x t l =
    let j = x / p in
    let s = size b (suc k) in
    let a = and_parts (eqb (j * p) x) (ltb 0 j && (eqb ((j * p) % s) 0 && (none p s j && (leb x largest && leb 1 x)))) t in
    let c = and_parts (ltb 0 j) (eqb ((j * p) % s) 0 && (none p s j && (leb x largest && leb 1 x))) a.1 in
    let d = and_parts (eqb ((j * p) % s) 0) (none p s j && (leb x largest && leb 1 x)) c.1 in
    let f = and_parts (none p s j) (leb x largest && leb 1 x) d.1 in
    let h = and_parts (leb x largest) (leb 1 x) f.1 in
    record {
      lcm = subst (λ (n : ℕ). Least b (suc k) n) (eqb-true (j * p) x a.0)
          (extend p s j (ltb-true 0 j c.0) (eqb-true ((j * p) % s) 0 d.0) (none-at p s j f.0) b k refl l);
      low = leb-true 1 x h.1;
      high = leb-true x largest h.0;
    }

ladder-at : (b k p : ℕ) (xs : List ℕ) → Least b k p → ladder b k p xs ≡ true → (i : ℕ) → i < length xs → size b (suc (k + i)) ≤ 1023 → Denominator b (suc (k + i)) (get_or xs i 0)
ladder-at b k p [] l t i h few = absurd (not-suc-le-zero h)
ladder-at b k p (x ∷ xs) l t i h few = at (λ l t i h few. ladder-at b (suc k) x xs l t i h few) i h few
  where
    go : size b (suc k) ≤ 1023 → (rung p (size b (suc k)) x ≡ true) × (ladder b (suc k) x xs ≡ true)
    go q =
        let y = rung p (size b (suc k)) x && ladder b (suc k) x xs in
        and_parts (rung p (size b (suc k)) x) (ladder b (suc k) x xs) (sym (cond-false (ltb 1023 (size b (suc k))) true y (le-ltb 1023 (size b (suc k)) q)) ∙ t)

    at : (Least b (suc k) x → ladder b (suc k) x xs ≡ true → (i : ℕ) → i < length xs → size b (suc (suc k + i)) ≤ 1023 → Denominator b (suc (suc k + i)) (get_or xs i 0)) →
        (i : ℕ) → i < length (x ∷ xs) → size b (suc (k + i)) ≤ 1023 → Denominator b (suc (k + i)) (get_or (x ∷ xs) i 0)
    at more zero h few =
        let e : suc (k + 0) ≡ suc k = omega arith in
        subst (λ (n : ℕ). Denominator b n x) (sym e) (rung-at b k p x (go (subst (λ (n : ℕ). size b n ≤ 1023) e few)).0 l)
    at more (suc i) h few =
        let e : suc (k + suc i) ≡ suc (suc k + i) = omega arith in
        let up : size b (suc k) ≤ size b (suc (k + suc i)) = size-le b (suc k) (suc (k + suc i)) (omega arith) in
        let g = go (omega (arith, up, few)) in
        let r = rung-at b k p x g.0 l in
        subst (λ (n : ℕ). Denominator b n (get_or xs i 0)) (sym e)
        (more r.lcm g.1 i (le_of_suc-le-suc h) (subst (λ (n : ℕ). size b n ≤ 1023) e few))

start : (b : ℕ) → Least b 0 1
start b = record { each = λ k lo hi. absurd (omega arith); least = λ m h. one-dvd m }

-- the rows of the fan-outs from b on
abbrev rows-hold : ℕ → List (List ℕ) → Bool
rows-hold b [] = true
rows-hold b (r ∷ rs) = ladder b 0 1 r && (leb 10 (length r) && rows-hold (suc b) rs)

rows_at : (b : ℕ) (rs : List (List ℕ)) → rows-hold b rs ≡ true → (i : ℕ) → i < length rs → (ladder (b + i) 0 1 (get_or rs i []) ≡ true) × (10 ≤ length (get_or rs i []))
rows_at b [] t i h = absurd (not-suc-le-zero h)
rows_at b (r ∷ rs) t zero h =
    let a = and_parts (ladder b 0 1 r) (leb 10 (length r) && rows-hold (suc b) rs) t in
    let c = and_parts (leb 10 (length r)) (rows-hold (suc b) rs) a.1 in
    let e : b + 0 ≡ b = omega arith in
    (subst (λ (n : ℕ). ladder n 0 1 r ≡ true) (sym e) a.0, leb-true 10 (length r) c.0)
rows_at b (r ∷ rs) t (suc i) h =
    let a = and_parts (ladder b 0 1 r) (leb 10 (length r) && rows-hold (suc b) rs) t in
    let c = and_parts (leb 10 (length r)) (rows-hold (suc b) rs) a.1 in
    let e : b + suc i ≡ suc b + i = omega arith in
    subst (λ (n : ℕ). (ladder n 0 1 (get_or rs i []) ≡ true) × (10 ≤ length (get_or rs i []))) (sym e) (rows_at (suc b) rs c.1 i (le_of_suc-le-suc h))

-- the test passes, so each entry is the least common multiple of its shape
pub rule : (b h : ℕ) → Shapely b h → Denominator b h (denominator_of b h)
rule b h s =
    let test : rows-hold 2 denominators ≡ true = refl in
    let eb : 2 + (b - 2) ≡ b = omega (arith, s.0) in
    let eh : suc (0 + (h - 1)) ≡ h = omega (arith, s.2) in
    let r = rows_at 2 denominators test (b - 2) (omega (arith, s.1, s.0)) in
    subst (λ (n : ℕ). Denominator b n (get_or (get_or denominators (b - 2) []) (h - 1) 0)) eh
    (ladder-at b 0 1 (get_or denominators (b - 2) []) (start b) (subst (λ (n : ℕ). ladder n 0 1 (get_or denominators (b - 2) []) ≡ true) eb r.0) (h - 1)
    (omega (arith, r.1, s.3, s.2)) (subst (λ (n : ℕ). size b n ≤ 1023) (sym eh) s.4))

-- ---- the table as the code has it, whose rows end where the shapes end

-- a row with zeros for the heights that have no shape
abbrev pub filled : Bor (List ℕ) → List ℕ
filled r = r.now ++ replicate (10 - length r.now) 0

read-filled : (r : List ℕ) (n i : ℕ) → get_or (r ++ replicate n 0) i 0 ≡ get_or r i 0
read-filled r n i = grind (arith, elements, get_or_past)

module _ (rows : List (Bor (List ℕ))) (d : Bor (List ℕ)) (b h : ℕ) (same : map filled rows ≡ denominators) (s : Shapely b h) where
  pub entry-is : get_or (get_or rows (b - 2) d).now (h - 1) 0 ≡ denominator_of b h
  entry-is =
      let row : get_or denominators (b - 2) [] ≡ filled (get_or rows (b - 2) d) =
      rw (← same) (get_or-map filled rows (b - 2) d [] (omega (arith, s.0, s.1, length-map rows filled, ap length same))) in
      cc (read-filled (get_or rows (b - 2) d).now (10 - length (get_or rows (b - 2) d).now) (h - 1))

  pub entry-in : h - 1 < length (get_or rows (b - 2) d).now
  entry-in = grind (arith, entry-is, (rule b h s).low, get_or_past (get_or rows (b - 2) d).now (h - 1) 0)
