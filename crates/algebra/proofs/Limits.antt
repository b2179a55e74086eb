-- How large the components of a row are, and the scan for the first that is too large.
use Rattle.std.proofs.Common.{◌≡◌, ℕ, zero, suc, ◌+◌, ◌*◌, ◌<◌, ◌≤◌, Bool, true, false, cond, ltb, [], ◌∷◌, length, ℤ, pos, negsuc, ◌+ℤ◌, ◌-ℤ◌, ◌*ℤ◌, nat_abs, Some, None, sym, refl, ap, ◌∙◌, add-zero, mul-le-mul_left, arith}
use Rattle.std.proofs.lemmas.Int.{ints}
use Rattle.std.proofs.lemmas.Bool.{le-ltb, lt-ltb, ltb-false}
use Rattle.algebra.specs.Row.{Row, part, zip, zeros, Within, beyond, beyond_from, ◌⊕◌, ◌⊖◌, ◌⊙◌}
use Rattle.algebra.specs.Sum.{sum_rows}

abs-add : (a b : ℤ) → nat_abs (a +ℤ b) ≤ nat_abs a + nat_abs b
abs-add a b = omega (arith, ints)

abs-sub : (a b : ℤ) → nat_abs (a -ℤ b) ≤ nat_abs a + nat_abs b
abs-sub a b = omega (arith, ints)

pub abs-times : (k : ℕ) (a : ℤ) → nat_abs (pos k *ℤ a) ≡ k * nat_abs a
abs-times k (pos n) = omega (arith, ints)
abs-times k (negsuc n) = omega (arith, ints)

-- the size of what stands at a place of two rows that are joined by a sum or a difference
zip-size : (f : ℤ → ℤ → ℤ) → ((a b : ℤ) → nat_abs (f a b) ≤ nat_abs a + nat_abs b) → (r s : Row) (i : ℕ) → nat_abs (part (zip f r s) i) ≤ nat_abs (part r i) + nat_abs (part s i)
zip-size f h [] [] i = omega arith
zip-size f h [] (y ∷ ys) i = omega arith
zip-size f h (x ∷ xs) [] i = omega arith
zip-size f h (x ∷ xs) (y ∷ ys) zero = h x y
zip-size f h (x ∷ xs) (y ∷ ys) (suc i) = zip-size f h xs ys i

pub add-size : (r s : Row) (i : ℕ) → nat_abs (part (r ⊕ s) i) ≤ nat_abs (part r i) + nat_abs (part s i)
add-size r s i = zip-size ◌+ℤ◌ abs-add r s i

pub sub-size : (r s : Row) (i : ℕ) → nat_abs (part (r ⊖ s) i) ≤ nat_abs (part r i) + nat_abs (part s i)
sub-size r s i = zip-size ◌-ℤ◌ abs-sub r s i

pub times-size : (k : ℕ) (r : Row) (i : ℕ) → nat_abs (part (pos k ⊙ r) i) ≤ k * nat_abs (part r i)
times-size k [] i = omega arith
times-size k (x ∷ xs) zero = omega (arith, abs-times k x)
times-size k (x ∷ xs) (suc i) = times-size k xs i

pub within_more : (a c : ℕ) (r : Row) → a ≤ c → Within a r → Within c r
within_more a c r l h i = omega (arith, h i)

pub within-add : (a c : ℕ) (r s : Row) → Within a r → Within c s → Within (a + c) (r ⊕ s)
within-add a c r s h g i = omega (arith, add-size r s i, h i, g i)

pub within-sub : (a c : ℕ) (r s : Row) → Within a r → Within c s → Within (a + c) (r ⊖ s)
within-sub a c r s h g i = omega (arith, sub-size r s i, h i, g i)

pub within-times : (k a : ℕ) (r : Row) → Within a r → Within (k * a) (pos k ⊙ r)
within-times k a r h i = omega (arith, times-size k r i, mul-le-mul_left k (h i))

pub within-zeros : (w : ℕ) → Within 0 (zeros w)
within-zeros zero i = omega arith
within-zeros (suc w) zero = omega arith
within-zeros (suc w) (suc i) = within-zeros w i

pub within-rows : (w a n : ℕ) (f : ℕ → Row) → ((j : ℕ) → j < n → Within a (f j)) → Within (n * a) (sum_rows w n f)
within-rows w a zero f h = within_more 0 (0 * a) (zeros w) (omega arith) (within-zeros w)
within-rows w a (suc n) f h =
    within_more (n * a + a) (suc n * a) (sum_rows w (suc n) f) (omega arith)
    (within-add (n * a) a (sum_rows w n f) (f n) (within-rows w a n f (λ j l. h j (omega arith))) (h n (omega arith)))

-- what the scan says of the whole row
none_from : (l at : ℕ) (r : Row) → Within l r → beyond_from l at r ≡ None
none_from l at [] w = refl
none_from l at (x ∷ xs) w =
    ap (λ b. cond b (Some at) (beyond_from l (suc at) xs)) (le-ltb l (nat_abs x) (w 0)) ∙ none_from l (suc at) xs (λ i. w (suc i))

pub within_none : (l : ℕ) (r : Row) → Within l r → beyond l r ≡ None
within_none l r w = none_from l 0 r w

within-from : (l at : ℕ) (r : Row) → beyond_from l at r ≡ None → Within l r
within-from l at [] e = λ i. omega arith
within-from l at (x ∷ xs) e = go (ltb l (nat_abs x)) refl e (λ q. within-from l (suc at) xs q)
  where
    go : (b : Bool) → ltb l (nat_abs x) ≡ b → cond b (Some at) (beyond_from l (suc at) xs) ≡ None → (beyond_from l (suc at) xs ≡ None → Within l xs) → Within l (x ∷ xs)
    go true p q rest i = absurd cc
    go false p q rest zero = ltb-false l (nat_abs x) p
    go false p q rest (suc i) = rest q i

pub none_within : (l : ℕ) (r : Row) → beyond l r ≡ None → Within l r
none_within l r e = within-from l 0 r e

-- all components before i are within the limit, and the one at i is not: the scan finds i
pub beyond-at : (l : ℕ) (r : Row) (i : ℕ) → i < length r → l < nat_abs (part r i) → ((j : ℕ) → j < i → nat_abs (part r j) ≤ l) → beyond l r ≡ Some i
beyond-at l r i h far near = from l 0 r i h far near ∙ ap Some (omega arith)
  where
    from : (l at : ℕ) (r : Row) (i : ℕ) → i < length r → l < nat_abs (part r i) → ((j : ℕ) → j < i → nat_abs (part r j) ≤ l) → beyond_from l at r ≡ Some (at + i)
    from l at [] i h far near = absurd (omega arith)
    from l at (x ∷ xs) zero h far near =
        ap (λ b. cond b (Some at) (beyond_from l (suc at) xs)) (lt-ltb l (nat_abs x) far) ∙ ap Some (sym (add-zero at))
    from l at (x ∷ xs) (suc i) h far near =
        ap (λ b. cond b (Some at) (beyond_from l (suc at) xs)) (le-ltb l (nat_abs x) (near 0 (omega arith)))
        ∙ from l (suc at) xs i (omega arith) far (λ j k. near (suc j) (omega arith)) ∙ ap Some (omega arith)
