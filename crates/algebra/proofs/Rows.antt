-- Rows of width w, read by their components.
use Rattle.std.proofs.Common.{◌≡◌, ℕ, zero, suc, ◌<◌, [], ◌∷◌, length, ℤ, pos, ◌+ℤ◌, ◌-ℤ◌, ◌*ℤ◌, ◌≤ℤ◌, sym, refl, ap, ◌∙◌, subst, arith}
use lib.IntN.{ℤ_discrete, *ℤ-zero}
use Rattle.algebra.proofs.Ring.{lin}
use Rattle.algebra.proofs.Form.{M, Form}
use Rattle.std.proofs.lemmas.List.{length-replicate, length-map}
use Rattle.algebra.specs.Row.{Row, part, tabulate, zip, ◌⊕◌, ◌⊖◌, ◌⊙◌, zeros, Product}
use Rattle.algebra.specs.Sum.{sum, sum_rows}

pub tabulate-length : (w : ℕ) (f : M) → length (tabulate w f) ≡ w
tabulate-length zero f = refl
tabulate-length (suc w) f = ap suc (tabulate-length w (λ i. f (suc i)))

pub tabulate-part : (w : ℕ) (r : Row) → length r ≡ w → tabulate w (part r) ≡ r
tabulate-part zero [] e = refl
tabulate-part zero (x ∷ r) e = absurd (omega arith)
tabulate-part (suc w) [] e = absurd (omega arith)
tabulate-part (suc w) (x ∷ r) e = ap (λ s. x ∷ s) (tabulate-part w r (omega arith))

pub tabulate-add : (w : ℕ) (f g : M) → tabulate w (λ i. f i +ℤ g i) ≡ tabulate w f ⊕ tabulate w g
tabulate-add zero f g = refl
tabulate-add (suc w) f g = ap (λ s. (f 0 +ℤ g 0) ∷ s) (tabulate-add w (λ i. f (suc i)) (λ i. g (suc i)))

pub zip_length : (f : ℤ → ℤ → ℤ) (w : ℕ) (r s : Row) → length r ≡ w → length s ≡ w → length (zip f r s) ≡ w
zip_length f w [] [] h k = h
zip_length f w [] (y ∷ s) h k = absurd (omega arith)
zip_length f w (x ∷ r) [] h k = absurd (omega arith)
zip_length f zero (x ∷ r) (y ∷ s) h k = absurd (omega arith)
zip_length f (suc w) (x ∷ r) (y ∷ s) h k = ap suc (zip_length f w r s (omega arith) (omega arith))

pub scale-length : (c : ℤ) (r : Row) → length (c ⊙ r) ≡ length r
scale-length c r = length-map r (λ x. c *ℤ x)

pub zeros-length : (w : ℕ) → length (zeros w) ≡ w
zeros-length w = length-replicate w (pos 0)

pub part-zeros : (w i : ℕ) → part (zeros w) i ≡ pos 0
part-zeros zero i = refl
part-zeros (suc w) zero = refl
part-zeros (suc w) (suc i) = part-zeros w i

pub part-zip : (f : ℤ → ℤ → ℤ) → f (pos 0) (pos 0) ≡ pos 0 → (r s : Row) → length r ≡ length s → (i : ℕ) → part (zip f r s) i ≡ f (part r i) (part s i)
part-zip f z [] [] h i = sym z
part-zip f z [] (y ∷ s) h i = absurd (omega arith)
part-zip f z (x ∷ r) [] h i = absurd (omega arith)
part-zip f z (x ∷ r) (y ∷ s) h zero = refl
part-zip f z (x ∷ r) (y ∷ s) h (suc i) = part-zip f z r s (omega arith) i

pub part-scale : (c : ℤ) (r : Row) (i : ℕ) → part (c ⊙ r) i ≡ c *ℤ part r i
part-scale c [] i = sym (*ℤ-zero c)
part-scale c (x ∷ r) zero = refl
part-scale c (x ∷ r) (suc i) = part-scale c r i

-- rows of one width are equal where their components are
pub same_row : (w : ℕ) (r s : Row) → length r ≡ w → length s ≡ w → ((i : ℕ) → part r i ≡ part s i) → r ≡ s
same_row w r s h k e = sym (tabulate-part w r h) ∙ ap (tabulate w) (mathlib.Core.Path.fun_ext e) ∙ tabulate-part w s k

pub zeros-tabulate : (w : ℕ) → zeros w ≡ tabulate w (λ i. pos 0)
zeros-tabulate zero = refl
zeros-tabulate (suc w) = ap (λ r. pos 0 ∷ r) (zeros-tabulate w)

-- a row is all zeros, or it is not
pub dec-zeros : (r : Row) → Dec (r ≡ zeros (length r))
dec-zeros [] = yes refl
dec-zeros (x ∷ r) = by (ℤ_discrete x (pos 0)) (dec-zeros r)
  where
    by : Dec (x ≡ pos 0) → Dec (r ≡ zeros (length r)) → Dec (x ∷ r ≡ zeros (length (x ∷ r)))
    by (yes e) (yes z) = yes (λ i. e i ∷ z i)
    by (yes e) (no n) = no (λ p. n (let q : r ≡ zeros (length r) = cc in q))
    by (no n) d = no (λ p. n (let q : x ≡ pos 0 = cc in q))

module _ (w : ℕ) (dot : Row → Row → ℤ) (laws : Product w dot) where
  abbrev pub P : M → M → ℤ
  P f g = dot (tabulate w f) (tabulate w g)

  add' : (f g h : M) → P (λ i. f i +ℤ g i) h ≡ P f h +ℤ P g h
  add' f g h = ap (λ r. dot r (tabulate w h)) (tabulate-add w f g) ∙ laws.additive (tabulate w f) (tabulate w g) (tabulate w h) (tabulate-length w f) (tabulate-length w g) (tabulate-length w h)

  pub P-positive : (f : M) → ¬ (tabulate w f ≡ zeros w) → pos 1 ≤ℤ P f f
  P-positive f n = laws.positive (tabulate w f) (tabulate-length w f) n

  pub P-form : Form P
  P-form = record { symm = λ f g. laws.symmetric (tabulate w f) (tabulate w g) (tabulate-length w f) (tabulate-length w g); add = add'; nonneg = λ f. by f (subst (λ (n : ℕ). Dec (tabulate w f ≡ zeros n)) (tabulate-length w f) (dec-zeros (tabulate w f))) }
    where
      by : (f : M) → Dec (tabulate w f ≡ zeros w) → pos 0 ≤ℤ P f f
      by f (yes z) = let e : P f f ≡ P (λ i. pos 0) f = ap (λ r. dot r (tabulate w f)) (z ∙ zeros-tabulate w) in omega (arith, lin, add' (λ i. pos 0) (λ i. pos 0) f)
      by f (no n) = omega (arith, lin, P-positive f n)

  -- on rows of width w the product is that form
  pub P-is : (r s : Row) → length r ≡ w → length s ≡ w → dot r s ≡ P (part r) (part s)
  P-is r s h k = λ i. dot (sym (tabulate-part w r h) i) (sym (tabulate-part w s k) i)

pub same-where-zero : (w : ℕ) (f g : M) → tabulate w (λ i. f i -ℤ g i) ≡ zeros w → tabulate w f ≡ tabulate w g
same-where-zero zero f g z = refl
same-where-zero (suc w) f g z =
    let none : f 0 -ℤ g 0 ≡ pos 0 = cc in
    let rest : tabulate w (λ j. f (suc j) -ℤ g (suc j)) ≡ zeros w = cc in
    let head : f 0 ≡ g 0 = omega (arith, lin, none) in
    λ i. head i ∷ same-where-zero w (λ j. f (suc j)) (λ j. g (suc j)) rest i

-- sums of rows
pub rows-length : (w n : ℕ) (f : ℕ → Row) → ((j : ℕ) → j < n → length (f j) ≡ w) → length (sum_rows w n f) ≡ w
rows-length w zero f h = zeros-length w
rows-length w (suc n) f h = zip_length ◌+ℤ◌ w (sum_rows w n f) (f n) (rows-length w n f (λ j k. h j (omega arith))) (h n (omega arith))

pub part-add : (w : ℕ) (r s : Row) → length r ≡ w → length s ≡ w → (i : ℕ) → part (r ⊕ s) i ≡ part r i +ℤ part s i
part-add w r s h k i = part-zip ◌+ℤ◌ refl r s (h ∙ sym k) i

pub part-sub : (w : ℕ) (r s : Row) → length r ≡ w → length s ≡ w → (i : ℕ) → part (r ⊖ s) i ≡ part r i -ℤ part s i
part-sub w r s h k i = part-zip ◌-ℤ◌ refl r s (h ∙ sym k) i

pub part-rows : (w n : ℕ) (f : ℕ → Row) → ((j : ℕ) → j < n → length (f j) ≡ w) → (i : ℕ) → part (sum_rows w n f) i ≡ sum n (λ j. part (f j) i)
part-rows w zero f h i = part-zeros w i
part-rows w (suc n) f h i =
    part-add w (sum_rows w n f) (f n) (rows-length w n f (λ j k. h j (omega arith))) (h n (omega arith)) i
    ∙ ap (λ x. x +ℤ part (f n) i) (part-rows w n f (λ j k. h j (omega arith)) i)

pub rows_ext : (w n : ℕ) (f g : ℕ → Row) → ((j : ℕ) → j < n → f j ≡ g j) → sum_rows w n f ≡ sum_rows w n g
rows_ext w zero f g h = refl
rows_ext w (suc n) f g h = λ i. rows_ext w n f g (λ j k. h j (omega arith)) i ⊕ h n (omega arith) i
