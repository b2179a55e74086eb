-- The two facts behind nearness, over functions of the places: what adds up is orthogonal to the error, and Pythagoras.
use Rattle.std.proofs.Common.{◌≡◌, ℕ, ◌+◌, ◌*◌, ◌<◌, ◌≤◌, ℤ, pos, ◌+ℤ◌, ◌-ℤ◌, ◌*ℤ◌, sym, ap, ◌∙◌, arith}
use mathlib.Core.Path.{fun_ext}
use lib.IntN.{*ℤ-zero}
use Rattle.algebra.proofs.Ring.{ring, lin}
use Rattle.algebra.proofs.Sums.{sum-ext, sum-add, sum-sub, sum-scale, sum-split, regroup}
use Rattle.algebra.proofs.Form.{M, Form, same, scale, sub, null, over-sum, square, scale-square}
use Rattle.algebra.specs.Sum.{sum}
use Rattle.shapes.specs.Tree.{child}

-- A tree of n parents with b children each, and r leaves; C is carried down, s u and K u are what the children of u have for σ and C.
pub record Errors (b n r : ℕ) (e C : ℕ → M) (σ : ℕ → ℤ) : Type 0 where
  pub whole : n + r ≡ 1 + b * n
  pub root : (i : ℕ) → C 0 i ≡ pos 0
  pub s : ℕ → ℤ
  pub K : ℕ → M
  pub at_parent : (u : ℕ) → u < n → (i : ℕ) → e u i ≡ σ u *ℤ C u i -ℤ s u *ℤ K u i
  pub at_child : (u : ℕ) → u < n → (j : ℕ) → j < b → (σ (child b u j) ≡ s u) × ((i : ℕ) → C (child b u j) i ≡ K u i)
  pub at_leaf : (v : ℕ) → n ≤ v → v < n + r → (i : ℕ) → e v i ≡ σ v *ℤ C v i

module _ (P : M → M → ℤ) (F : Form P) (b n r : ℕ) (e C : ℕ → M) (σ : ℕ → ℤ) (E : Errors b n r e C σ) (W : ℕ → M)
    (adds : (u : ℕ) → u < n → (i : ℕ) → W u i ≡ sum b (λ j. W (child b u j) i)) where
  g : ℕ → ℤ
  g v = σ v *ℤ P (W v) (C v)

  leaf : (v : ℕ) → n ≤ v → v < n + r → P (W v) (e v) ≡ g v
  unfolding g
  leaf v h k = F.symm (W v) (e v) ∙ same P F (e v) (λ i. σ v *ℤ C v i) (W v) (E.at_leaf v h k) ∙ scale P F (σ v) (C v) (W v) ∙ ap (λ x. σ v *ℤ x) (F.symm (C v) (W v))

  below : (u : ℕ) → u < n → E.s u *ℤ P (E.K u) (W u) ≡ sum b (λ j. g (child b u j))
  unfolding g
  below u h = ap (λ x. E.s u *ℤ x) (F.symm (E.K u) (W u) ∙ same P F (W u) (λ i. sum b (λ j. W (child b u j) i)) (E.K u) (adds u h) ∙ over-sum P F b (λ j. W (child b u j)) (E.K u))
      ∙ sym (sum-scale b (E.s u) (λ j. P (W (child b u j)) (E.K u)))
      ∙ sum-ext b (λ j. E.s u *ℤ P (W (child b u j)) (E.K u)) (λ j. g (child b u j)) (λ j k. λ i. sym (E.at_child u h j k).0 i *ℤ P (W (child b u j)) (sym (fun_ext (E.at_child u h j k).1) i))

  parent : (u : ℕ) → u < n → P (W u) (e u) ≡ g u -ℤ sum b (λ j. g (child b u j))
  unfolding g
  parent u h = F.symm (W u) (e u) ∙ same P F (e u) (λ i. σ u *ℤ C u i -ℤ E.s u *ℤ E.K u i) (W u) (E.at_parent u h)
      ∙ sub P F (λ i. σ u *ℤ C u i) (λ i. E.s u *ℤ E.K u i) (W u)
      ∙ (λ i. (scale P F (σ u) (C u) (W u) ∙ ap (λ x. σ u *ℤ x) (F.symm (C u) (W u))) i -ℤ (scale P F (E.s u) (E.K u) (W u) ∙ below u h) i)

  top : g 0 ≡ pos 0
  unfolding g
  top = ap (λ x. σ 0 *ℤ x) (F.symm (W 0) (C 0) ∙ same P F (C 0) (λ i. pos 0) (W 0) E.root ∙ null P F (W 0)) ∙ *ℤ-zero (σ 0)

  pub orthogonal : sum (n + r) (λ v. P (W v) (e v)) ≡ pos 0
  orthogonal =
      let parents : sum n (λ u. P (W u) (e u)) ≡ sum n (λ u. g u -ℤ sum b (λ j. g (child b u j))) = sum-ext n (λ u. P (W u) (e u)) (λ u. g u -ℤ sum b (λ j. g (child b u j))) parent in
      let leaves : sum r (λ i. P (W (n + i)) (e (n + i))) ≡ sum r (λ i. g (n + i)) = sum-ext r (λ i. P (W (n + i)) (e (n + i))) (λ i. g (n + i)) (λ i k. leaf (n + i) (omega arith) (omega arith)) in
      let whole : sum (n + r) g ≡ sum (1 + b * n) g = ap (λ x. sum x g) E.whole in
      omega (arith, lin, sum-split n r (λ v. P (W v) (e v)), parents, leaves, sum-sub n g (λ u. sum b (λ j. g (child b u j))), regroup b n g, sum-split n r g, whole, sum-split 1 (b * n) g, top)

module _ (P : M → M → ℤ) (F : Form P) (N : ℕ) (D q : ℤ) (X Y t : ℕ → M) where
  abbrev pub gap : ℕ → M
  gap v i = D *ℤ Y v i -ℤ q *ℤ X v i

  abbrev pub error : ℕ → M
  error v i = X v i -ℤ D *ℤ t v i

  abbrev pub rival : ℕ → M
  rival v i = Y v i -ℤ q *ℤ t v i

  split : (D q x y t : ℤ) → D *ℤ (y -ℤ q *ℤ t) ≡ (D *ℤ y -ℤ q *ℤ x) +ℤ q *ℤ (x -ℤ D *ℤ t)
  split D q x y t = simp ring (omega (arith, lin))

  at-node : (v : ℕ) → (D *ℤ D) *ℤ P (rival v) (rival v) ≡ P (gap v) (gap v) +ℤ (q *ℤ P (gap v) (error v) +ℤ q *ℤ P (gap v) (error v)) +ℤ (q *ℤ q) *ℤ P (error v) (error v)
  at-node v = sym (scale-square P F D (rival v)) ∙ ap (λ f. P f f) (fun_ext (λ i. split D q (X v i) (Y v i) (t v i))) ∙ square P F (gap v) (error v) q

  pub pythagoras : sum N (λ v. P (gap v) (error v)) ≡ pos 0
      → (D *ℤ D) *ℤ sum N (λ v. P (rival v) (rival v)) ≡ sum N (λ v. P (gap v) (gap v)) +ℤ (q *ℤ q) *ℤ sum N (λ v. P (error v) (error v))
  pythagoras z =
      let A : ℕ → ℤ = λ v. P (gap v) (gap v) in
      let B : ℕ → ℤ = λ v. P (gap v) (error v) in
      let G : ℕ → ℤ = λ v. P (error v) (error v) in
      let R : ℕ → ℤ = λ v. P (rival v) (rival v) in
      let nodes : sum N (λ v. (D *ℤ D) *ℤ R v) ≡ sum N (λ v. A v +ℤ (q *ℤ B v +ℤ q *ℤ B v) +ℤ (q *ℤ q) *ℤ G v) = sum-ext N (λ v. (D *ℤ D) *ℤ R v) (λ v. A v +ℤ (q *ℤ B v +ℤ q *ℤ B v) +ℤ (q *ℤ q) *ℤ G v) (λ v k. at-node v) in
      let none : q *ℤ sum N B ≡ pos 0 = ap (λ x. q *ℤ x) z ∙ *ℤ-zero q in
      omega (arith, lin, sum-scale N (D *ℤ D) R, nodes, sum-add N (λ v. A v +ℤ (q *ℤ B v +ℤ q *ℤ B v)) (λ v. (q *ℤ q) *ℤ G v), sum-add N A (λ v. q *ℤ B v +ℤ q *ℤ B v), sum-add N (λ v. q *ℤ B v) (λ v. q *ℤ B v), sum-scale N q B, sum-scale N (q *ℤ q) G, none)
