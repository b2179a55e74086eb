-- Z, C and X part one node, by their components: a parent's X is the sum of its children's, and its error is S_k C − S_(k−1) C of a child.
use Rattle.std.proofs.Common.{◌≡◌, ℕ, zero, suc, ◌-◌, ◌*◌, ◌/◌, ◌^◌, ◌<◌, ◌≤◌, length, ℤ, pos, ◌+ℤ◌, ◌-ℤ◌, ◌*ℤ◌, sym, ap, ◌∙◌, div-one, arith}
use native.Mathlib.Nat.{pow-succ', pow-zero}
use Rattle.algebra.proofs.Ring.{ring, lin, assoc}
use Rattle.algebra.proofs.Sums.{sum-ext, sum-add, sum-scale, sum-const}
use Rattle.algebra.proofs.Rows.{zip_length, scale-length, zeros-length, rows-length, part-add, part-sub, part-rows, part-scale}
use Rattle.shapes.proofs.Sizes.{parent_of}
use Rattle.inference.proofs.Parts.{Parts}
use Rattle.algebra.specs.Row.{Row, part, ◌⊕◌, ◌⊖◌, ◌⊙◌}
use Rattle.algebra.specs.Sum.{sum}
use Rattle.shapes.specs.Tree.{size, child, parent}
use Rattle.inference.specs.Table.{Table, over_children}
use Rattle.inference.specs.Formulas.{share, Z_at as Z, C_at as C, X_at as Xat}

-- the two identities, over the integers
consistent : (c s p t z x : ℤ) → (c *ℤ (s +ℤ p)) *ℤ z +ℤ p *ℤ (x +ℤ c *ℤ (s *ℤ t -ℤ z)) ≡ (c *ℤ s) *ℤ (p *ℤ t +ℤ z) +ℤ p *ℤ x
consistent c s p t z x = simp ring (omega (arith, lin))

erring : (c s p t z x : ℤ) → ((c *ℤ s) *ℤ (p *ℤ t +ℤ z) +ℤ p *ℤ x) -ℤ (c *ℤ (s *ℤ (s +ℤ p))) *ℤ t ≡ (s +ℤ p) *ℤ x -ℤ s *ℤ (x +ℤ c *ℤ (s *ℤ t -ℤ z))
erring c s p t z x = simp ring (omega (arith, lin))

module _ (w b L D : ℕ) (t : Table) where
  -- what the children of u, of height m + 1, have for C
  abbrev pub carried : ℕ → ℕ → Row
  carried m u = C w b L D t (L - suc (suc m)) u ⊕ share w b D t (suc m) u

  pub C-child : (m u j : ℕ) → suc (suc m) ≤ L → j < b → C w b L D t (L - suc m) (child b u j) ≡ carried m u
  C-child m u j h k =
      let d : ℕ = L - suc (suc m) in
      let e : L - suc m ≡ suc d = omega arith in
      let f : L - suc d ≡ suc m = omega arith in
      ap (λ x. C w b L D t x (child b u j)) e
      ∙ (λ i. C w b L D t d (parent_of b u j k i) ⊕ share w b D t (f i) (parent_of b u j k i))

module _ (w b L D : ℕ) (t : Table) (sized : (v : ℕ) → length (t v) ≡ w) where
  pub Z-length : (k v : ℕ) → length (Z w b t k v) ≡ w
  Z-length zero v = zeros-length w
  Z-length (suc zero) v = sized v
  Z-length (suc (suc k)) v = zip_length ◌+ℤ◌ w (pos (b ^ suc k) ⊙ t v) (over_children w b (Z w b t (suc k)) v) (scale-length (pos (b ^ suc k)) (t v) ∙ sized v) (rows-length w b (λ j. Z w b t (suc k) (child b v j)) (λ j _. Z-length (suc k) (child b v j)))

  pub share-length : (m u : ℕ) → length (share w b D t m u) ≡ w
  share-length m u = scale-length (pos (D / (size b m * size b (suc m)))) (pos (size b m) ⊙ t u ⊖ over_children w b (Z w b t m) u)
      ∙ zip_length ◌-ℤ◌ w (pos (size b m) ⊙ t u) (over_children w b (Z w b t m) u) (scale-length (pos (size b m)) (t u) ∙ sized u) (rows-length w b (λ j. Z w b t m (child b u j)) (λ j _. Z-length m (child b u j)))

  pub C-length : (d v : ℕ) → length (C w b L D t d v) ≡ w
  C-length zero v = zeros-length w
  C-length (suc d) v = zip_length ◌+ℤ◌ w (C w b L D t d (parent b v)) (share w b D t (L - suc d) (parent b v)) (C-length d (parent b v)) (share-length (L - suc d) (parent b v))

  pub X-length : (k v : ℕ) → length (Xat w b L D t k v) ≡ w
  X-length k v = zip_length ◌+ℤ◌ w (pos (D / size b k) ⊙ Z w b t k v) (pos (b ^ (k - 1)) ⊙ C w b L D t (L - k) v) (scale-length (pos (D / size b k)) (Z w b t k v) ∙ Z-length k v) (scale-length (pos (b ^ (k - 1))) (C w b L D t (L - k) v) ∙ C-length (L - k) v)

  -- the components
  module _ (i : ℕ) where
    -- the sum of Z over the children of u, of height m
    abbrev zs : ℕ → ℕ → ℤ
    zs m u = sum b (λ j. part (Z w b t m (child b u j)) i)

    part-Z : (k v : ℕ) → part (Z w b t (suc (suc k)) v) i ≡ pos (b ^ suc k) *ℤ part (t v) i +ℤ zs (suc k) v
    part-Z k v = part-add w (pos (b ^ suc k) ⊙ t v) (over_children w b (Z w b t (suc k)) v) (scale-length (pos (b ^ suc k)) (t v) ∙ sized v) (rows-length w b (λ j. Z w b t (suc k) (child b v j)) (λ j _. Z-length (suc k) (child b v j))) i
        ∙ (λ e. part-scale (pos (b ^ suc k)) (t v) i e +ℤ part-rows w b (λ j. Z w b t (suc k) (child b v j)) (λ j _. Z-length (suc k) (child b v j)) i e)

    at-share : (m u : ℕ) → part (share w b D t m u) i ≡ pos (D / (size b m * size b (suc m))) *ℤ (pos (size b m) *ℤ part (t u) i -ℤ zs m u)
    at-share m u = part-scale (pos (D / (size b m * size b (suc m)))) (pos (size b m) ⊙ t u ⊖ over_children w b (Z w b t m) u) i
        ∙ ap (λ x. pos (D / (size b m * size b (suc m))) *ℤ x)
        (part-sub w (pos (size b m) ⊙ t u) (over_children w b (Z w b t m) u) (scale-length (pos (size b m)) (t u) ∙ sized u) (rows-length w b (λ j. Z w b t m (child b u j)) (λ j _. Z-length m (child b u j))) i
        ∙ (λ e. part-scale (pos (size b m)) (t u) i e -ℤ part-rows w b (λ j. Z w b t m (child b u j)) (λ j _. Z-length m (child b u j)) i e))

    pub part-X : (k v : ℕ) → part (Xat w b L D t k v) i ≡ pos (D / size b k) *ℤ part (Z w b t k v) i +ℤ pos (b ^ (k - 1)) *ℤ part (C w b L D t (L - k) v) i
    part-X k v = part-add w (pos (D / size b k) ⊙ Z w b t k v) (pos (b ^ (k - 1)) ⊙ C w b L D t (L - k) v) (scale-length (pos (D / size b k)) (Z w b t k v) ∙ Z-length k v) (scale-length (pos (b ^ (k - 1))) (C w b L D t (L - k) v) ∙ C-length (L - k) v) i
        ∙ (λ e. part-scale (pos (D / size b k)) (Z w b t k v) i e +ℤ part-scale (pos (b ^ (k - 1))) (C w b L D t (L - k) v) i e)

  -- a parent u of height m + 2 and its children
  module _ (m u : ℕ) (deep : suc (suc m) ≤ L) (parts : Parts D (size b (suc m)) (size b (suc (suc m)))) (i : ℕ) where
    abbrev c : ℤ
    c = pos (D / (size b (suc m) * size b (suc (suc m))))

    abbrev s : ℤ
    s = pos (size b (suc m))

    abbrev p : ℤ
    p = pos (b ^ suc m)

    abbrev τ : ℤ
    τ = part (t u) i

    abbrev z : ℤ
    z = zs i (suc m) u

    abbrev x : ℤ
    x = part (C w b L D t (L - suc (suc m)) u) i

    K : part (carried w b L D t m u) i ≡ x +ℤ c *ℤ (s *ℤ τ -ℤ z)
    K = part-add w (C w b L D t (L - suc (suc m)) u) (share w b D t (suc m) u) (C-length (L - suc (suc m)) u) (share-length (suc m) u) i ∙ ap (λ y. x +ℤ y) (at-share i (suc m) u)

    pub X-parent : part (Xat w b L D t (suc (suc m)) u) i ≡ (c *ℤ s) *ℤ (p *ℤ τ +ℤ z) +ℤ p *ℤ x
    X-parent =
        let e : suc (suc m) - 1 ≡ suc m = omega arith in
        part-X i (suc (suc m)) u ∙ (λ y. pos (parts.right y) *ℤ part-Z i m u y +ℤ pos (b ^ e y) *ℤ x)

    pub X-child : (j : ℕ) → j < b → part (Xat w b L D t (suc m) (child b u j)) i ≡ (c *ℤ (s +ℤ p)) *ℤ part (Z w b t (suc m) (child b u j)) i +ℤ pos (b ^ m) *ℤ (x +ℤ c *ℤ (s *ℤ τ -ℤ z))
    X-child j k =
        let e : suc m - 1 ≡ m = omega arith in
        part-X i (suc m) (child b u j) ∙ (λ y. pos (parts.left y) *ℤ part (Z w b t (suc m) (child b u j)) i +ℤ pos (b ^ e y) *ℤ (ap (λ r. part r i) (C-child w b L D t m u j deep k) ∙ K) y)

    X-children : sum b (λ j. part (Xat w b L D t (suc m) (child b u j)) i) ≡ (c *ℤ (s +ℤ p)) *ℤ z +ℤ p *ℤ (x +ℤ c *ℤ (s *ℤ τ -ℤ z))
    X-children =
        let y : ℤ = x +ℤ c *ℤ (s *ℤ τ -ℤ z) in
        let f : ℕ → ℤ = λ j. part (Z w b t (suc m) (child b u j)) i in
        sum-ext b (λ j. part (Xat w b L D t (suc m) (child b u j)) i) (λ j. (c *ℤ (s +ℤ p)) *ℤ f j +ℤ pos (b ^ m) *ℤ y) X-child
        ∙ sum-add b (λ j. (c *ℤ (s +ℤ p)) *ℤ f j) (λ j. pos (b ^ m) *ℤ y)
        ∙ (λ e. sum-scale b (c *ℤ (s +ℤ p)) f e +ℤ (sum-const b (pos (b ^ m) *ℤ y) ∙ sym (assoc (pos b) (pos (b ^ m)) y) ∙ ap (λ n. pos n *ℤ y) (sym (pow-succ' b m))) e)

    pub sums-up : part (Xat w b L D t (suc (suc m)) u) i ≡ sum b (λ j. part (Xat w b L D t (suc m) (child b u j)) i)
    sums-up = X-parent ∙ sym (X-children ∙ consistent c s p τ z x)

    pub errs : part (Xat w b L D t (suc (suc m)) u) i -ℤ pos D *ℤ part (t u) i ≡ pos (size b (suc (suc m))) *ℤ part (C w b L D t (L - suc (suc m)) u) i -ℤ pos (size b (suc m)) *ℤ part (carried w b L D t m u) i
    errs = (λ y. X-parent y -ℤ pos (parts.both y) *ℤ τ) ∙ erring c s p τ z x ∙ ap (λ k. (s +ℤ p) *ℤ x -ℤ s *ℤ k) (sym K)

  pub leaf-errs : (v i : ℕ) → part (Xat w b L D t 1 v) i -ℤ pos D *ℤ part (t v) i ≡ pos (size b 1) *ℤ part (C w b L D t (L - 1) v) i
  leaf-errs v i =
      let one : size b 1 ≡ 1 = omega (arith, pow-zero b) in
      let e : b ^ 0 ≡ size b 1 = omega arith in
      let d : D / size b 1 ≡ D = ap (λ n. D / n) one ∙ div-one D in
      let x : part (Xat w b L D t 1 v) i ≡ pos D *ℤ part (t v) i +ℤ pos (size b 1) *ℤ part (C w b L D t (L - 1) v) i = part-X i 1 v ∙ (λ y. pos (d y) *ℤ part (t v) i +ℤ pos (e y) *ℤ part (C w b L D t (L - 1) v) i) in
      omega (arith, lin, x)
