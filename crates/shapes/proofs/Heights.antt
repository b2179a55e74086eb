-- The height of a node, by the level on which it lies.
use Rattle.std.proofs.Common.{◌≡◌, ℕ, zero, suc, ◌+◌, ◌-◌, ◌<◌, ◌≤◌, Bool, true, false, cond, ltb, Option, Some, None, sym, refl, ap, ◌∙◌, subst, add-zero, add-suc, arith}
use native.Mathlib.Decide.{dec_lt}
use Rattle.std.proofs.lemmas.Bool.{lt-ltb, le-ltb}
use Rattle.shapes.specs.Tree.{size, child, parent, height, Level, Heights}
use Rattle.std.proofs.lemmas.Nat.{le-div, div_below}
use Rattle.shapes.proofs.Firsts.{First}
use Rattle.shapes.proofs.Sizes.{size-next, size-positive, size-le, child-below, child-above}

pub height-in : (b l v : ℕ) → v < size b (suc l) → height b (suc l) v ≡ suc (height b l v)
height-in b l v h = ap (λ c. cond c (suc (height b l v)) 0) (lt-ltb v (size b (suc l)) h)

pub height-out : (b l v : ℕ) → size b l ≤ v → height b l v ≡ 0
height-out b zero v h = refl
height-out b (suc l) v h = ap (λ c. cond c (suc (height b l v)) 0) (le-ltb v (size b (suc l)) h)

-- the node v lies d levels below the root, in a tree of height d + j
height-deep : (b d j v : ℕ) → size b d ≤ v → v < size b (suc d) → height b (d + j) v ≡ j
height-deep b d zero v lo hi = ap (λ n. height b n v) (add-zero d) ∙ height-out b d v lo
height-deep b d (suc j) v lo hi =
    ap (λ n. height b n v) (add-suc d j)
    ∙ height-in b (d + j) v (omega (arith, size-le b (suc d) (suc (d + j)) (omega arith)))
    ∙ ap suc (height-deep b d j v lo hi)

-- the nodes from S_(L−k) on, up to S_(L−k+1), have height k
pub height-at : (b L k v : ℕ) → k ≤ L → size b (L - k) ≤ v → v < size b (suc (L - k)) → height b L v ≡ k
height-at b L k v h lo hi =
    let e : L ≡ (L - k) + k = omega arith in
    ap (λ n. height b n v) e ∙ height-deep b (L - k) k v lo hi

pub height-le : (b l v : ℕ) → height b l v ≤ l
height-le b zero v = omega arith
height-le b (suc l) v = by (ltb v (size b (suc l))) (height-le b l v)
  where
    by : (c : Bool) → height b l v ≤ l → cond c (suc (height b l v)) 0 ≤ suc l
    by true h = omega arith
    by false h = omega arith

pub height-root : (b l : ℕ) → height b l 0 ≡ l
height-root b zero = refl
height-root b (suc l) = height-in b l 0 (size-positive b l) ∙ ap suc (height-root b l)

pub height-leaf : (b l v : ℕ) → size b l ≤ v → v < size b (suc l) → height b (suc l) v ≡ 1
height-leaf b l v h k = height-in b l v k ∙ ap suc (height-out b l v h)

-- a child is one lower than its parent
pub height-child : (b l u j : ℕ) → j < b → height b (suc l) (child b u j) ≡ height b l u
height-child b zero u j h = height-out b 1 (child b u j) (child-above b u j 0 (omega arith))
height-child b (suc l) u j h = by (dec_lt u (size b (suc l))) (height-child b l u j h)
  where
    by : Dec (u < size b (suc l)) → height b (suc l) (child b u j) ≡ height b l u → height b (suc (suc l)) (child b u j) ≡ height b (suc l) u
    by (yes k) ih = height-in b (suc l) (child b u j) (child-below b u j (suc l) h k) ∙ ap suc ih ∙ sym (height-in b l u k)
    by (no k) ih = height-out b (suc (suc l)) (child b u j) (child-above b u j (suc l) (omega arith)) ∙ sym (height-out b (suc l) u (omega arith))

pub height-positive : (b l v : ℕ) → v < size b l → 1 ≤ height b l v
height-positive b zero v h = absurd (omega arith)
height-positive b (suc l) v h = omega (arith, height-in b l v h)

-- two less than the height of a parent u
abbrev pub under : ℕ → ℕ → ℕ → ℕ
under b l u = height b l u - 1

pub record Levels (b l u : ℕ) : Type 0 where
  pub own : height b (suc l) u ≡ suc (suc (under b l u))
  pub kids : (j : ℕ) → j < b → height b (suc l) (child b u j) ≡ suc (under b l u)
  pub deep : suc (suc (under b l u)) ≤ suc l

pub levels : (b l u : ℕ) → u < size b l → Levels b l u
levels b l u h =
    let e : height b l u ≡ suc (under b l u) = omega (arith, height-positive b l u h) in
    record { own = height-in b l u (omega arith) ∙ ap suc e; kids = λ j g. height-child b l u j g ∙ e; deep = omega (arith, height-le b l u) }

pub inner : (b l u : ℕ) → u < size b (suc l - 1) → u < size b l
inner b l u h = let e : suc l - 1 ≡ l = omega arith in subst (λ (n : ℕ). u < size b n) e h

outer : (b l u : ℕ) → size b (suc l - 1) ≤ u → size b l ≤ u
outer b l u h = let e : suc l - 1 ≡ l = omega arith in subst (λ (n : ℕ). size b n ≤ u) e h

pub heights : (b L : ℕ) → Heights b L (height b L)
heights b zero = record { leaf = λ v h. absurd (omega (arith, h.1)); parent = λ u j h g. absurd (omega (arith, h)) }
heights b (suc l) = record {
  leaf = λ v h. height-leaf b l v (outer b l v h.0) h.1;
  parent = λ u j h g. (levels b l u (inner b l u h)).own ∙ ap suc (sym ((levels b l u (inner b l u h)).kids j g));
}

-- the first k from 1 on with S_(L−k) ≤ v is the height of v
pub first-level : (b L v : ℕ) (r : Option ℕ) → v < size b L → First 1 L (λ k. size b (L - k) ≤ v) (λ k. v < size b (L - k)) r → r ≡ Some (height b L v)
first-level b L v None h m = grind (arith, m L, size b)
first-level b L v (Some k) h m = grind (arith, height-at b L k v, m.3 (k - 1), size-le b L (suc (L - k)), size-le b (L - (k - 1)) (suc (L - k)))

pub level-height : (b L k v : ℕ) → Level b L k v → height b L v ≡ k
level-height b L k v o = height-at b L k v o.high o.from o.upto

pub level-node : (b L k v : ℕ) → Level b L k v → v < size b L
level-node b L k v o = omega (arith, o.upto, size-le b (suc (L - k)) L (omega (arith, o.low, o.high)))

pub child-level : (b L k u j : ℕ) → 1 ≤ k → j < b → Level b L (suc k) u → Level b L k (child b u j)
child-level b L k u j one g o =
    let e : suc (L - suc k) ≡ L - k = omega (arith, o.high) in
    record {
      low = one;
      high = omega (arith, o.high);
      from = subst (λ (n : ℕ). size b n ≤ child b u j) e (child-above b u j (L - suc k) o.from);
      upto = subst (λ (n : ℕ). child b u j < size b (suc n)) e (child-below b u j (suc (L - suc k)) g o.upto);
    }

pub parent-level : (b L k v : ℕ) → 1 ≤ b → suc k ≤ L → Level b L k v → Level b L (suc k) (parent b v)
parent-level b L k v one h o =
    let e : L - k ≡ suc (L - suc k) = omega arith in
    let from : size b (suc (L - suc k)) ≤ v = subst (λ (n : ℕ). size b n ≤ v) e o.from in
    let upto : v < size b (suc (suc (L - suc k))) = subst (λ (n : ℕ). v < size b (suc n)) e o.upto in
    record {
      low = omega arith;
      high = h;
      from = le-div (size b (L - suc k)) (v - 1) b one (omega (arith, from, size-next b (L - suc k)));
      upto = div_below (v - 1) b (size b (suc (L - suc k))) one (omega (arith, upto, from, size-next b (L - suc k), size-next b (suc (L - suc k))));
    }

-- every node is on the level of its height
pub node-level : (b L v : ℕ) → v < size b L → Level b L (height b L v) v
node-level b L v h = go L (omega arith) h
  where
    up : (l : ℕ) → suc l ≤ L → size b l ≤ v → v < size b (suc l) → Level b L (L - l) v
    up l q lo hi =
        let e : l ≡ L - (L - l) = omega arith in
        record { low = omega arith; high = omega arith; from = subst (λ (n : ℕ). size b n ≤ v) e lo; upto = subst (λ (n : ℕ). v < size b (suc n)) e hi }

    go : (l : ℕ) → l ≤ L → v < size b l → Level b L (height b L v) v
    go zero q hi = absurd (omega arith)
    go (suc l) q hi = by (dec_lt v (size b l)) (λ k. go l (omega arith) k)
      where
        by : Dec (v < size b l) → (v < size b l → Level b L (height b L v) v) → Level b L (height b L v) v
        by (yes k) again = again k
        by (no k) again =
            let o = up l q (omega arith) hi in
            subst (λ (n : ℕ). Level b L n v) (sym (level-height b L (L - l) v o)) o
