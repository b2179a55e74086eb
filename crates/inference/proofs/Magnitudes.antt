-- How large the numbers of the two passes get: with every count within T, nothing exceeds 64 × D × T on a tree of height at most 10.
use Rattle.std.proofs.Common.{◌≡◌, ℕ, zero, suc, ◌+◌, ◌-◌, ◌*◌, ◌/◌, ◌^◌, ◌<◌, ◌≤◌, pos, nat_abs, sym, ap, subst, mul-le-mul_left, arith}
use native.Mathlib.Nat.{pow-zero, pow-succ', one-le-pow, div-mul-le_self}
use Rattle.std.proofs.lemmas.Nat.{mul-le}
use Rattle.algebra.specs.Row.{Row, part, Within, ◌⊕◌, ◌⊖◌, ◌⊙◌}
use Rattle.algebra.specs.Sum.{sum_rows}
use Rattle.algebra.proofs.Limits.{within_more, within-add, within-sub, within-times, within-rows, within-zeros, add-size, times-size}
use Rattle.shapes.specs.Tree.{size, child, parent, Level}
use Rattle.shapes.proofs.Heights.{level-node, child-level, parent-level}
use Rattle.inference.specs.Table.{Table, over_children}
use Rattle.inference.specs.Formulas.{Z_at, share, C_at, X_at}
use Rattle.inference.specs.Bounds.{Bounded, Magnitudes}

-- L + (L − 1) + …, d numbers
abbrev steps : ℕ → ℕ → ℕ
steps L zero = 0
steps L (suc d) = steps L d + (L - d)

steps-taller : (L M d : ℕ) → L ≤ M → steps L d ≤ steps M d
steps-taller L M zero h = omega arith
steps-taller L M (suc d) h = omega (arith, steps-taller L M d h)

steps-deeper : (L d i : ℕ) → steps L d ≤ steps L (i + d)
steps-deeper L d zero = let e : 0 + d ≡ d = omega arith in subst (λ (n : ℕ). steps L d ≤ steps L n) (sym e) (omega arith)
steps-deeper L d (suc i) = let e : suc i + d ≡ suc (i + d) = omega arith in subst (λ (n : ℕ). steps L d ≤ steps L n) (sym e) (omega (arith, steps-deeper L d i))

-- 10 + 9 + … + 2
steps-most : (L d : ℕ) → L ≤ 10 → suc d ≤ L → steps L d ≤ 54
steps-most L d h l =
    let e : (9 - d) + d ≡ 9 = omega arith in
    omega (arith, steps-taller L 10 d h, subst (λ (n : ℕ). steps 10 d ≤ steps 10 n) e (steps-deeper 10 d (9 - d)))

-- p × n is at most k × D × T, where n is a component of what a node of height k hands down
share-most : (p q s s' r m D T n e : ℕ) → p ≤ s → s ≤ s' → r ≤ s' → q * (s * s') ≤ D → n ≤ q * e → e ≤ (s + m * r) * T → p * n ≤ suc m * (D * T)
share-most p q s s' r m D T n e ps ss rs qd nq es =
    let a : s + m * r ≤ suc m * s' = omega (arith, mul-le-mul_left m rs) in
    let c = mul-le p (s + m * r) s (suc m * s') ps a in
    let f = mul-le-mul_left q c in
    let k = mul-le-mul_left (suc m) qd in
    let x = mul-le-mul_left p nq in
    let y = mul-le-mul_left (p * q) es in
    let z : p * q * (s + m * r) ≤ suc m * D = omega (arith, f, k) in
    omega (arith, x, y, mul-le (p * q * (s + m * r)) T (suc m * D) T z (omega arith))

module _ (w b L D T : ℕ) (t : Table) (hb : 1 ≤ b) (tall : L ≤ 10) (over : (k : ℕ) → 1 ≤ k → k ≤ L → size b k ≤ D) (small : (v : ℕ) → v < size b L → Within T (t v)) where
  abbrev room : ℕ
  room = 64 * (D * T)

  -- what is at most 10 × S_k × T is within the room
  fits : (k n : ℕ) (r : Row) → 1 ≤ k → k ≤ L → n ≤ 10 * size b k → Within (n * T) r → Within room r
  fits k n r one l h =
      within_more (n * T) room r
      (omega (arith, mul-le n T (10 * size b k) T h (omega arith), mul-le (10 * size b k) T (10 * D) T (omega (arith, over k one l)) (omega arith)))

  Z-within : (m v : ℕ) → Level b L (suc m) v → Within (suc m * b ^ m * T) (Z_at w b t (suc m) v)
  Z-within zero v o =
      within_more T (1 * b ^ 0 * T) (t v) (omega (arith, pow-zero b, ap (λ (n : ℕ). 1 * n * T) (pow-zero b))) (small v (level-node b L 1 v o))
  Z-within (suc m) v o =
      let q = pow-succ' b m in
      within_more (b ^ suc m * T + b * (suc m * b ^ m * T)) (suc (suc m) * b ^ suc m * T) (Z_at w b t (suc (suc m)) v)
      (omega (arith, ap (λ (n : ℕ). suc m * n * T) q))
      (within-add (b ^ suc m * T) (b * (suc m * b ^ m * T)) (pos (b ^ suc m) ⊙ t v) (over_children w b (Z_at w b t (suc m)) v)
      (within-times (b ^ suc m) T (t v) (small v (level-node b L (suc (suc m)) v o)))
      (within-rows w (suc m * b ^ m * T) b (λ j. Z_at w b t (suc m) (child b v j)) (λ j g. Z-within m (child b v j) (child-level b L (suc m) v j (omega arith) g o))))

  -- the first i of the children's Z, at a parent u with children of height m + 1
  kids-within : (m u i : ℕ) → Level b L (suc (suc m)) u → i ≤ b → Within (suc m * b ^ suc m * T) (sum_rows w i (λ j. Z_at w b t (suc m) (child b u j)))
  kids-within m u i o h =
      within_more (i * (suc m * b ^ m * T)) (suc m * b ^ suc m * T) (sum_rows w i (λ j. Z_at w b t (suc m) (child b u j)))
      (omega (arith, ap (λ (n : ℕ). suc m * n * T) (pow-succ' b m), mul-le i (suc m * b ^ m * T) b (suc m * b ^ m * T) h (omega arith)))
      (within-rows w (suc m * b ^ m * T) i (λ j. Z_at w b t (suc m) (child b u j)) (λ j g. Z-within m (child b u j) (child-level b L (suc m) u j (omega arith) (omega arith) o)))

  rest-within : (m u : ℕ) → Level b L (suc (suc m)) u → Within ((size b (suc m) + suc m * b ^ suc m) * T) (pos (size b (suc m)) ⊙ t u ⊖ over_children w b (Z_at w b t (suc m)) u)
  rest-within m u o =
      within_more (size b (suc m) * T + suc m * b ^ suc m * T) ((size b (suc m) + suc m * b ^ suc m) * T) _ (omega arith)
      (within-sub (size b (suc m) * T) (suc m * b ^ suc m * T) (pos (size b (suc m)) ⊙ t u) (over_children w b (Z_at w b t (suc m)) u)
      (within-times (size b (suc m)) T (t u) (small u (level-node b L (suc (suc m)) u o)))
      (kids-within m u b o (omega arith)))

  share-size : (m u i : ℕ) → Level b L (suc (suc m)) u → b ^ m * nat_abs (part (share w b D t (suc m) u) i) ≤ suc (suc m) * (D * T)
  share-size m u i o =
      share-most (b ^ m) (D / (size b (suc m) * size b (suc (suc m)))) (size b (suc m)) (size b (suc (suc m))) (b ^ suc m) (suc m) D T _ _
      (omega arith) (omega arith) (omega arith) (div-mul-le_self D (size b (suc m) * size b (suc (suc m))))
      (times-size (D / (size b (suc m) * size b (suc (suc m)))) (pos (size b (suc m)) ⊙ t u ⊖ over_children w b (Z_at w b t (suc m)) u) i)
      (rest-within m u o i)

  -- C at a node of height m + 1, d levels below the root
  carry-size : (d m v i : ℕ) → d + suc m ≡ L → Level b L (suc m) v → b ^ m * nat_abs (part (C_at w b L D t d v) i) ≤ steps L d * (D * T)
  carry-size zero m v i e o = omega (arith, mul-le-mul_left (b ^ m) (within-zeros w i))
  carry-size (suc d) m v i e o =
      let u = parent b v in
      let p : Level b L (suc (suc m)) u = parent-level b L (suc m) v hb (omega arith) o in
      let h : L - suc d ≡ suc m = omega arith in
      let l : L - d ≡ suc (suc m) = omega arith in
      let c = nat_abs (part (C_at w b L D t d u) i) in
      let a : nat_abs (part (C_at w b L D t (suc d) v) i) ≤ c + nat_abs (part (share w b D t (suc m) u) i) =
      subst (λ (n : ℕ). nat_abs (part (C_at w b L D t d u ⊕ share w b D t n u) i) ≤ c + nat_abs (part (share w b D t (suc m) u) i)) (sym h) (add-size (C_at w b L D t d u) (share w b D t (suc m) u) i) in
      let x = carry-size d (suc m) u i (omega arith) p in
      let y = share-size m u i p in
      let q : b ^ m ≤ b ^ suc m = omega (arith, pow-succ' b m, mul-le 1 (b ^ m) b (b ^ m) hb (omega arith)) in
      omega (arith, mul-le-mul_left (b ^ m) a, x, y, mul-le (b ^ m) c (b ^ suc m) c q (omega arith), ap (λ (n : ℕ). (steps L d + n) * (D * T)) l)

  own-ok : (m v : ℕ) → Level b L (suc m) v → Within room (pos (b ^ m) ⊙ t v)
  own-ok m v o = fits (suc m) (b ^ m) _ (omega arith) o.high (omega arith) (within-times (b ^ m) T (t v) (small v (level-node b L (suc m) v o)))

  -- k × b^(k−1) is at most 10 × S_k
  weight-low : (m : ℕ) → suc m ≤ L → suc m * b ^ m ≤ 10 * size b (suc m)
  weight-low m h = mul-le (suc m) (b ^ m) 10 (size b (suc m)) (omega (arith, tall)) (omega arith)

  Z-ok : (m v : ℕ) → Level b L (suc m) v → Within room (Z_at w b t (suc m) v)
  Z-ok m v o = fits (suc m) (suc m * b ^ m) _ (omega arith) o.high (weight-low m o.high) (Z-within m v o)

  kids-ok : (m u i : ℕ) → Level b L (suc (suc m)) u → i ≤ b → Within room (sum_rows w i (λ j. Z_at w b t (suc m) (child b u j)))
  kids-ok m u i o h =
      fits (suc (suc m)) (suc m * b ^ suc m) _ (omega arith) o.high
      (omega (arith, weight-low (suc m) o.high)) (kids-within m u i o h)

  given-ok : (m v : ℕ) → Level b L (suc m) v → Within room (pos (size b (suc m)) ⊙ t v)
  given-ok m v o = fits (suc m) (size b (suc m)) _ (omega arith) o.high (omega arith) (within-times (size b (suc m)) T (t v) (small v (level-node b L (suc m) v o)))

  rest_ok : (m u : ℕ) → Level b L (suc (suc m)) u → Within room (pos (size b (suc m)) ⊙ t u ⊖ over_children w b (Z_at w b t (suc m)) u)
  rest_ok m u o =
      fits (suc (suc m)) (size b (suc m) + suc m * b ^ suc m) _ (omega arith) o.high
      (omega (arith, mul-le (suc m) (b ^ suc m) 9 (size b (suc (suc m))) (omega (arith, o.high, tall)) (omega arith)))
      (rest-within m u o)

  -- what stays within n × D × T even when a power of b multiplies it
  under-power : (m n : ℕ) (r : Row) → n ≤ 64 → ((i : ℕ) → b ^ m * nat_abs (part r i) ≤ n * (D * T)) → Within room r
  under-power m n r h f i = omega (arith, f i, mul-le 1 (nat_abs (part r i)) (b ^ m) (nat_abs (part r i)) (one-le-pow m b hb) (omega arith), mul-le n (D * T) 64 (D * T) h (omega arith))

  share-ok : (m u : ℕ) → Level b L (suc (suc m)) u → Within room (share w b D t (suc m) u)
  share-ok m u o = under-power m (suc (suc m)) _ (omega (arith, o.high, tall)) (λ i. share-size m u i o)

  depth-steps : (m : ℕ) → suc m ≤ L → steps L (L - suc m) ≤ 54
  depth-steps m h = steps-most L (L - suc m) tall (omega arith)

  carry-ok : (m v : ℕ) → Level b L (suc m) v → Within room (C_at w b L D t (L - suc m) v)
  carry-ok m v o = under-power m (steps L (L - suc m)) _ (omega (arith, depth-steps m o.high)) (λ i. carry-size (L - suc m) m v i (omega (arith, o.high)) o)

  near_within : (m v : ℕ) → Level b L (suc m) v → Within (10 * (D * T)) (pos (D / size b (suc m)) ⊙ Z_at w b t (suc m) v)
  near_within m v o i =
      let q = D / size b (suc m) in
      let y = mul-le-mul_left q (Z-within m v o i) in
      let x : q * b ^ m ≤ D = omega (arith, div-mul-le_self D (size b (suc m)), mul-le q (b ^ m) q (size b (suc m)) (omega arith) (omega arith)) in
      let z = mul-le (q * b ^ m) (suc m) D 10 x (omega (arith, o.high, tall)) in
      omega (arith, times-size q (Z_at w b t (suc m) v) i, y, mul-le (q * b ^ m * suc m) T (D * 10) T z (omega arith))

  far_within : (m v : ℕ) → Level b L (suc m) v → Within (54 * (D * T)) (pos (b ^ m) ⊙ C_at w b L D t (L - suc m) v)
  far_within m v o i =
      omega (arith, times-size (b ^ m) (C_at w b L D t (L - suc m) v) i, carry-size (L - suc m) m v i (omega (arith, o.high)) o, mul-le (steps L (L - suc m)) (D * T) 54 (D * T) (depth-steps m o.high) (omega arith))

  both-within : (m v : ℕ) → Level b L (suc m) v → Within room ((pos (D / size b (suc m)) ⊙ Z_at w b t (suc m) v) ⊕ (pos (b ^ m) ⊙ C_at w b L D t (L - suc m) v))
  both-within m v o =
      within_more (10 * (D * T) + 54 * (D * T)) room _ (omega arith)
      (within-add (10 * (D * T)) (54 * (D * T)) (pos (D / size b (suc m)) ⊙ Z_at w b t (suc m) v) (pos (b ^ m) ⊙ C_at w b L D t (L - suc m) v) (near_within m v o) (far_within m v o))

  -- a fact about the level of height m + 1, at a height k that is written without a suc
  at-height : (P : ℕ → ℕ → Row) (k v : ℕ) → ((m : ℕ) → Level b L (suc m) v → Within room (P (suc m) v)) → Level b L k v → Within room (P k v)
  at-height P zero v f o = absurd (omega (arith, o.low))
  at-height P (suc m) v f o = f m o

  at_parent : (P : ℕ → Row) (k u : ℕ) → 1 ≤ k → ((m : ℕ) → Level b L (suc (suc m)) u → Within room (P (suc m))) → Level b L (suc k) u → Within room (P k)
  at_parent P zero u one f o = absurd (omega arith)
  at_parent P (suc m) u one f o = f m o

  power_at : (m : ℕ) → suc m - 1 ≡ m
  power_at m = omega arith

  bounded-room : Bounded w b L D room t
  bounded-room = record {
    own = λ k v. at-height (λ n u. pos (b ^ (n - 1)) ⊙ t u) k v (λ m o. subst (λ (n : ℕ). Within room (pos (b ^ n) ⊙ t v)) (sym (power_at m)) (own-ok m v o));
    given = λ k v. at-height (λ n u. pos (size b n) ⊙ t u) k v (λ m. given-ok m v);
    upward = λ k v. at-height (Z_at w b t) k v (λ m. Z-ok m v);
    carried = λ k v. at-height (λ n. C_at w b L D t (L - n)) k v (λ m. carry-ok m v);
    near = λ k v. at-height (λ n u. pos (D / size b n) ⊙ Z_at w b t n u) k v (λ m o. within_more (10 * (D * T)) room _ (omega arith) (near_within m v o));
    far = λ k v. at-height (λ n u. pos (b ^ (n - 1)) ⊙ C_at w b L D t (L - n) u) k v
        (λ m o. subst (λ (n : ℕ). Within room (pos (b ^ n) ⊙ C_at w b L D t (L - suc m) v)) (sym (power_at m)) (within_more (54 * (D * T)) room _ (omega arith) (far_within m v o)));
    result = λ k v. at-height (X_at w b L D t) k v
        (λ m o. subst (λ (n : ℕ). Within room ((pos (D / size b (suc m)) ⊙ Z_at w b t (suc m) v) ⊕ (pos (b ^ n) ⊙ C_at w b L D t (L - suc m) v))) (sym (power_at m)) (both-within m v o));
    kids = λ k u i one o h. at_parent (λ n. sum_rows w i (λ j. Z_at w b t n (child b u j))) k u one (λ m p. kids-ok m u i p h) o;
    rest = λ k u one. at_parent (λ n. pos (size b n) ⊙ t u ⊖ over_children w b (Z_at w b t n) u) k u one (λ m. rest_ok m u);
    handed = λ k u one. at_parent (λ n. share w b D t n u) k u one (λ m. share-ok m u);
  }

pub bounded-more : (w b L D M N : ℕ) (t : Table) → M ≤ N → Bounded w b L D M t → Bounded w b L D N t
bounded-more w b L D M N t h B = record {
  own = λ k v o. within_more M N _ h (B.own k v o);
  given = λ k v o. within_more M N _ h (B.given k v o);
  upward = λ k v o. within_more M N _ h (B.upward k v o);
  carried = λ k v o. within_more M N _ h (B.carried k v o);
  near = λ k v o. within_more M N _ h (B.near k v o);
  far = λ k v o. within_more M N _ h (B.far k v o);
  result = λ k v o. within_more M N _ h (B.result k v o);
  kids = λ k u i one o g. within_more M N _ h (B.kids k u i one o g);
  rest = λ k u one o. within_more M N _ h (B.rest k u one o);
  handed = λ k u one o. within_more M N _ h (B.handed k u one o);
}

pub magnitudes : Magnitudes
magnitudes w b L D T M t hb tall over small h = bounded-more w b L D (64 * (D * T)) M t (omega arith) (bounded-room w b L D T t hb tall over small)
