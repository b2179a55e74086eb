-- The upward pass, one node at a time.
use Rattle.std.proofs.Common.{◌≡◌, ℕ, suc, ◌+◌, ◌-◌, ◌*◌, ◌^◌, ◌<◌, ◌≤◌, List, length, take, drop, set, pos, sym, ap, ◌∙◌, subst, length-take, length-drop, arith}
use borrow.Rule.Slice.PartMut.{put_mid}
use native.Mathlib.Nat.{le_of_dvd}
use Rattle.std.proofs.lemmas.Nat.{mul-le}
use Rattle.algebra.specs.Row.{Row, Within, row_at, ◌⊕◌, ◌⊙◌}
use Rattle.algebra.specs.Sum.{sum_rows}
use Rattle.algebra.proofs.Rows.{rows_ext}
use Rattle.cells.specs.Calls.{carry_limit}
use Rattle.cells.specs.declared.kind.Kind.{Ghosts}
use Rattle.shapes.specs.Denominator.{Denominator, denominator_of}
use Rattle.shapes.specs.Laid.{entry_limit}
use Rattle.shapes.specs.Tree.{size, child, Level}
use Rattle.shapes.proofs.Heights.{level-height, level-node, child-level}
use Rattle.shapes.proofs.Multiples.{rule}
use Rattle.inference.specs.Formulas.{Z_at}
use Rattle.inference.specs.Bounds.{Bounded}
use Rattle.inference.proofs.Magnitudes.{magnitudes}
use Rattle.inference.proofs.Steps.{Z-parent}
use Rattle.solver.specs.declared.counts.Counts.{Counts}
use Rattle.solver.specs.Steps.{Lifts}
use Rattle.solver.specs.Passes.{nodes, above, counted, Z_of, Raised}
use Rattle.solver.proofs.Parts.{row_of-part, row_in-part, written}

-- children come after their parent
child-later : (b u j : ℕ) → 1 ≤ b → u < child b u j
child-later b u j one = omega (arith, mul-le 1 u b u one (omega arith))

module _ {K : Type 0} {kind : Ghosts K} (c : Counts K kind) where
  abbrev b : ℕ
  b = c.shape.fanout

  abbrev L : ℕ
  L = c.shape.height

  pub law : Denominator b L (denominator_of b L)
  law = rule b L c.shape.shapely

  -- counts within the entry limit keep the passes within the carry limit
  pub bounded : Bounded kind.width b L (denominator_of b L) carry_limit (counted c)
  bounded =
      magnitudes kind.width b L (denominator_of b L) (entry_limit b L) carry_limit (counted c) (omega (arith, c.shape.shapely.0)) c.shape.shapely.3
      (λ k one l. le_of_dvd law.low (law.lcm.each k one l)) c.small (omega (arith, law.high))

  pub Z-level : (k v : ℕ) → Level b L k v → Z_of c v ≡ Z_at kind.width b (counted c) k v
  Z-level k v o = ap (λ (n : ℕ). Z_at kind.width b (counted c) n v) (level-height b L k v o)

  pub kids-inside : (k u : ℕ) → 1 ≤ k → Level b L (suc k) u → b * u + 1 + b ≤ nodes c
  kids-inside k u one o = omega (arith, level-node b L k (child b u (b - 1)) (child-level b L k u (b - 1) one (omega (arith, c.shape.shapely.0)) o), c.shape.shapely.0)

  -- a node of height k + 1, between the two numbers that `level` answers
  pub level-at : (k x y v : ℕ) → suc k ≤ L → x ≡ above c (suc k) → y ≡ above c k → x ≤ v → v < y → Level b L (suc k) v
  level-at k x y v h ex ey lo hi =
      let e : L - k ≡ suc (L - suc k) = omega arith in
      record { low = omega arith; high = h; from = omega (arith, ex); upto = omega (arith, ey, ap (size b) e) }

  -- Z at the leaves, once they are copied
  pub leaves_raised : (first n : ℕ) (work copied : List K) → first ≡ above c 1 → n ≡ above c 0 → nodes c ≤ length work
      → copied ≡ take (n - first) (drop first c.cells.now) → Raised c (above c 1) (put_mid first (n - first) work copied)
  leaves_raised first n work copied ef en room e v lo hi =
      let whole = c.whole in
      let all : L - 0 ≡ L = omega arith in
      let o : Level b L 1 v = level-at 0 first n v c.shape.shapely.2 ef en (omega arith) (omega (arith, en, ap (size b) all)) in
      let end : n ≤ nodes c = omega (arith, en, ap (size b) all) in
      let q : first + (v - first) ≡ v = omega arith in
      let long : length copied ≡ n - first = omega (arith, ap length e, length-take (n - first) (drop first c.cells.now), length-drop first c.cells.now) in
      subst (λ (m : ℕ). row_at kind.row (put_mid first (n - first) work copied) m ≡ counted c m) q
      (row_in-part kind.row work copied first (n - first) (v - first) (omega (arith, en, ap (size b) all)) (omega arith)
      ∙ ap (λ (xs : List K). row_at kind.row xs (v - first)) e
      ∙ row_of-part kind.row c.cells.now first (n - first) (v - first) (omega (arith, en, ap (size b) all)) (omega arith))
      ∙ sym (Z-level 1 v o)

  module _ (cells : List K) (k u : ℕ) (one : 1 ≤ k) (o : Level b L (suc k) u) (room : nodes c ≤ length cells) (raised : Raised c (suc u) cells) where
    abbrev kids : List K
    kids = take (b * u + 1 + b - (b * u + 1)) (drop (b * u + 1) cells)

    kids-stand : (m : ℕ) → m ≤ b → sum_rows kind.width m (row_at kind.row kids) ≡ sum_rows kind.width m (λ j. Z_at kind.width b (counted c) k (child b u j))
    kids-stand m h = rows_ext kind.width m (row_at kind.row kids) (λ j. Z_at kind.width b (counted c) k (child b u j))
        (λ j g.
        let l : Level b L k (child b u j) = child-level b L k u j one (omega arith) o in
        let i = kids-inside k u one o in
        row_of-part kind.row cells (b * u + 1) (b * u + 1 + b - (b * u + 1)) j (omega arith) (omega arith)
        ∙ raised (child b u j) (child-later b u j (omega (arith, c.shape.shapely.0))) (level-node b L k (child b u j) l) ∙ Z-level k (child b u j) l)

    pub kids-within : (m : ℕ) → m ≤ b → Within carry_limit (sum_rows kind.width m (row_at kind.row kids))
    kids-within m h = subst (Within carry_limit) (sym (kids-stand m h)) (bounded.kids k u m one o h)

    module _ (p : ℕ) (own sum : Row) (ep : p ≡ b ^ k) (eo : own ≡ counted c u) (es : sum ≡ sum_rows kind.width b (row_at kind.row kids)) where
      -- what is lifted at u is Z
      pub lifted-is : pos p ⊙ own ⊕ sum ≡ Z_of c u
      lifted-is =
          (λ i. pos (ep i) ⊙ eo i ⊕ (es ∙ kids-stand b (omega arith)) i)
          ∙ sym (Z-parent kind.width b (counted c) k u one) ∙ sym (Z-level (suc k) u o)

      pub lifts : Lifts carry_limit p own sum
      lifts = record {
        times =
            let q : suc k - 1 ≡ k = omega arith in
            subst (Within carry_limit) (λ i. pos ((ap (λ (n : ℕ). b ^ n) q ∙ sym ep) i) ⊙ sym eo i) (bounded.own (suc k) u o);
        both = subst (Within carry_limit) (sym (lifted-is ∙ Z-level (suc k) u o)) (bounded.upward (suc k) u o);
      }

      pub raised-more : (x : K) → kind.row x ≡ pos p ⊙ own ⊕ sum → Raised c u (set cells u x)
      raised-more x e v lo hi =
          written kind.row (Z_of c) (λ n. (u ≤ n) × (n < nodes c)) cells u x (omega (arith, level-node b L (suc k) u o)) (e ∙ lifted-is)
          (λ n h ne. raised n (omega (arith, h.0)) h.1) v (lo, hi)
