-- No number that the two passes work out is larger than M, up to its sign.
use Rattle.std.specs.Prelude.{ℕ, suc, ◌-◌, ◌*◌, ◌/◌, ◌^◌, ◌≤◌, pos}
use Rattle.algebra.specs.Row.{Within, ◌⊖◌, ◌⊙◌}
use Rattle.algebra.specs.Sum.{sum_rows}
use Rattle.shapes.specs.Tree.{size, child, Node, Level}
use Rattle.inference.specs.Table.{Table, over_children}
use Rattle.inference.specs.Formulas.{Z_at, share, C_at, X_at}

pub record Bounded (w b L D M : ℕ) (t : Table) : Type 0 where
  -- at a node v of height k
  pub own : (k v : ℕ) → Level b L k v → Within M (pos (b ^ (k - 1)) ⊙ t v)
  pub given : (k v : ℕ) → Level b L k v → Within M (pos (size b k) ⊙ t v)
  pub upward : (k v : ℕ) → Level b L k v → Within M (Z_at w b t k v)
  pub carried : (k v : ℕ) → Level b L k v → Within M (C_at w b L D t (L - k) v)
  pub near : (k v : ℕ) → Level b L k v → Within M (pos (D / size b k) ⊙ Z_at w b t k v)
  pub far : (k v : ℕ) → Level b L k v → Within M (pos (b ^ (k - 1)) ⊙ C_at w b L D t (L - k) v)
  pub result : (k v : ℕ) → Level b L k v → Within M (X_at w b L D t k v)
  -- at a parent u with children of height k; i of them are summed
  pub kids : (k u i : ℕ) → 1 ≤ k → Level b L (suc k) u → i ≤ b → Within M (sum_rows w i (λ j. Z_at w b t k (child b u j)))
  pub rest : (k u : ℕ) → 1 ≤ k → Level b L (suc k) u → Within M (pos (size b k) ⊙ t u ⊖ over_children w b (Z_at w b t k) u)
  pub handed : (k u : ℕ) → 1 ≤ k → Level b L (suc k) u → Within M (share w b D t k u)

-- Counts within T, on a tree of height at most 10 with a D that is no smaller than its sizes, keep all within 65 × D × T.
abbrev pub Magnitudes : Type 0
Magnitudes = (w b L D T M : ℕ) (t : Table) → 1 ≤ b → L ≤ 10 → ((k : ℕ) → 1 ≤ k → k ≤ L → size b k ≤ D)
    → ((v : ℕ) → Node b L v → Within T (t v)) → 65 * (D * T) ≤ M → Bounded w b L D M t
