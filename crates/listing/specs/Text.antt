-- The text of a listing as it is made.
use Rattle.std.specs.Prelude.{◌≡◌, ℕ, ◌<◌, List, ◌++◌, Ok, Err, Result}
use Rattle.std.specs.List.{range_with_len, flat_map}
use Rattle.algebra.specs.Row.{Row}
use Rattle.listing_lines.specs.Lines.{node_line}

-- The lines of nodes 0 … n − 1, whose rows a table gives as numerators over d.
abbrev pub node_lines : (ℕ → Row) → ℕ → ℕ → List ℕ
node_lines rows d n = flat_map (λ v. node_line v (rows v) d) (range_with_len 0 n)

-- All n pieces are added, or, where memory runs out, the first few of them.
abbrev pub GrowsBy : {A E : Type 0} → List ℕ → (ℕ → List ℕ) → ℕ → Result A E → List ℕ → Type 0
GrowsBy before pieces n (Ok _) after = after ≡ before ++ pieces n
GrowsBy before pieces n (Err _) after = (m : ℕ) × (m < n) × (after ≡ before ++ pieces m)
