-- What a laid sheet has, and the counts of its nodes.
use Rattle.std.proofs.Common.{◌≡◌, ℕ, ◌+◌, ◌<◌, ◌≤◌, true, false, List, ◌∷◌, map, length, get_or, drop, is_some, Some, None, Option, sym, refl, ap, ◌∙◌, add-one, arith}
use Rattle.std.specs.List.{range_with_len}
use Rattle.std.proofs.lemmas.List.FromFn.{get_or-map-range_with_len, length-map-range_with_len}
use Rattle.std.proofs.lemmas.List.{at_drop_more, at_drop_all}
use Rattle.std.proofs.lemmas.Bool.{true≢false, false≢true}
use Rattle.algebra.specs.Row.{Row, row_at, Within}
use Rattle.algebra.proofs.Limits.{none_within}
use Rattle.denial.specs.Rules.{first}
use Rattle.formats.specs.NoisyTable.{load_into_rules, load_rules as table_rules}
use Rattle.formats.proofs.Loads.{room-enough}
use Rattle.history.specs.Contents.{rooms, laid, facts, count_at, counts_in}
use Rattle.history.specs.Facts.{Form, nodes, limit, fanout_of, height_of}
use Rattle.history.specs.Refusals.{laid_rules, load_rules, empty_from}
use Rattle.history.proofs.Counts.{count-row, none-empty}
use Rattle.history.proofs.Shaped.{laid-roomy, room-parts}
use Rattle.history.proofs.Tables.{back}
use Rattle.tree_sheet.specs.Held.{contents}
use Rattle.tree_sheet.specs.Passes.{Ready, Roomy}
use Rattle.tree_sheet.specs.declared.sheet.Sheet.{Sheet}

-- a laid sheet has room for its nodes
pub roomy-laid : {K : Type 0} (s : Sheet K) (f : Form) → laid (contents s) ≡ Some f → Roomy (nodes f) s
roomy-laid s f e =
    let r = room-parts (nodes f) (rooms (contents s)) (laid-roomy s.state (rooms (contents s)) f e) in
    record { noisy = r.0; marks = r.1; numerators = r.2; work = r.3 }

module _ {K : Type 0} (row : K → Row) (s : Sheet K) (f : Form) (e : laid (contents s) ≡ Some f) where
  -- the count at a node, in the list of counts
  pub count-in : (v : ℕ) → v < nodes f → get_or (facts row (contents s)).counts v None ≡ count_at row (limit f) (contents s) v
  count-in v h =
      ap (λ o. get_or (counts_in row o (contents s)) v None) e
      ∙ get_or-map-range_with_len (count_at row (limit f) (contents s)) 0 (nodes f) v v None h (omega arith)

-- the scan for the first empty node
module _ (f : ℕ → Option Row) (n i : ℕ) where
  more : i < n → empty_from i (drop i (map f (range_with_len 0 n))) ≡ empty_from i (f i ∷ drop (i + 1) (map f (range_with_len 0 n)))
  more h =
      at_drop_more (empty_from i) (map f (range_with_len 0 n)) i None (omega (arith, length-map-range_with_len f 0 n))
      ∙ ap (λ o. empty_from i (o ∷ drop (i + 1) (map f (range_with_len 0 n)))) (get_or-map-range_with_len f 0 n i i None h (omega arith))

  pub empty-on : i < n → is_some (f i) ≡ true → empty_from i (drop i (map f (range_with_len 0 n))) ≡ empty_from (i + 1) (drop (i + 1) (map f (range_with_len 0 n)))
  empty-on h e = more h ∙ by (f i) e
    where
      by : (o : Option Row) → is_some o ≡ true → empty_from i (o ∷ drop (i + 1) (map f (range_with_len 0 n))) ≡ empty_from (i + 1) (drop (i + 1) (map f (range_with_len 0 n)))
      by None e = absurd (false≢true e)
      by (Some r) e = ap (λ m. empty_from m (drop (i + 1) (map f (range_with_len 0 n)))) (sym (add-one i))

  pub empty-hit : i < n → is_some (f i) ≡ false → empty_from i (drop i (map f (range_with_len 0 n))) ≡ Some i
  empty-hit h e = more h ∙ by (f i) e
    where
      by : (o : Option Row) → is_some o ≡ false → empty_from i (o ∷ drop (i + 1) (map f (range_with_len 0 n))) ≡ Some i
      by None e = refl
      by (Some r) e = absurd (true≢false e)

  pub empty-end : n ≤ i → empty_from i (drop i (map f (range_with_len 0 n))) ≡ None
  empty-end h = at_drop_all (empty_from i) (map f (range_with_len 0 n)) i (omega (arith, length-map-range_with_len f 0 n))

-- the refusals of a load on a laid sheet
module _ {K : Type 0} (row : K → Row) (s : Sheet K) (f : Form) (e : laid (contents s) ≡ Some f) (passed : first (laid_rules (facts row (contents s))) ≡ None) where
  pub load-rules : (k w : ℕ) (table : List ℕ) → first (load_rules k w (facts row (contents s)) table) ≡ first (load_into_rules k w f.fanout f.height (length s.noisy.now) table)
  load-rules k w table =
      back (laid_rules (facts row (contents s))) (table_rules k w (fanout_of (laid (contents s))) (height_of (laid (contents s))) table) passed
      ∙ ap (λ o. first (table_rules k w (fanout_of o) (height_of o) table)) e
      ∙ sym (room-enough k w f.fanout f.height (length s.noisy.now) table (roomy-laid s f e).noisy)

-- where no node is empty, each cell is within the limit
pub counts-within : {K : Type 0} (row : K → Row) (s : Sheet K) (f : Form) → empty_from 0 (map (count_at row (limit f) (contents s)) (range_with_len 0 (nodes f))) ≡ None
    → (v : ℕ) → v < nodes f → Within (limit f) (row_at row s.noisy.now v)
counts-within row s f e v h = go (count_at row (limit f) (contents s) v) refl (none-empty (count_at row (limit f) (contents s)) 0 (nodes f) e v (omega arith) (omega arith))
  where
    go : (o : Option Row) → count_at row (limit f) (contents s) v ≡ o → is_some o ≡ true → Within (limit f) (row_at row s.noisy.now v)
    go None p z = absurd (false≢true z)
    go (Some r) p z = none_within (limit f) (row_at row s.noisy.now v) (count-row row (limit f) (contents s) v r p).1

pub ready : {K : Type 0} (row : K → Row) (s : Sheet K) (f : Form) → laid (contents s) ≡ Some f → empty_from 0 (map (count_at row (limit f) (contents s)) (range_with_len 0 (nodes f))) ≡ None → Ready row f s
ready row s f e none = record { roomy = roomy-laid s f e; counts = counts-within row s f none }
