-- A sheet that holds what a history leaves holds, after a call, what the history with that call leaves.
use Rattle.std.proofs.Common.{◌≡◌, ℕ, ◌<◌, ◌≤◌, Bool, true, false, cond, eqb, List, [], ◌∷◌, ◌++◌, length, drop, replicate, is_some, Some, None, Option, unwrap_or, sym, refl, ap, ◌∙◌, subst, arith}
use Rattle.std.proofs.lemmas.Grind.{common_steps}
use Rattle.std.proofs.lemmas.List.{length-set}
use Rattle.std.proofs.lemmas.Bool.{leb-false, ltb-false, false≢true}
use Rattle.algebra.specs.Row.{Row, row_at, beyond, Within}
use Rattle.denial.specs.Rules.{first}
use Rattle.shapes.specs.Tree.{size}
use Rattle.shapes.specs.Laid.{shape_rules, entry_limit}
use Rattle.inference.proofs.Agree.{X-agree}
use Rattle.formats.specs.NoisyTable.{table_row, body_of, head_rules, match_rules, body_rules, load_rules as table_rules}
use Rattle.formats.proofs.Tables.{body-within}
use Rattle.history.specs.Contents.{Contents, rooms, laid, laid_in, fitted, is_released, count_at, counts_in, facts}
use Rattle.history.specs.Effects.{Laid, Entered, Struck, Loaded, Freed, denominator, solution}
use Rattle.history.specs.Events.{Asked, lay, enter, enter_wire, strike, load, release, read, publish, Event, event, shape_after, standing, standing_rows, released_after, counts_after, facts_after, Represents}
use Rattle.history.specs.Facts.{Facts, Form, Rooms, nodes, limit, roomy, nodes_of, wires_of, wire_node, limit_of, fanout_of, height_of}
use Rattle.history.specs.Refusals.{lay_rules, room_rules, laid_rules, enter_rules, enter_wire_rules, strike_rules, load_rules, release_rules, empty_from}
use Rattle.history.specs.States.{next}
use Rattle.history.specs.declared.state.Action.TheVariants.{Change}
use Rattle.history.specs.declared.state.State.TheVariants.{Unlaid}
use Rattle.history.proofs.Tables.{none_passed, none-front, none-back}
use Rattle.history.proofs.Shaped.{some_of, none_of, never-some, fitted-so, laid-roomy, room-parts, room-so, wire-below, laid-shapely, laid-change, open-change, laid-release, open-release, next-lay, same-rooms}
use Rattle.history.proofs.Counts.{same_count, count-entered, count-struck, count-laid, count-loaded, count-row, counts_same, none-empty}

-- a new sheet
pub new-represents : {K : Type 0} (row : K → Row) (w : ℕ) (c : Contents K) → c.state ≡ Unlaid → Represents row w [] c
new-represents row w c e = record {
  shape = ap (λ st. laid_in st (rooms c)) e;
  counts = λ f q v h. never-some q;
  released = ap is_released e;
  full = λ f q z v h. never-some q;
  table = λ f q z v h. never-some q;
}

-- the facts of a sheet are those of its history
facts-of : Option Form → List (Option Row) → Bool → Rooms → Facts
facts-of s c b r = record { shape = s; counts = c; released = b; rooms = r }

module _ {K : Type 0} (row : K → Row) (w : ℕ) (h : List Event) (c : Contents K) (p : Represents row w h c) where
  counts-agree : (o : Option Form) → shape_after h ≡ o → counts_in row o c ≡ counts_after w h o
  counts-agree None e = refl
  counts-agree (Some f) e = counts_same (count_at row (limit f) c) (standing w h) 0 (nodes f) (λ v l. p.counts f e v (omega arith))

  pub facts-agree : facts row c ≡ facts_after w (rooms c) h
  unfolding facts-of
  facts-agree =
      ap (λ s. facts-of s (counts_in row s c) (is_released c.state) (rooms c)) p.shape
      ∙ (λ i. facts-of (shape_after h) (counts-agree (shape_after h) refl i) (p.released i) (rooms c))

-- a denial and a question change nothing
pub denied-kept : {K : Type 0} (row : K → Row) (w : ℕ) (h : List Event) (c : Contents K) (a : Asked) → Represents row w h c → Represents row w (event a false ∷ h) c
denied-kept row w h c a p = record { shape = p.shape; counts = p.counts; released = p.released; full = p.full; table = p.table }

pub read_kept : {K : Type 0} (row : K → Row) (w : ℕ) (h : List Event) (c : Contents K) (v : ℕ) → Represents row w h c → Represents row w (event (read v) true ∷ h) c
read_kept row w h c v p = record { shape = p.shape; counts = p.counts; released = p.released; full = p.full; table = p.table }

pub publish-kept : {K : Type 0} (row : K → Row) (w : ℕ) (h : List Event) (c : Contents K) (n : ℕ) → Represents row w h c → Represents row w (event (publish n) true ∷ h) c
publish-kept row w h c n p = record { shape = p.shape; counts = p.counts; released = p.released; full = p.full; table = p.table }

-- the slices stay as long as they are
module _ {K : Type 0} (c c' : Contents K) where
  pub entered-rooms : (v : ℕ) (x : K) → Entered v x c c' → rooms c' ≡ rooms c
  entered-rooms v x d =
      same-rooms c c' (ap length d.noisy ∙ length-set c.noisy v x) (ap length d.marks ∙ length-set c.marks v 1) (ap length d.numerators) (ap length d.work)

  pub struck-rooms : (v : ℕ) → Struck v c c' → rooms c' ≡ rooms c
  struck-rooms v d =
      same-rooms c c' (ap length d.noisy) (ap length d.marks ∙ length-set c.marks v 0) (ap length d.numerators) (ap length d.work)

  front_long : (n m : ℕ) → n ≤ length c.marks → length (replicate n m ++ drop n c.marks) ≡ length c.marks
  front_long n m h = grind (arith, common_steps)

  pub laid-rooms : (f : Form) → Laid f c c' → nodes f ≤ length c.marks → rooms c' ≡ rooms c
  laid-rooms f d h =
      same-rooms c c' (ap length d.noisy) (ap length d.marks ∙ front_long (nodes f) 0 h) (ap length d.numerators) (ap length d.work)

  pub loaded-rooms : (row : K → Row) (w n : ℕ) (table : List ℕ) → Loaded row w n table c c' → n ≤ length c.marks → rooms c' ≡ rooms c
  loaded-rooms row w n table d h =
      same-rooms c c' d.long (ap length d.marks ∙ front_long n 1 h) (ap length d.numerators) (ap length d.work)

  pub freed-rooms : (row : K → Row) (w : ℕ) (f : Form) → Freed row w f c c' → rooms c' ≡ rooms c
  freed-rooms row w f d = same-rooms c c' (ap length d.noisy) (ap length d.marks) d.long d.work.long

module _ {K : Type 0} (row : K → Row) (w : ℕ) (h : List Event) (c c' : Contents K) (p : Represents row w h c) where
  -- the shape and the state after a change of a count
  changed-shape : rooms c' ≡ rooms c → c'.state ≡ next c.state Change → laid c' ≡ shape_after h
  changed-shape r s = (λ i. laid_in (s i) (r i)) ∙ laid-change c.state (rooms c) ∙ p.shape

  changed-open : c'.state ≡ next c.state Change → is_released c'.state ≡ false
  changed-open s = ap is_released s ∙ open-change c.state

  room_at : (f : Form) → shape_after h ≡ Some f → (nodes f ≤ length c.noisy) × (nodes f ≤ length c.marks) × (nodes f ≤ length c.numerators) × (nodes f ≤ length c.work)
  room_at f q = room-parts (nodes f) (rooms c) (laid-roomy c.state (rooms c) f (p.shape ∙ q))

  -- a count is entered at u
  entered-counts : (u : ℕ) (x : K) → Entered u x c c' → u < nodes_of (shape_after h) → beyond (limit_of (shape_after h)) (row x) ≡ None
      → (f : Form) → shape_after h ≡ Some f → (v : ℕ) → v < nodes f → count_at row (limit f) c' v ≡ cond (eqb u v) (Some (row x)) (standing w h v)
  entered-counts u x d l small f q v lv =
      let m = ap nodes_of q in
      let r = room_at f q in
      count-entered row (limit f) c c' u x d (omega (arith, r.0)) (omega (arith, r.1)) (ap (λ o. beyond (limit_of o) (row x)) (sym q) ∙ small) v
      ∙ ap (λ o. cond (eqb u v) (Some (row x)) o) (p.counts f q v lv)

  pub enter-kept : (u : ℕ) (x : K) → Entered u x c c' → first (enter_rules (facts_after w (rooms c) h) u (row x)) ≡ None → Represents row w (event (enter u (row x)) true ∷ h) c'
  enter-kept u x d e =
      let q = none_passed (enter_rules (facts_after w (rooms c) h) u (row x)) e in
      record {
        shape = changed-shape (entered-rooms c c' u x d) d.state;
        counts = entered-counts u x d (leb-false (nodes_of (shape_after h)) u q.1.0) (none_of _ q.1.1.0);
        released = changed-open d.state;
        full = λ f s z. absurd (false≢true z);
        table = λ f s z. absurd (false≢true z);
      }

  -- the wires are the last nodes
  wire-node : (o : Option Form) (j : ℕ) → shape_after h ≡ o → j < wires_of o → wire_node o j < nodes_of o
  wire-node None j q l = absurd (omega arith)
  wire-node (Some f) j q l = wire-below f.fanout f.height j (laid-shapely c.state (rooms c) f (p.shape ∙ q)).2 l

  pub wire-kept : (j : ℕ) (x : K) → Entered (wire_node (shape_after h) j) x c c' → first (enter_wire_rules (facts_after w (rooms c) h) j (row x)) ≡ None
      → Represents row w (event (enter_wire j (row x)) true ∷ h) c'
  wire-kept j x d e =
      let q = none_passed (enter_wire_rules (facts_after w (rooms c) h) j (row x)) e in
      record {
        shape = changed-shape (entered-rooms c c' (wire_node (shape_after h) j) x d) d.state;
        counts = entered-counts (wire_node (shape_after h) j) x d (wire-node (shape_after h) j refl (leb-false (wires_of (shape_after h)) j q.1.0)) (none_of _ q.1.1.0);
        released = changed-open d.state;
        full = λ f s z. absurd (false≢true z);
        table = λ f s z. absurd (false≢true z);
      }

  pub strike-kept : (u : ℕ) → Struck u c c' → first (strike_rules (facts_after w (rooms c) h) u) ≡ None → Represents row w (event (strike u) true ∷ h) c'
  strike-kept u d e =
      let q = none_passed (strike_rules (facts_after w (rooms c) h) u) e in
      let l = leb-false (nodes_of (shape_after h)) u q.1.0 in
      record {
        shape = changed-shape (struck-rooms c c' u d) d.state;
        counts = λ f s v lv.
            let m = ap nodes_of s in
            count-struck row (limit f) c c' u d (omega (arith, (room_at f s).1)) v ∙ ap (λ o. cond (eqb u v) None o) (p.counts f s v lv);
        released = changed-open d.state;
        full = λ f s z. absurd (false≢true z);
        table = λ f s z. absurd (false≢true z);
      }

  -- the rows of a table that is loaded are within the limit
  loaded-within : (k : ℕ) (table : List ℕ) → first (load_rules k w (facts_after w (rooms c) h) table) ≡ None
      → (f : Form) → shape_after h ≡ Some f → (v : ℕ) → v < nodes f → Within (limit f) (table_row w table v)
  loaded-within k table e f q =
      let t = ap (λ o. first (load_rules k w (record { shape = o; counts = counts_after w h (shape_after h); released = released_after h; rooms = rooms c }) table)) (sym q) ∙ e in
      let b = f.fanout in
      let L = f.height in
      body-within (entry_limit b L) w (size b L) (body_of table)
      (none-back (head_rules k table ++ match_rules b L table) (body_rules (entry_limit b L) w (size b L) (body_of table)) t)

  pub load_kept : (k : ℕ) (table : List ℕ) → Loaded row w (nodes_of (shape_after h)) table c c' → first (load_rules k w (facts_after w (rooms c) h) table) ≡ None
      → Represents row w (event (load table) true ∷ h) c'
  load_kept k table d e =
      let q = none_passed (laid_rules (facts_after w (rooms c) h)) (none-front (laid_rules (facts_after w (rooms c) h)) (table_rules k w (fanout_of (shape_after h)) (height_of (shape_after h)) table) e) in
      let f = some_of (shape_after h) q.0 in
      let r = room_at f.0 f.1 in
      let m = ap nodes_of f.1 in
      record {
        shape = changed-shape (loaded-rooms c c' row w (nodes_of (shape_after h)) table d (omega (arith, r.1))) d.state;
        counts = λ g s v lv. count-loaded row (limit g) c c' w (nodes_of (shape_after h)) table d v (let z = ap nodes_of s in omega arith) (loaded-within k table e g s v lv);
        released = changed-open d.state;
        full = λ f s z. absurd (false≢true z);
        table = λ f s z. absurd (false≢true z);
      }

-- a shape is laid, in any state
pub lay-kept : {K : Type 0} (row : K → Row) (w : ℕ) (h : List Event) (c c' : Contents K) (b L : ℕ) → Laid (record { fanout = b; height = L }) c c'
    → first (lay_rules (rooms c) b L) ≡ None → Represents row w (event (lay b L) true ∷ h) c'
lay-kept row w h c c' b L d e =
    let f : Form = record { fanout = b; height = L } in
    let q = none_passed (room_rules (size b L) (rooms c)) (none-back (shape_rules b L) (room_rules (size b L) (rooms c)) e) in
    let enough : roomy (nodes f) (rooms c) ≡ true = room-so (size b L) (rooms c) (ltb-false _ _ q.0) (ltb-false _ _ q.1.0) (ltb-false _ _ q.1.1.0) (ltb-false _ _ q.1.1.1.0) in
    let st = d.state ∙ next-lay c.state d.shape in
    record {
      shape = (λ i. laid_in (st i) (laid-rooms c c' f d (ltb-false _ _ q.1.0) i)) ∙ ap (λ (g : Form). fitted g (rooms c)) d.formed ∙ fitted-so f (rooms c) enough;
      counts = λ g s v lv.
          let same : f ≡ g = cc in
          count-laid row (limit g) c c' f d v (subst (λ (x : Form). v < nodes x) (sym same) lv);
      released = ap is_released st;
      full = λ g s z. absurd (false≢true z);
      table = λ g s z. absurd (false≢true z);
    }

-- the counts are released
module _ {K : Type 0} (row : K → Row) (w : ℕ) (h : List Event) (c c' : Contents K) (p : Represents row w h c) (f : Form) (s : shape_after h ≡ Some f)
    (d : Freed row w f c c') (e : first (release_rules (facts_after w (rooms c) h)) ≡ None) where
  -- each node has a count
  filled : (v : ℕ) → v < nodes f → is_some (standing w h v) ≡ true
  filled v l =
      let q = none_passed (release_rules (facts_after w (rooms c) h)) e in
      none-empty (standing w h) 0 (nodes f) (ap (λ o. empty_from 0 (counts_after w h o)) (sym s) ∙ none_of _ q.1.0) v (omega arith) (omega arith)

  -- which is the row of its cell
  pub stands : (v : ℕ) → v < nodes f → standing w h v ≡ Some (row_at row c.noisy v)
  stands v l = go (standing w h v) refl (filled v l)
    where
      go : (o : Option Row) → standing w h v ≡ o → is_some o ≡ true → standing w h v ≡ Some (row_at row c.noisy v)
      go None a z = absurd (false≢true z)
      go (Some r) a z = a ∙ ap Some (count-row row (limit f) c v r (p.counts f s v l ∙ a)).0

  pub release-kept : Represents row w (event release true ∷ h) c'
  release-kept = record {
    shape = (λ i. laid_in (d.state i) (freed-rooms c c' row w f d i)) ∙ laid-release c.state (rooms c) ∙ p.shape;
    counts = λ g t v l. same_count row (limit g) c c' d.noisy d.marks v ∙ p.counts g t v l;
    released = ap is_released d.state ∙ open-release c.state (rooms c) f (p.shape ∙ s);
    full = λ g t z v l. filled v (at g t v l);
    table = λ g t z v l.
        let same : f ≡ g = cc in
        d.numerators v (at g t v l)
        ∙ X-agree w f.fanout f.height (denominator f) (row_at row c.noisy) (standing_rows w h) (omega (arith, (laid-shapely c.state (rooms c) f (p.shape ∙ s)).0))
        (λ u k. sym (ap (λ o. unwrap_or o []) (stands u k))) v (at g t v l)
        ∙ ap (λ (x : Form). solution w x (standing_rows w h) v) same;
  }
    where
      at : (g : Form) → shape_after h ≡ Some g → (v : ℕ) → v < nodes g → v < nodes f
      at g t v l = let same : f ≡ g = cc in subst (λ (x : Form). v < nodes x) (sym same) l
