-- What a call ended with makes a step, for every history that the sheet may have had.
use Rattle.std.proofs.Common.{◌≡◌, ℕ, true, false, List, ◌∷◌, length, ℤ, Some, None, Ok, Err, Option, Result, sym, ap, ◌∙◌, subst, arith}
use Rattle.std.proofs.lemmas.Bool.{ltb-false, not-false}
use Rattle.algebra.specs.Row.{Row, Within, Product}
use Rattle.algebra.proofs.Places.{row_read}
use Rattle.cells.specs.Calls.{carry_limit}
use Rattle.denial.specs.Rules.{first, Answers}
use Rattle.denial.specs.declared.denial.Denial.{Denial}
use Rattle.shapes.specs.Laid.{shape_rules}
use Rattle.shapes.specs.Tree.{size}
use Rattle.formats.specs.NoisyTable.{load_rules as table_rules}
use Rattle.history.specs.Contents.{Contents, rooms, laid, facts}
use Rattle.history.specs.Effects.{Ends, Laid, Entered, Struck, Loaded, Frees, Answered, Written}
use Rattle.history.specs.Events.{Asked, lay, enter, enter_wire, strike, load, release, read, publish, Event, event, released_after, facts_after, Represents}
use Rattle.history.specs.Facts.{Form, Facts, nodes, nodes_of, wire_node, fanout_of, height_of}
use Rattle.history.specs.Refusals.{room_rules, lay_rules, laid_rules, enter_rules, enter_wire_rules, strike_rules, load_rules, release_rules, read_rules, publish_rules}
use Rattle.history.specs.Replies.{done, refused, told, told_cell, told_bytes, rules, wanted, Fits, Stepped}
use Rattle.history.proofs.Tables.{none_passed, none-front, none-back}
use Rattle.history.proofs.Shaped.{some_of, laid-roomy, room-parts}
use Rattle.history.proofs.Kept.{facts-agree, denied-kept, read_kept, publish-kept, entered-rooms, struck-rooms, laid-rooms, loaded-rooms, freed-rooms, enter-kept, wire-kept, strike-kept, load_kept, lay-kept, release-kept}
use Rattle.history.proofs.Prints.{published}

module _ {K : Type 0} (row : K → Row) (k w : ℕ) (dot : Row → Row → ℤ) (c c' : Contents K) where
  -- a table read off the sheet is the history's
  carried : (a : Asked) (o : Option Denial) → first (rules k w (facts row c) a) ≡ o → (h : List Event) → Represents row w h c
      → first (rules k w (facts_after w (rooms c) h) a) ≡ o
  carried a o e h p = ap (λ (s : Facts). first (rules k w s a)) (sym (facts-agree row w h c p)) ∙ e

  refused-step : (a : Asked) (e : Denial) → first (rules k w (facts row c) a) ≡ Some e → c' ≡ c → Stepped row k w dot c a (refused e) c'
  refused-step a e q same = record {
    held = ap rooms same;
    right = λ h p. carried a (Some e) q h p;
    kept = λ h p. subst (λ (t : Contents K). Represents row w (event a false ∷ h) t) (sym same) (denied-kept row w h c a p);
  }

  done-step : (a : Asked) (P : Type 0) (r : Result (Unit {0}) Denial) → ((h : List Event) → Fits k w dot h (wanted a) done) → Ends (rules k w (facts row c) a) (λ _. P) c c' r
      → (P → first (rules k w (facts row c) a) ≡ None → rooms c' ≡ rooms c)
      → (P → (h : List Event) → Represents row w h c → first (rules k w (facts_after w (rooms c) h) a) ≡ None → Represents row w (event a true ∷ h) c')
      → Stepped row k w dot c a (told r) c'
  done-step a P (Ok x) quiet (q, d) same kept = record {
    held = same d q;
    right = λ h p. (carried a None q h p, quiet h);
    kept = λ h p. kept d h p (carried a None q h p);
  }
  done-step a P (Err e) quiet (q, d) same kept = refused-step a e q d

  pub lay_step : (b L : ℕ) (r : Result (Unit {0}) Denial) → Ends (lay_rules (rooms c) b L) (λ _. Laid (record { fanout = b; height = L }) c c') c c' r → Stepped row k w dot c (lay b L) (told r) c'
  lay_step b L r a = done-step (lay b L) (Laid (record { fanout = b; height = L }) c c') r (λ h. tt) a
      (λ d e. let q = none_passed (room_rules (size b L) (rooms c)) (none-back (shape_rules b L) (room_rules (size b L) (rooms c)) e) in laid-rooms c c' _ d (ltb-false _ _ q.1.0))
      (λ d h p e. lay-kept row w h c c' b L d e)

  pub enter_step : (v : ℕ) (x : K) (r : Result (Unit {0}) Denial) → Ends (enter_rules (facts row c) v (row x)) (λ _. Entered v x c c') c c' r → Stepped row k w dot c (enter v (row x)) (told r) c'
  enter_step v x r a = done-step (enter v (row x)) (Entered v x c c') r (λ h. tt) a (λ d e. entered-rooms c c' v x d) (λ d h p e. enter-kept row w h c c' p v x d e)

  pub wire-step : (j : ℕ) (x : K) (r : Result (Unit {0}) Denial) → Ends (enter_wire_rules (facts row c) j (row x)) (λ _. Entered (wire_node (laid c) j) x c c') c c' r
      → Stepped row k w dot c (enter_wire j (row x)) (told r) c'
  wire-step j x r a = done-step (enter_wire j (row x)) (Entered (wire_node (laid c) j) x c c') r (λ h. tt) a (λ d e. entered-rooms c c' (wire_node (laid c) j) x d)
      (λ d h p e. wire-kept row w h c c' p j x (subst (λ (o : Option Form). Entered (wire_node o j) x c c') p.shape d) e)

  pub strike-step : (v : ℕ) (r : Result (Unit {0}) Denial) → Ends (strike_rules (facts row c) v) (λ _. Struck v c c') c c' r → Stepped row k w dot c (strike v) (told r) c'
  strike-step v r a = done-step (strike v) (Struck v c c') r (λ h. tt) a (λ d e. struck-rooms c c' v d) (λ d h p e. strike-kept row w h c c' p v d e)

  pub load_step : (table : List ℕ) (r : Result (Unit {0}) Denial) → Ends (load_rules k w (facts row c) table) (λ _. Loaded row w (nodes_of (laid c)) table c c') c c' r
      → Stepped row k w dot c (load table) (told r) c'
  load_step table r a = done-step (load table) (Loaded row w (nodes_of (laid c)) table c c') r (λ h. tt) a
      (λ d e.
      let q = none_passed (laid_rules (facts row c)) (none-front (laid_rules (facts row c)) (table_rules k w (fanout_of (laid c)) (height_of (laid c)) table) e) in
      let f = some_of (laid c) q.0 in
      let m = ap nodes_of f.1 in
      loaded-rooms c c' row w (nodes_of (laid c)) table d (omega (arith, (room-parts (nodes f.0) (rooms c) (laid-roomy c.state (rooms c) f.0 f.1)).1)))
      (λ d h p e. load_kept row w h c c' p k table (subst (λ (o : Option Form). Loaded row w (nodes_of o) table c c') p.shape d) e)

  pub release-step : (r : Result (Unit {0}) Denial) → Ends (release_rules (facts row c)) (λ _. Frees row w c c') c c' r → Stepped row k w dot c release (told r) c'
  release-step r a = done-step release (Frees row w c c') r (λ h. tt) a (λ (f, l) e. freed-rooms c c' row w f l.1)
      (λ (f, l) h p e. release-kept row w h c c' p f (sym p.shape ∙ l.0) l.1 e)

  pub read_step : (v : ℕ) (r : Result (K × ℕ) Denial) → c' ≡ c → Answers (read_rules (facts row c) v) (λ p. Answered c v p.0 p.1) r
      → Stepped row k w dot c (read v) (told_cell row r) c'
  read_step v (Ok (x, d)) same (q, s) = record {
    held = ap rooms same;
    right = λ h p.
        let e = carried (read v) None q h p in
        let z = none_passed (read_rules (facts_after w (rooms c) h) v) e in
        let shape = sym p.shape ∙ s.shape in
        let room = room-parts (nodes s.form) (rooms c) (laid-roomy c.state (rooms c) s.form s.shape) in (
          e,
          record {
            form = s.form;
            laid = shape;
            row = row_read row c.numerators v x (omega (arith, room.2, s.node)) s.cell ∙ p.table s.form shape (not-false (released_after h) z.1.1.0) v s.node;
            over = s.over;
          },
        );
    kept = λ h p. subst (λ (t : Contents K). Represents row w (event (read v) true ∷ h) t) (sym same) (read_kept row w h c v p);
  }
  read_step v (Err e) same q = refused-step (read v) e q same

  pub publish-step : ((x : K) → length (row x) ≡ w) → ((x : K) → Within carry_limit (row x)) → Product w dot
      → (m : ℕ) (before after : List ℕ) (r : Result ℕ Denial) → c' ≡ c → Answers (publish_rules w (facts row c) m) (λ n. Written row k w c n before after) r
      → Stepped row k w dot c (publish m) (told_bytes after r) c'
  publish-step sized held laws m before after (Ok n) same (q, d) = record {
    held = ap rooms same;
    right = λ h p.
        let e = carried (publish m) None q h p in
        let z = none_passed (publish_rules w (facts_after w (rooms c) h) m) e in
        (e, published row k w dot sized held laws h c p (not-false (released_after h) z.1.0) n before after d);
    kept = λ h p. subst (λ (t : Contents K). Represents row w (event (publish m) true ∷ h) t) (sym same) (publish-kept row w h c m p);
  }
  publish-step sized held laws m before after (Err e) same q = refused-step (publish m) e q same
