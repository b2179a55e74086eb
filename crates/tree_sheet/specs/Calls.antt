-- How each call on a tree sheet s of a kind of cell ends, with the answer r, and s' after it. Cells mean rows as the kind says.
use Rattle.std.specs.Prelude.{ℕ, List, length, Result}
use Rattle.cells.specs.declared.kind.Kind.{Ghosts as Kind}
use Rattle.denial.specs.Rules.{Answers}
use Rattle.denial.specs.declared.denial.Denial.{Denial}
use Rattle.history.specs.Contents.{laid, rooms, facts}
use Rattle.history.specs.Effects.{Ends, Laid, Entered, Struck, Loaded, Frees, Answered, Written}
use Rattle.history.specs.Events.{Asked}
use Rattle.history.specs.Facts.{nodes_of, wire_node}
use Rattle.history.specs.Refusals.{lay_rules, enter_rules, enter_wire_rules, strike_rules, load_rules, release_rules, read_rules, publish_rules}
use Rattle.history.specs.Replies.{Reply, Stepped}
use Rattle.tree_sheet.specs.Held.{contents}
use Rattle.tree_sheet.specs.declared.sheet.Sheet.{Sheet}

module _ {K : Type 0} (kind : Kind K) (s s' : Sheet K) where
  abbrev pub Lays : ℕ → ℕ → Result (Unit {0}) Denial → Type 0
  Lays b L r = Ends (lay_rules (rooms (contents s)) b L) (λ _. Laid (record { fanout = b; height = L }) (contents s) (contents s')) (contents s) (contents s') r

  abbrev pub Enters : ℕ → K → Result (Unit {0}) Denial → Type 0
  Enters v x r = Ends (enter_rules (facts kind.row (contents s)) v (kind.row x)) (λ _. Entered v x (contents s) (contents s')) (contents s) (contents s') r

  abbrev pub EntersWire : ℕ → K → Result (Unit {0}) Denial → Type 0
  EntersWire j x r =
      Ends (enter_wire_rules (facts kind.row (contents s)) j (kind.row x)) (λ _. Entered (wire_node (laid (contents s)) j) x (contents s) (contents s')) (contents s) (contents s') r

  abbrev pub Strikes : ℕ → Result (Unit {0}) Denial → Type 0
  Strikes v r = Ends (strike_rules (facts kind.row (contents s)) v) (λ _. Struck v (contents s) (contents s')) (contents s) (contents s') r

  abbrev pub Loads : List ℕ → Result (Unit {0}) Denial → Type 0
  Loads table r =
      Ends (load_rules kind.number kind.width (facts kind.row (contents s)) table)
      (λ _. Loaded kind.row kind.width (nodes_of (laid (contents s))) table (contents s) (contents s')) (contents s) (contents s') r

  abbrev pub Releases : Result (Unit {0}) Denial → Type 0
  Releases r = Ends (release_rules (facts kind.row (contents s))) (λ _. Frees kind.row kind.width (contents s) (contents s')) (contents s) (contents s') r

  -- What the call is to every history that the sheet may have had.
  abbrev pub Carries : Asked → Reply → Type 0
  Carries a o = Stepped kind.row kind.number kind.width kind.product (contents s) a o (contents s')

module _ {K : Type 0} (kind : Kind K) (s : Sheet K) where
  abbrev pub Reads : ℕ → Result (K × ℕ) Denial → Type 0
  Reads v r = Answers (read_rules (facts kind.row (contents s)) v) (λ p. Answered (contents s) v p.0 p.1) r

  -- into a buffer, which is `after` then
  abbrev pub Publishes : List ℕ → List ℕ → Result ℕ Denial → Type 0
  Publishes before after r =
      Answers (publish_rules kind.width (facts kind.row (contents s)) (length before)) (λ n. Written kind.row kind.number kind.width (contents s) n before after) r
