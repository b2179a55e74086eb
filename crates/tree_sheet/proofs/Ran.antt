-- How far a run of calls has come.
use Rattle.std.proofs.Common.{◌≡◌, ℕ, ◌+◌, ◌<◌, ◌≤◌, List, [], ◌∷◌, ◌++◌, map, length, get_or, take, Result, sym, ap, ◌∙◌, subst}
use Rattle.std.proofs.lemmas.List.{map_more, map_push, take_all}
use Rattle.algebra.specs.Row.{Row}
use Rattle.cells.specs.declared.kind.Kind.{Ghosts as Kind}
use Rattle.denial.specs.declared.denial.Denial.{Denial}
use Rattle.history.specs.Contents.{Contents, rooms}
use Rattle.history.specs.Events.{Asked, Event, Represents}
use Rattle.history.specs.Facts.{Rooms}
use Rattle.history.specs.Replies.{Reply, Right}
use Rattle.history.specs.Runs.{Faithful, past}
use Rattle.history.proofs.Runs.{faithful-more, past_more}
use Rattle.tree_sheet.specs.Calls.{Carries}
use Rattle.tree_sheet.specs.Held.{contents}
use Rattle.tree_sheet.specs.Replay.{Leaves, asked, reply}
use Rattle.tree_sheet.specs.declared.call.Answer.{Answer}
use Rattle.tree_sheet.specs.declared.call.Call.{Call}
use Rattle.tree_sheet.specs.declared.sheet.Sheet.{Sheet}

-- calls and replies, and the sheet that they left
pub record Came {K : Type 0} (kind : Kind K) (r : Rooms) (calls : List Asked) (replies : List Reply) (s : Sheet K) : Type 0 where
  pub run : Faithful kind.number kind.width kind.product r [] calls replies
  pub held : Represents kind.row kind.width (past [] calls replies) (contents s)
  pub room : rooms (contents s) ≡ r

-- the first i of the calls are made
abbrev pub Ran : {K : Type 0} → Kind K → Rooms → List (Call K) → ℕ → List (Result (Answer K) Denial) → Sheet K → Type 0
Ran kind r calls i log s = Came kind r (map (asked kind.row) (take i calls)) (map (reply kind.row) log) s

module _ {K : Type 0} (kind : Kind K) (r : Rooms) (calls : List (Call K)) where
  pub ran-none : (log : List (Result (Answer K) Denial)) (s : Sheet K) → log ≡ [] → rooms (contents s) ≡ r → Represents kind.row kind.width [] (contents s) → Ran kind r calls 0 log s
  ran-none log s e q p = subst (λ (os : List (Result (Answer K) Denial)). Ran kind r calls 0 os s) (sym e) (record { run = tt; held = p; room = q })

  came-more : (xs : List Asked) (os : List Reply) (a : Asked) (o : Reply) (s s' : Sheet K) → Came kind r xs os s → Carries kind s s' a o → Came kind r (xs ++ a ∷ []) (os ++ o ∷ []) s'
  came-more xs os a o s s' c t = record {
    run = faithful-more kind.number kind.width kind.product r [] xs os a o c.run
        (subst (λ (q : Rooms). Right kind.number kind.width kind.product q (past [] xs os) a o) c.room (t.right (past [] xs os) c.held));
    held = subst (λ (h : List Event). Represents kind.row kind.width h (contents s')) (sym (past_more kind.number kind.width kind.product r [] xs os a o c.run)) (t.kept (past [] xs os) c.held);
    room = t.held ∙ c.room;
  }

  pub ran-more : (i : ℕ) (x : Call K) (o : Result (Answer K) Denial) (log log' : List (Result (Answer K) Denial)) (s s' : Sheet K) → i < length calls → x ≡ get_or calls i x → log' ≡ log ++ o ∷ []
      → Ran kind r calls i log s → Carries kind s s' (asked kind.row x) (reply kind.row o) → Ran kind r calls (i + 1) log' s'
  ran-more i x o log log' s s' h e q c t =
      let xs : map (asked kind.row) (take (i + 1) calls) ≡ map (asked kind.row) (take i calls) ++ asked kind.row x ∷ []
      = map_more (asked kind.row) calls i x h ∙ ap (λ (y : Call K). map (asked kind.row) (take i calls) ++ asked kind.row y ∷ []) (sym e) in
      let os : map (reply kind.row) log' ≡ map (reply kind.row) log ++ reply kind.row o ∷ [] = ap (map (reply kind.row)) q ∙ map_push (reply kind.row) log o in
      subst (λ (ys : List Asked). Came kind r ys (map (reply kind.row) log') s') (sym xs)
      (subst (λ (ps : List Reply). Came kind r (map (asked kind.row) (take i calls) ++ asked kind.row x ∷ []) ps s') (sym os)
      (came-more (map (asked kind.row) (take i calls)) (map (reply kind.row) log) (asked kind.row x) (reply kind.row o) s s' c t))

  pub ran-all : (i : ℕ) (log : List (Result (Answer K) Denial)) (s : Sheet K) → length calls ≤ i → Ran kind r calls i log s → Came kind r (map (asked kind.row) calls) (map (reply kind.row) log) s
  ran-all i log s h c = subst (λ (ys : List (Call K)). Came kind r (map (asked kind.row) ys) (map (reply kind.row) log) s) (take_all i calls h) c

-- what the lender holds once the sheet is gone
pub leaves-so : {K : Type 0} (row : K → Row) (w : ℕ) (h : List Event) (s : Sheet K) (noisy : List K) (marks : List ℕ) (numerators work : List K) → Represents row w h (contents s)
    → noisy ≡ s.noisy.now → marks ≡ s.marks.now → numerators ≡ s.numerators.now → work ≡ s.work.now → Leaves row w h noisy marks numerators work
leaves-so row w h s noisy marks numerators work p a b c d = record {
  state = s.state;
  held = subst (λ (t : Contents _). Represents row w h t) (sym (λ i. record { noisy = a i; marks = b i; numerators = c i; work = d i; state = s.state })) p;
}
