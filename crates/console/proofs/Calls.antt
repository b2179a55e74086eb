-- The calls that lines spell, one after another.
use Rattle.std.proofs.Common.{◌≡◌, ℕ, ◌+◌, ◌<◌, List, [], ◌∷◌, ◌++◌, map, length, get_or, drop, sym, refl, ap, ◌∙◌, subst, append_assoc, arith, Bor}
use Rattle.std.specs.Bool.{IsTrue}
use Rattle.std.proofs.lemmas.Bool.Decides.{nat_tests}
use Rattle.std.proofs.lemmas.List.{map-append}
use Rattle.algebra.specs.Row.{Row}
use Rattle.history.specs.Events.{Asked}
use Rattle.tree_sheet.specs.Replay.{asked}
use Rattle.tree_sheet.specs.declared.call.Call.{Call}
use Rattle.console.specs.Script.{is_some_line, line_words, said, Adds, EachSpells}
use Rattle.console.specs.Spelling.{Spells}
use Rattle.console.specs.Words.{texts}
use Rattle.console.proofs.Said.{said-silent, said-some}

module _ (w : ℕ) where
  each-more : (done : List (List (List ℕ))) (calls : List Asked) (ws : List (List ℕ)) (call : Asked)
      → EachSpells w done calls → Spells w ws call → EachSpells w (done ++ (ws ∷ [])) (calls ++ (call ∷ []))
  each-more [] [] ws call h s = (s, tt)
  each-more [] (x ∷ calls) ws call h s = absurd h
  each-more (v ∷ done) [] ws call h s = absurd h
  each-more (v ∷ done) (x ∷ calls) ws call h s = (h.0, each-more done calls ws call h.1 s)

  each-middle : (done more : List (List (List ℕ))) (ws : List (List ℕ)) (calls : List Asked) → EachSpells w (done ++ (ws ∷ more)) calls → (call : Asked) × Spells w ws call
  each-middle [] more ws [] h = absurd h
  each-middle [] more ws (x ∷ calls) h = (x, h.0)
  each-middle (v ∷ done) more ws [] h = absurd h
  each-middle (v ∷ done) more ws (x ∷ calls) h = each-middle done more ws calls h.1

  -- the calls of the first i lines
  pub record Taken (ls : List (List ℕ)) (i : ℕ) (calls : List Asked) : Type 0 where
    pub done : List (List (List ℕ))
    pub follows : said ls ≡ done ++ said (drop i ls)
    pub spells : EachSpells w done calls

  module _ (ws : List (Bor (List ℕ))) (i : ℕ) (d : Bor (List ℕ)) where
    abbrev line : List (List ℕ)
    line = line_words (get_or ws i d).now

    module _ {K : Type 0} (row : K → Row) where
      pub taken-more : i < length ws → (calls more : List (Call K)) → Taken (texts ws) i (map (asked row) calls) → Adds w row line calls more
          → Taken (texts ws) (i + 1) (map (asked row) more)
      taken-more l calls more t a = go line refl a
        where
          go : (x : List (List ℕ)) → line ≡ x → Adds w row x calls more → Taken (texts ws) (i + 1) (map (asked row) more)
          go [] e h = record {
            done = t.done;
            follows = t.follows ∙ ap (λ v. t.done ++ v) (said-silent ws i d l (ap length e));
            spells = subst (λ v. EachSpells w t.done (map (asked row) v)) (sym h) t.spells;
          }
          go (x ∷ xs) e h = record {
            done = t.done ++ ((x ∷ xs) ∷ []);
            follows = t.follows ∙ ap (λ v. t.done ++ v) (said-some ws i d l (omega (arith, ap length e)) ∙ ap (λ v. v ∷ said (drop (i + 1) (texts ws))) e)
                ∙ sym (append_assoc t.done ((x ∷ xs) ∷ []) (said (drop (i + 1) (texts ws))));
            spells = subst (λ v. EachSpells w (t.done ++ ((x ∷ xs) ∷ [])) v) (sym (ap (map (asked row)) h.2 ∙ map-append (asked row) calls (h.0 ∷ [])))
                (each-more t.done (map (asked row) calls) (x ∷ xs) (asked row h.0) t.spells h.1);
          }

    pub taken-wrong : i < length ws → (calls : List Asked) → Taken (texts ws) i calls → IsTrue (is_some_line line) → ((call : Asked) → Spells w line call → ⊥)
        → (all : List Asked) → EachSpells w (said (texts ws)) all → ⊥
    taken-wrong l calls t some never all h =
        let long : 0 < length line = grind (arith, nat_tests) in
        let e = t.follows ∙ ap (λ v. t.done ++ v) (said-some ws i d l long) in
        let m = each-middle t.done (said (drop (i + 1) (texts ws))) line all (subst (λ v. EachSpells w v all) e h) in
        never m.0 m.1
