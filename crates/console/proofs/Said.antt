-- What the lines of a script say, line by line.
use Rattle.std.proofs.Common.{◌≡◌, ℕ, suc, ◌+◌, ◌<◌, not, cond, List, [], ◌∷◌, length, get_or, drop, sym, ap, ◌∙◌, subst, add-one, arith, Bor}
use Rattle.std.proofs.Math.Seq.{drop-cons}
use Rattle.std.proofs.lemmas.Bool.{ne_eqb}
use Rattle.std.proofs.lemmas.List.{nil_from_length}
use Rattle.console.specs.Script.{is_some_line, line_words, said, FirstSaid}
use Rattle.console.specs.Spelling.{SpellsTree}
use Rattle.console.specs.Words.{texts}
use Rattle.console.specs.declared.script.Tree.{Tree}
use Rattle.console.proofs.Texts.{texts-at, texts-length}

module _ (ws : List (Bor (List ℕ))) (i : ℕ) (d : Bor (List ℕ)) (l : i < length ws) where
  abbrev pub here : List (List ℕ)
  here = line_words (get_or ws i d).now

  abbrev pub after : List (List (List ℕ))
  after = said (drop (i + 1) (texts ws))

  -- one line and those after it
  said-line : said (drop i (texts ws)) ≡ cond (is_some_line here) (here ∷ after) after
  said-line =
      ap said (drop-cons (texts ws) i [] (omega (arith, texts-length ws)))
      ∙ ap (λ x. said (x ∷ drop (suc i) (texts ws))) (texts-at ws i d l)
      ∙ ap (λ (j : ℕ). cond (is_some_line here) (here ∷ said (drop j (texts ws))) (said (drop j (texts ws)))) (sym (add-one i))

  pub said-silent : length here ≡ 0 → said (drop i (texts ws)) ≡ after
  said-silent e = said-line ∙ ap (λ x. cond (is_some_line x) (x ∷ after) after) (nil_from_length here e)

  pub said-some : 0 < length here → said (drop i (texts ws)) ≡ here ∷ after
  said-some h = said-line ∙ ap (λ b. cond (not b) (here ∷ after) after) (ne_eqb (length here) 0 (λ z. omega arith))

  -- vs are the words of the line
  module _ (vs : List (Bor (List ℕ))) (found : texts vs ≡ here) where
    pub silent : length vs ≡ 0 → said (drop i (texts ws)) ≡ after
    silent e = said-silent (omega (arith, ap length found, texts-length vs))

    some : 0 < length vs → 0 < length here
    some h = omega (arith, ap length found, texts-length vs)

    pub spoken : 0 < length vs → said (drop i (texts ws)) ≡ texts vs ∷ after
    spoken h = said-some (some h) ∙ ap (λ x. x ∷ after) (sym found)

    -- the first that is said
    module _ (passed : said (texts ws) ≡ said (drop i (texts ws))) (h : 0 < length vs) where
      pub first-spelt : (tree : Tree) → SpellsTree (texts vs) tree → FirstSaid (texts ws) (i + 1) tree
      first-spelt tree s = record { first = texts vs; follows = passed ∙ spoken h; spells = s }

      pub first-wrong : ((tree : Tree) → SpellsTree (texts vs) tree → ⊥) → (n : ℕ) (tree : Tree) → FirstSaid (texts ws) n tree → ⊥
      first-wrong never n tree s =
          let both : s.first ∷ said (drop n (texts ws)) ≡ texts vs ∷ after = sym s.follows ∙ passed ∙ spoken h in
          let e : s.first ≡ texts vs = cc in
          never tree (subst (λ x. SpellsTree x tree) e s.spells)
