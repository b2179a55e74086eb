-- What is spelt by the words that a slice holds.
use Rattle.std.proofs.Common.{◌≡◌, ℕ, suc, ◌-◌, ◌<◌, ◌≤◌, List, ◌∷◌, length, get_or, take, drop, ap, ◌∙◌, subst, arith, ⊎_elim, Bor}
use Rattle.history.specs.Events.{Asked}
use Rattle.console.specs.Spelling.{FourLengths, Long, Spells, SpellsTree, at}
use Rattle.console.specs.declared.script.Lengths.{Lengths}
use Rattle.console.specs.declared.script.Tree.{Tree}
use Rattle.console.specs.Words.{Number, texts}
use Rattle.console.proofs.Names.{Refuses, Verb, not-spelt, verb}
use Rattle.console.proofs.Texts.{texts-at, texts-from, texts-length}

-- the words after the first
abbrev pub rest : List (Bor (List ℕ)) → List (Bor (List ℕ))
rest ws = take (length ws - 1) (drop 1 ws)

pub texts-rest : (ws : List (Bor (List ℕ))) → texts (rest ws) ≡ drop 1 (texts ws)
texts-rest ws = texts-from 1 ws

-- a word as the specification has it
pub number_in : (k : ℕ) (ws : List (Bor (List ℕ))) (i : ℕ) (d : Bor (List ℕ)) (n : ℕ) → i < length ws → Number k (at (texts ws) i) n → Number k (get_or ws i d).now n
number_in k ws i d n l h = subst (λ (t : List ℕ). Number k t n) (texts-at ws i d l) h

-- a call
module _ (w : ℕ) (ws : List (Bor (List ℕ))) (d : Bor (List ℕ)) (some : 1 ≤ length ws) where
  pub misspelt : (v : Verb) → verb (get_or ws 0 d).now ≡ v → Refuses w (texts (rest ws)) v → (call : Asked) → Spells w (texts ws) call → ⊥
  misspelt v e never = not-spelt w (texts ws) v (ap verb (texts-at ws 0 d some) ∙ e) (subst (λ (args : List (List ℕ)). Refuses w args v) (texts-rest ws) never)

-- a first line of which one word is no length
module _ (ws : List (Bor (List ℕ))) (name : List ℕ) where
  pub long-refused : (i : ℕ) (d : Bor (List ℕ)) → i < length ws → ((n : ℕ) → Long (get_or ws i d).now n → ⊥) → (n : ℕ) → Long (at (name ∷ texts ws) (suc i)) n → ⊥
  long-refused i d l never n h = never n (subst (λ (t : List ℕ). Long t n) (texts-at ws i d l) h)

  pub lengths-refused : length ws ≡ 5 → ((l : Lengths) → FourLengths (name ∷ texts ws) l → ⊥) → (tree : Tree) → SpellsTree (name ∷ texts ws) tree → ⊥
  lengths-refused five never tree s = ⊎_elim (λ p. absurd (omega (arith, texts-length ws, p.0))) (λ p. never tree.lengths p.1) s.lengths
