-- A script and what is printed for it.
use Rattle.std.proofs.Common.{◌≡◌, ℕ, List, sym, subst, Bor}
use Rattle.std.specs.Str.Lines.{lines}
use Rattle.console.specs.Play.{Plays}
use Rattle.console.specs.Script.{FirstSaid}
use Rattle.console.specs.Words.{texts}
use Rattle.console.specs.declared.script.Tree.{Tree}

-- ws are the lines of the script
module _ (script : List ℕ) (ws : List (Bor (List ℕ))) (read : texts ws ≡ lines script) where
  pub no-first : ((n : ℕ) (tree : Tree) → FirstSaid (texts ws) n tree → ⊥) → (text : List ℕ) → Plays script text → ⊥
  no-first never text p = never p.n p.tree (subst (λ ls. FirstSaid ls p.n p.tree) (sym read) p.first)
