-- What a script says, line by line.
use Rattle.std.specs.Prelude.{◌≡◌, ℕ, Bool, not, List, [], ◌∷◌, ◌++◌, map, filter, length, drop, ◌==◌, if◌then◌else◌, slice_index}
use Rattle.std.specs.Char.{is_ascii_whitespace}
use Rattle.std.specs.List.{slice_split}
use Rattle.algebra.specs.Row.{Row}
use Rattle.history.specs.Events.{Asked}
use Rattle.tree_sheet.specs.Replay.{asked}
use Rattle.tree_sheet.specs.declared.call.Call.{Call}
use Rattle.console.specs.Spelling.{Spells, SpellsTree}
use Rattle.console.specs.declared.script.Tree.{Tree}

abbrev pub is_some_word : List ℕ → Bool
is_some_word w = not (length w == 0)

-- The words of a text: what stands between its white space.
abbrev pub words : List ℕ → List (List ℕ)
words text = filter is_some_word (slice_split is_ascii_whitespace text)

-- The words of a line; none of a line that begins with `#`.
abbrev pub line_words : List ℕ → List (List ℕ)
line_words line = if slice_index line 0 == 35 then [] else words line

abbrev pub is_some_line : List (List ℕ) → Bool
is_some_line ws = not (length ws == 0)

-- What lines say: the words of each line that has some.
abbrev pub said : List (List ℕ) → List (List (List ℕ))
said ls = filter is_some_line (map line_words ls)

-- The first thing that lines say spells a tree, and stands in the last of their first n lines.
pub record FirstSaid (ls : List (List ℕ)) (n : ℕ) (tree : Tree) : Type 0 where
  pub first : List (List ℕ)
  pub follows : said ls ≡ first ∷ said (drop n ls)
  pub spells : SpellsTree first tree

-- Calls are spelt one by one, where rows have width w.
abbrev pub EachSpells : ℕ → List (List (List ℕ)) → List Asked → Type 0
EachSpells w [] [] = Unit {0}
EachSpells w [] (call ∷ calls) = ⊥
EachSpells w (ws ∷ more) [] = ⊥
EachSpells w (ws ∷ more) (call ∷ calls) = Spells w ws call × EachSpells w more calls

-- The call that the words of a line spell stands at the end; with no words nothing is added.
abbrev pub Adds : {K : Type 0} → ℕ → (K → Row) → List (List ℕ) → List (Call K) → List (Call K) → Type 0
Adds w row [] before after = after ≡ before
Adds {K} w row (x ∷ ws) before after = (call : Call K) × Spells w (x ∷ ws) (asked row call) × (after ≡ before ++ (call ∷ []))
