-- What is printed for a script.
use Rattle.std.specs.Prelude.{◌≡◌, ℕ, List, [], drop, codes, IsUtf8, ℤ}
use Rattle.std.specs.List.{flat_map}
use Rattle.std.specs.Str.Lines.{lines}
use Rattle.algebra.specs.Row.{Row}
use Rattle.cells.specs.Products.{single, pair, four}
use Rattle.history.specs.Events.{Asked}
use Rattle.history.specs.Facts.{Rooms}
use Rattle.history.specs.Replies.{Reply}
use Rattle.history.specs.Runs.{Faithful}
use Rattle.console.specs.Lines.{reply_line}
use Rattle.console.specs.Mistakes.{trouble_text, said as mistake_text}
use Rattle.console.specs.Script.{said, EachSpells, FirstSaid}
use Rattle.console.specs.declared.mistake.Mistake.TheVariants.{NoMemory}
use Rattle.console.specs.declared.play.Stop.{Stop}
use Rattle.console.specs.declared.play.Stop.TheVariants.{Wrong, OutOfMemory, Io}
use Rattle.cells.specs.declared.cell_kind.CellKind.{CellKind}
use Rattle.cells.specs.declared.cell_kind.CellKind.TheVariants.{Single, Pair, Four}
use Rattle.console.specs.declared.script.Lengths.{Lengths}
use Rattle.console.specs.declared.script.Tree.{Tree}

abbrev pub rooms_of : Lengths → Rooms
rooms_of l = record { noisy = l.noisy; marks = l.marks; numerators = l.numerators; work = l.work }

-- The lines of what the calls answer, each of which is what the calls before it determine, for a kind of number k and width w on
-- slices of these lengths.
pub record Played (k w : ℕ) (dot : Row → Row → ℤ) (lengths : Lengths) (calls : List Asked) (text : List ℕ) : Type 0 where
  pub log : List Reply
  pub run : Faithful k w dot (rooms_of lengths) [] calls log
  pub written : text ≡ flat_map reply_line log

-- The same for the calls that words spell.
pub record Follows (k w : ℕ) (dot : Row → Row → ℤ) (lengths : Lengths) (spoken : List (List (List ℕ))) (text : List ℕ) : Type 0 where
  pub calls : List Asked
  pub spells : EachSpells w spoken calls
  pub played : Played k w dot lengths calls text

-- The same by the cells that a tree has.
abbrev pub FollowsOn : CellKind → Lengths → List (List (List ℕ)) → List ℕ → Type 0
FollowsOn Single lengths spoken text = Follows 1 1 single lengths spoken text
FollowsOn Pair lengths spoken text = Follows 2 2 pair lengths spoken text
FollowsOn Four lengths spoken text = Follows 3 4 four lengths spoken text

-- A script is text, its first line that is not passed over spells a tree, the lines after it spell calls, and these are played.
pub record Plays (script text : List ℕ) : Type 0 where
  pub utf8 : IsUtf8 script
  pub tree : Tree
  pub n : ℕ
  pub first : FirstSaid (lines script) n tree
  pub follows : FollowsOn tree.kind tree.lengths (said (drop n (lines script))) text

-- A script is not played for want of memory.
abbrev pub WantsMemory : Stop → Type 0
WantsMemory (Wrong trouble) = trouble.mistake ≡ NoMemory
WantsMemory OutOfMemory = Unit {0}
WantsMemory Io = ⊥

-- What is said of a script that is not played.
abbrev pub stop_text : Stop → List ℕ
stop_text (Wrong trouble) = trouble_text trouble
stop_text OutOfMemory = mistake_text NoMemory
stop_text Io = codes "input or output failed"
