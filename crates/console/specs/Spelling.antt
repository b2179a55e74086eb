-- What the words of a line spell.
use Rattle.std.specs.Prelude.{◌≡◌, ℕ, ◌≤◌, ◌⊎◌, List, [], length, drop, codes, slice_index_or}
use Rattle.algebra.specs.Row.{Row}
use Rattle.history.specs.Events.{Asked, lay, enter, enter_wire, strike, load, release, read, publish}
use Rattle.console.specs.Hex.{Hex, bytes_of}
use Rattle.console.specs.Words.{Components, Number}
use Rattle.cells.specs.declared.cell_kind.CellKind.{CellKind}
use Rattle.cells.specs.declared.cell_kind.CellKind.TheVariants.{Single, Pair, Four}
use Rattle.console.specs.declared.script.Lengths.{Lengths}
use Rattle.console.specs.declared.script.Tree.{Tree}

abbrev pub at : List (List ℕ) → ℕ → List ℕ
at words i = slice_index_or words i []

-- One word, which writes n.
abbrev pub One : {T : Type 0} → (List ℕ → T → Type 0) → List (List ℕ) → T → Type 0
One Writes args n = (length args ≡ 1) × Writes (at args 0) n

-- Two numbers of 32 bits.
abbrev pub Two : List (List ℕ) → ℕ → ℕ → Type 0
Two args m n = (length args ≡ 2) × Number 32 (at args 0) m × Number 32 (at args 1) n

-- A number of 32 bits, then the components of a row of width w.
abbrev pub Placed : ℕ → List (List ℕ) → ℕ → Row → Type 0
Placed w args n row = (1 ≤ length args) × Number 32 (at args 0) n × Components w (drop 1 args) row

-- Bytes, none where no word stands for them.
abbrev pub Bytes : List (List ℕ) → List ℕ → Type 0
Bytes args bytes = (length args ≤ 1) × Hex (at args 0) × (bytes ≡ bytes_of (at args 0))

abbrev pub name_of : Asked → List ℕ
name_of (lay fanout height) = codes "lay"
name_of (enter node row) = codes "enter"
name_of (enter_wire wire row) = codes "wire"
name_of (strike node) = codes "strike"
name_of (load table) = codes "load"
name_of release = codes "release"
name_of (read node) = codes "read"
name_of (publish room) = codes "publish"

-- The words after a call's name write its arguments, where rows have width w.
abbrev pub Argued : ℕ → List (List ℕ) → Asked → Type 0
Argued w args (lay fanout height) = Two args fanout height
Argued w args (enter node row) = Placed w args node row
Argued w args (enter_wire wire row) = Placed w args wire row
Argued w args (strike node) = One (Number 32) args node
Argued w args (load table) = Bytes args table
Argued w args release = length args ≡ 0
Argued w args (read node) = One (Number 32) args node
Argued w args (publish room) = One (Number 64) args room

-- Words spell a call.
pub record Spells (w : ℕ) (words : List (List ℕ)) (call : Asked) : Type 0 where
  pub some : 1 ≤ length words
  pub name : at words 0 ≡ name_of call
  pub arguments : Argued w (drop 1 words) call

-- A kind's number.
abbrev pub kind_word : CellKind → List ℕ
kind_word Single = codes "1"
kind_word Pair = codes "2"
kind_word Four = codes "3"

-- The length of a slice.
abbrev pub Long : List ℕ → ℕ → Type 0
Long word n = Number 64 word n × (n ≤ 4096)

abbrev pub usual : Lengths
usual = record { noisy = 1023; marks = 1023; numerators = 1023; work = 1023 }

-- The words after the kind write four lengths.
abbrev pub FourLengths : List (List ℕ) → Lengths → Type 0
FourLengths words l = Long (at words 2) l.noisy × Long (at words 3) l.marks × Long (at words 4) l.numerators × Long (at words 5) l.work

-- Words spell the first line of a script.
pub record SpellsTree (words : List (List ℕ)) (tree : Tree) : Type 0 where
  pub name : at words 0 ≡ codes "tree"
  pub kind : at words 1 ≡ kind_word tree.kind
  pub lengths : ((length words ≡ 2) × (tree.lengths ≡ usual)) ⊎ ((length words ≡ 6) × FourLengths words tree.lengths)
