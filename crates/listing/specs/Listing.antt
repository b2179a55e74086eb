-- What the program prints for the bytes of a table.
use Rattle.std.specs.Prelude.{◌≡◌, ℕ, true, cond, List, [], ◌∷◌, ◌++◌, Some, None, Ok, Err, Option, Result, MatchOption, ◌==◌}
use Rattle.denial.specs.Rules.{Rule, rule, first}
use Rattle.denial.specs.declared.reason.Reason.TheVariants.{WrongKind}
use Rattle.shapes.specs.Denominator.{Denominator}
use Rattle.shapes.specs.Tree.{size}
use Rattle.inference.specs.Formulas.{X}
use Rattle.formats.specs.NoisyTable.{kind_in, fanout_in, height_in, table_row, form_rules, read_rules}
use Rattle.listing_lines.specs.Lines.{first_line, refusal_line}
use Rattle.listing.specs.Text.{node_lines}
use Rattle.listing.specs.declared.halt.Halt.{Halt}
use Rattle.listing.specs.declared.halt.Halt.TheVariants.{Denied, NoMemory}

-- No tree has more nodes.
abbrev pub most_nodes : ℕ
most_nodes = 1023

-- How many components a row of a kind has: 1 is a single count, 2 a pair, 3 has four classes, and there is no other kind.
abbrev pub width_of : ℕ → Option ℕ
width_of kind = cond (kind == 1) (Some 1) (cond (kind == 2) (Some 2) (cond (kind == 3) (Some 4) None))

-- The table of refusals, by the width that the table's kind has.
abbrev pub rules_at : Option ℕ → List ℕ → List Rule
rules_at (Some w) table = read_rules (kind_in table) w most_nodes table
rules_at None table = form_rules table ++ rule true WrongKind 5 ∷ []

abbrev pub table_rules : List ℕ → List Rule
table_rules table = rules_at (width_of (kind_in table)) table

-- The listing of a table of kind k, with rows of width w: the first line, and a line for each node with X over the
-- common denominator D of the table's shape.
pub record Listed (k w : ℕ) (table text : List ℕ) : Type 0 where
  pub D : ℕ
  pub denominator : Denominator (fanout_in table) (height_in table) D
  pub lines : text ≡ first_line k (fanout_in table) (height_in table) D
      ++ node_lines (X w (fanout_in table) (height_in table) D (table_row w table)) D (size (fanout_in table) (height_in table))

-- The same by the kind that stands in the table.
abbrev pub ListedAt : Option ℕ → List ℕ → List ℕ → Type 0
ListedAt (Some w) table text = Listed (kind_in table) w table text
ListedAt None table text = ⊥

-- The listing of a table that no row refuses, and else the line of the refusal that the first such row gives.
abbrev pub Listing : List ℕ → List ℕ → Type 0
Listing table text = MatchOption (first (table_rules table)) (ListedAt (width_of (kind_in table)) table text) (λ e. text ≡ refusal_line e)

-- A call answers a table of refusals with a text of which P holds, or has no memory.
abbrev pub Tells : {A : Type 0} → List Rule → (A → Type 0) → Result A Halt → Type 0
Tells rules P (Ok x) = (first rules ≡ None) × P x
Tells rules P (Err (Denied e)) = first rules ≡ Some e
Tells rules P (Err (NoMemory _)) = Unit {0}
