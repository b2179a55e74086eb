-- What decides the outcome of a call on a tree sheet: the laid shape, the counts at its nodes, whether they are released, and how
-- long the four slices are.
use Rattle.std.specs.Prelude.{ℕ, ◌-◌, ◌^◌, Bool, ◌&&◌, List, Some, None, Option, nat_le}
use Rattle.algebra.specs.Row.{Row}
use Rattle.shapes.specs.Laid.{entry_limit}
use Rattle.shapes.specs.Tree.{size, wire}

pub record Form : Type 0 where
  pub fanout : ℕ
  pub height : ℕ

-- How many cells the noisy cells, the marks, the numerators and the work cells have.
pub record Rooms : Type 0 where
  pub noisy : ℕ
  pub marks : ℕ
  pub numerators : ℕ
  pub work : ℕ

-- Every slice has room for n nodes.
abbrev pub roomy : ℕ → Rooms → Bool
roomy n r = nat_le n r.noisy && (nat_le n r.marks && (nat_le n r.numerators && nat_le n r.work))

pub record Facts : Type 0 where
  pub shape : Option Form
  -- the count at each node of the shape, in order; None where the node is empty
  pub counts : List (Option Row)
  pub released : Bool
  pub rooms : Rooms

abbrev pub nodes : Form → ℕ
nodes f = size f.fanout f.height

-- No component of a count is larger, up to its sign.
abbrev pub limit : Form → ℕ
limit f = entry_limit f.fanout f.height

abbrev pub fanout_of : Option Form → ℕ
fanout_of None = 0
fanout_of (Some f) = f.fanout

abbrev pub height_of : Option Form → ℕ
height_of None = 0
height_of (Some f) = f.height

abbrev pub nodes_of : Option Form → ℕ
nodes_of None = 0
nodes_of (Some f) = nodes f

abbrev pub wires_of : Option Form → ℕ
wires_of None = 0
wires_of (Some f) = f.fanout ^ (f.height - 1)

-- The node of wire number j.
abbrev pub wire_node : Option Form → ℕ → ℕ
wire_node None j = j
wire_node (Some f) j = wire f.fanout f.height j

abbrev pub limit_of : Option Form → ℕ
limit_of None = 0
limit_of (Some f) = limit f
