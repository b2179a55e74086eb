-- Complete trees of fan-out b and height L. The nodes are numbered level by level from the root, node 0; a leaf has height 1.
use Rattle.std.specs.Prelude.{◌≡◌, ℕ, zero, suc, ◌+◌, ◌-◌, ◌*◌, ◌/◌, ◌^◌, ◌<◌, ◌≤◌, cond, nat_lt}

-- S_k = 1 + b + … + b^(k−1): how many nodes a complete tree of height k has
abbrev pub size : ℕ → ℕ → ℕ
size b zero = 0
size b (suc k) = size b k + b ^ k

-- child number j, from 0, of node v
abbrev pub child : ℕ → ℕ → ℕ → ℕ
child b v j = b * v + 1 + j

-- the node whose child v is
abbrev pub parent : ℕ → ℕ → ℕ
parent b v = (v - 1) / b

-- the nodes are 0 … S_L − 1, and the last b^(L−1) of them are the leaves
abbrev pub Node : ℕ → ℕ → ℕ → Type 0
Node b L v = v < size b L

abbrev pub Parent : ℕ → ℕ → ℕ → Type 0
Parent b L v = v < size b (L - 1)

abbrev pub Leaf : ℕ → ℕ → ℕ → Type 0
Leaf b L v = (size b (L - 1) ≤ v) × (v < size b L)

-- the height of a node: how many of S_1 … S_L are over its number
abbrev pub height : ℕ → ℕ → ℕ → ℕ
height b zero v = 0
height b (suc l) v = cond (nat_lt v (size b (suc l))) (suc (height b l v)) 0

-- the level of height k: its nodes are S_(L−k) … S_(L−k+1) − 1
pub record Level (b L k v : ℕ) : Type 0 where
  pub low : 1 ≤ k
  pub high : k ≤ L
  pub from : size b (L - k) ≤ v
  pub upto : v < size b (suc (L - k))

-- k gives each node's height: a leaf's is 1, and a parent's is one more than each of its children's
pub record Heights (b L : ℕ) (k : ℕ → ℕ) : Type 0 where
  pub leaf : (v : ℕ) → Leaf b L v → k v ≡ 1
  pub parent : (u j : ℕ) → Parent b L u → j < b → k u ≡ suc (k (child b u j))

-- the node of wire number j: the wires are the leaves, from left to right
abbrev pub wire : ℕ → ℕ → ℕ → ℕ
wire b L j = size b (L - 1) + j
