-- The places of a full tree that are still to come.
use Rattle.std.specs.Prelude.{◌≡◌, ℕ, ◌+◌, ◌-◌, ◌%◌, ◌^◌, ◌<◌, ◌≤◌, List, length, take, drop}
use Rattle.std.specs.List.{All}
use Rattle.std.specs.Int.{bit_at}
use Rattle.ssz_chunk.specs.Tree.{Tree, merkle_tree, place}
use Rattle.ssz_arena.specs.declared.node.NodeId.{NodeId}
use Rattle.ssz_arena.specs.Content.{ArenaContent, IsNodeOf, row_node, tree_of}

-- a row, of whose nodes those from one place up to another are next, how many places are left
-- behind these, and a node for each level
pub record Ahead : Type 0 where
  pub row : List NodeId
  pub from : ℕ
  pub to : ℕ
  pub left : ℕ
  pub nodes : List NodeId

-- the places of a full tree of this depth stand at the front of a row
abbrev pub IsRowOf : ArenaContent → ℕ → Tree → List NodeId → Type 0
IsRowOf arena depth node row = (trees : List Tree) → node ≡ merkle_tree depth trees
    → (i : ℕ) → i < 2 ^ depth → tree_of arena (row_node row i) ≡ place trees i

-- they are nodes of the arena
abbrev pub AheadAreNodes : ArenaContent → Ahead → Type 0
AheadAreNodes arena places = All (IsNodeOf arena) places.row × All (IsNodeOf arena) places.nodes

-- the 2 ^ k trees behind those of the lower levels
abbrev pub tree_block : ℕ → ℕ → List Tree → List Tree
tree_block k left trees = take (2 ^ k) (drop (left % 2 ^ k) trees)

-- these trees stand at so many places, and zero chunks behind them: where the binary digit k of
-- the number of places is 1, the node at k is the full tree of its 2 ^ k places
abbrev pub Stand : ArenaContent → List Tree → ℕ → List NodeId → Type 0
Stand arena trees left nodes = (k : ℕ) → bit_at left k ≡ 1
    → tree_of arena (row_node nodes k) ≡ merkle_tree k (tree_block k left trees)

-- how many nodes of the row are next
abbrev pub waiting : Ahead → ℕ
waiting places = places.to - places.from

-- these trees stand at the next places: the first of them at those of the row
pub record AheadHolds (arena : ArenaContent) (trees : List Tree) (places : Ahead) : Type 0 where
  pub few : length trees ≤ waiting places + places.left
  pub row : (i : ℕ) → i < waiting places
      → tree_of arena (row_node places.row (places.from + i)) ≡ place trees i
  pub nodes : Stand arena (drop (waiting places) trees) places.left places.nodes

-- there is a next row, unless no place is left
abbrev pub IsFilled : Ahead → Type 0
IsFilled places = places.from ≡ places.to → places.left ≡ 0

-- these trees, so far as there are so many, have the nodes of a row
abbrev pub AreNext : ArenaContent → List Tree → List NodeId → Type 0
AreNext arena trees row = (i : ℕ) → i < length row → i < length trees
    → tree_of arena (row_node row i) ≡ place trees i
