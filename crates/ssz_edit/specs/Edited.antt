-- What an edit gives on the nodes of an arena.
use Rattle.std.specs.Prelude.{ℕ, ◌≡◌, ◌+◌, ◌*◌, ◌≤◌, Some, Result, Ok, Err}
use Rattle.ssz_chunk.specs.Tree.{Tree}
use Rattle.ssz_chunk.specs.Index.{put, levels}
use Rattle.ssz_schema.specs.Types.{SszType}
use Rattle.ssz_schema.specs.Indices.{Spot}
use Rattle.ssz_value.specs.declared.edit_fault.EditFault.{EditFault}
use Rattle.ssz_value.specs.declared.edit_fault.EditFault.TheVariants.{Memory}
use Rattle.ssz_value.specs.Values.{SszValue, Fits}
use Rattle.ssz_value.specs.Pairs.{pairs}
use Rattle.ssz_value.specs.Trees.{tree as value_tree}
use Rattle.ssz_value.specs.Edits.{Edited}
use Rattle.ssz_places.specs.Spots.{with_part, without_part}
use Rattle.ssz_arena.specs.declared.node.NodeId.{NodeId}
use Rattle.ssz_arena.specs.Content.{ArenaContent, tree_of, todo, unhashed, node_count, IsNodeOf}
use Rattle.ssz_making.specs.Parts.{MadePart}
use Rattle.ssz_tree.specs.Added.{TakesRoom}
use Rattle.ssz_making.specs.Nodes.{new_nodes}

-- a node's tree with a value at a spot, for the value's pairs and nodes
abbrev pub edited_part : Spot → SszType → SszValue → Tree → MadePart
edited_part spot t v node =
    record { tree = with_part spot t v node; cost = pairs t v; nodes = new_nodes t v }

-- a node's tree with nothing at a spot, for a leaf
abbrev pub part_without : Spot → SszType → Tree → MadePart
part_without spot t node = record { tree = without_part spot t node; cost = 0; nodes = 1 }

-- the node made has the tree of the old one with a part at an index, and at most the levels of the
-- index and what the part costs is more to be hashed
pub record IsPut (old new : ArenaContent) (node : NodeId) (index : ℕ) (other : MadePart)
    (made : NodeId)
    : Type 0 where
  pub known : IsNodeOf new made
  pub is : put (tree_of old node) index other.tree ≡ Some (tree_of new made)
  pub due : todo new made ≤ todo old node + levels index + other.cost

-- the node made has the tree of the edited value, which fits; by the edit at most as many pairs
-- more are to be hashed as it is charged, for this node and in all, and at most twice as many nodes
-- and one are new; it takes memory for no more than these, or doubles the room
pub record IsEdit (t : SszType) (old new : ArenaContent) (node made : NodeId) (result : SszValue)
    (charge : ℕ) : Type 0 where
  pub known : IsNodeOf new made
  pub fits : Fits t result
  pub is : tree_of new made ≡ value_tree t result
  pub due : todo new made ≤ todo old node + charge
  pub more : unhashed new ≤ unhashed old + charge
  pub few : node_count new ≤ node_count old + 2 * charge + 1
  pub room : TakesRoom (2 * charge + 1) old new

-- so for the value that the edit of the whole value gives
abbrev pub Edits : SszType → ArenaContent → ArenaContent → NodeId → ℕ → Edited → NodeId → Type 0
Edits t old new node charge edited made =
    (result : SszValue) × (edited ≡ Ok result) × IsEdit t old new node made result charge

-- the answer is that of the edit of the whole value, or want of memory
abbrev pub AnswersEdit : SszType → ArenaContent → ArenaContent → NodeId → ℕ → Edited
    → Result NodeId EditFault
    → Type 0
AnswersEdit t old new node charge edited (Ok made) = Edits t old new node charge edited made
AnswersEdit t old new node charge edited (Err Memory) = Unit {0}
AnswersEdit t old new node charge edited (Err fault) = edited ≡ Err fault
