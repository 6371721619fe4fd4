-- Elements of lists and bitlists on nodes.
use Rattle.std.specs.Prelude.{ℕ, ◌≡◌, ◌+◌, ◌≤◌, [], ◌∷◌, Option, Some, None}
use Rattle.ssz_chunk.specs.Tree.{Tree, pair}
use Rattle.ssz_chunk.specs.Index.{at, put, levels, way}
use Rattle.ssz_schema.specs.declared.path.PathStep.TheVariants.{Index}
use Rattle.ssz_schema.specs.Types.{SszType, list, bitlist}
use Rattle.ssz_schema.specs.Unfolding.{Types, type_of}
use Rattle.ssz_value.specs.Trees.{mixed_in}
use Rattle.ssz_places.specs.EditLaws.{content_index}
use Rattle.ssz_arena.specs.declared.node.NodeId.{NodeId}
use Rattle.ssz_arena.specs.Content.{ArenaContent, tree_of, todo, node_at, IsNodeOf}
use Rattle.ssz_making.specs.Parts.{MadePart}
use Rattle.ssz_walk.specs.declared.place.Place.{Place}
use Rattle.ssz_walk.specs.Found.{IsLed}
use Rattle.ssz_edit.specs.declared.lists.Slot.{Slot}

-- the limit of a list or bitlist
abbrev pub slot_limit : SszType → Option ℕ
slot_limit (list elem limit) = Some limit
slot_limit (bitlist limit) = Some limit
slot_limit _ = None

-- the place of element i of a list, and the same node below the list's content
pub record IsSlot (types : Types) (arena : ArenaContent) (id : ℕ) (node content : NodeId) (i : ℕ)
    (slot : Slot) : Type 0 where
  pub led : IsLed types arena id node (Index i ∷ []) slot.element
  pub index : slot.below ≡ content_index (type_of types id) i
  pub there : at (tree_of arena content) slot.below ≡ Some (tree_of arena slot.element.node)

-- the node has a list at the place, whose content has something at an index
pub record HasList (arena : ArenaContent) (node : NodeId) (place : Place) (below : ℕ) : Type 0 where
  pub known : IsNodeOf arena node
  pub inside : IsNodeOf arena place.node
  pub at_place : at (tree_of arena node) place.index ≡ Some (tree_of arena place.node)
  pub node_there : node_at arena.nodes node (way place.index) ≡ Some place.node
  pub content : Tree
  pub beside : Tree
  pub is : tree_of arena place.node ≡ pair content beside
  pub found : Tree
  pub there : at content below ≡ Some found

-- the node made has at the place the list with a part below its content, and with this length
pub record IsGrown (old new : ArenaContent) (node : NodeId) (place : Place) (below : ℕ)
    (other : MadePart) (count : ℕ) (made : NodeId) : Type 0 where
  pub known : IsNodeOf new made
  pub is : (n : ℕ) (content grown : Tree) → tree_of old place.node ≡ mixed_in n content
      → put content below other.tree ≡ Some grown
      → put (tree_of old node) place.index (mixed_in count grown) ≡ Some (tree_of new made)
  pub due : todo new made ≤ todo old node + levels place.index + 1 + levels below + other.cost
