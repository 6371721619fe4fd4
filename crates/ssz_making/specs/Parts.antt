-- The parts that a tree is made of.
use Rattle.std.specs.Prelude.{◌≡◌, ℕ, ◌+◌, List, [], ◌∷◌, length, map, Option, Some, None, sum_by}
use Rattle.std.specs.List.{AllByRecursion}
use Rattle.ssz_chunk.specs.Chunk.{zero_chunk}
use Rattle.ssz_chunk.specs.Tree.{Tree, leaf, pair, merkle_tree, merkle_pairs}
use Rattle.ssz_schema.specs.Types.{SszType, Fields, field}
use Rattle.ssz_schema.specs.Sizes.{basic_size, element_chunks}
use Rattle.ssz_schema.specs.Unfolding.{type_tree_at}
use Rattle.ssz_value.specs.declared.value.Value.{Value}
use Rattle.ssz_value.specs.Values.{SszValue, Fits}
use Rattle.ssz_value.specs.Standing.{value_of}
use Rattle.ssz_value.specs.Reading.{value_in}
use Rattle.ssz_value.specs.Trees.{tree}
use Rattle.ssz_value.specs.Pairs.{pairs}
use Rattle.ssz_packing.specs.Elements.{element_trees}
use Rattle.ssz_making.specs.Nodes.{new_nodes, element_nodes}

-- a tree, the most pairs that may have to be hashed for its root, and the nodes that are made for
-- it
pub record MadePart : Type 0 where
  pub tree : Tree
  pub cost : ℕ
  pub nodes : ℕ

abbrev pub part_trees : List MadePart → List Tree
part_trees parts = map (λ (part : MadePart). part.tree) parts

abbrev pub costs : List MadePart → ℕ
costs parts = sum_by (λ (part : MadePart). part.cost) parts

abbrev pub part_nodes : List MadePart → ℕ
part_nodes parts = sum_by (λ (part : MadePart). part.nodes) parts

-- it costs as much as another part, and as many nodes are made for it
abbrev pub IsLike : MadePart → MadePart → Type 0
IsLike one part = (part.cost ≡ one.cost) × (part.nodes ≡ one.nodes)

-- the full tree of depth d over these parts, with the pairs above them
abbrev pub whole_of : ℕ → List MadePart → MadePart
whole_of d parts = record {
  tree = merkle_tree d (part_trees parts);
  cost = merkle_pairs d (length parts) + costs parts;
  nodes = merkle_pairs d (length parts) + part_nodes parts;
}

-- a part with a leaf to its right, that of a length or of a selector
abbrev pub joined_leaf : MadePart → List ℕ → MadePart
joined_leaf part chunk = record {
  tree = pair part.tree (leaf chunk);
  cost = part.cost + 1;
  nodes = part.nodes + 2;
}

-- the tree of a value of the type, with the value's pairs and the nodes that are made for it
abbrev pub part_of_value : SszType → SszValue → MadePart
part_of_value t v = record { tree = tree t v; cost = pairs t v; nodes = new_nodes t v }

-- a chunk: a leaf, for which nothing is hashed
abbrev pub chunk_part : List ℕ → MadePart
chunk_part chunk = record { tree = leaf chunk; cost = 0; nodes = 1 }

-- the option None: the zero chunk, which every arena has
abbrev pub none_part : MadePart
none_part = record { tree = leaf zero_chunk; cost = 0; nodes = 0 }

-- the full tree of depth d over elements of the type, packed where it is basic
abbrev pub elements_part : SszType → ℕ → List SszValue → MadePart
elements_part t d vs = record {
  tree = merkle_tree d (element_trees t vs);
  cost = merkle_pairs d (element_chunks (basic_size t) (length vs)) + sum_by (pairs t) vs;
  nodes = merkle_pairs d (element_chunks (basic_size t) (length vs))
      + element_nodes (basic_size t) (length vs) (sum_by (new_nodes t) vs);
}

-- the values of the fields
abbrev pub field_parts : Fields → List SszValue → List MadePart
field_parts (field name t fs) (v ∷ vs) = part_of_value t v ∷ field_parts fs vs
field_parts _ _ = []

-- what a union's bytes choose: the value of an option, or None
abbrev pub chosen_part : List SszType → Option ℕ → List ℕ → MadePart
chosen_part trees None b = none_part
chosen_part trees (Some id) b =
    part_of_value (type_tree_at trees id) (value_in (type_tree_at trees id) b)

-- the values are of a basic type of this size
pub record AreBasic (size : ℕ) (parts : List Value) : Type 0 where
  pub type : SszType
  pub sized : basic_size type ≡ Some size
  pub fit : AllByRecursion (Fits type) (map value_of parts)
