-- A container some of whose fields stand at nodes that are there, the others being their defaults.
use Rattle.std.specs.Prelude.{ℕ, ◌+◌, List, [], ◌∷◌, Option, Some, None, IfSome, min}
use Rattle.ssz_chunk.specs.Tree.{merkle_pairs}
use Rattle.ssz_schema.specs.Types.{SszType, Fields, container, no_fields, field}
use Rattle.ssz_schema.specs.Sizes.{depth, field_count}
use Rattle.ssz_value.specs.Defaults.{default_of, default_fields}
use Rattle.ssz_value.specs.Pairs.{pairs}
use Rattle.ssz_arena.specs.declared.node.NodeId.{NodeId}
use Rattle.ssz_arena.specs.Content.{ArenaContent, tree_of, todo, IsNodeOf}
use Rattle.ssz_tree.specs.Added.{AddsNodes, IsPartNode}
use Rattle.ssz_making.specs.Parts.{MadePart, whole_of, costs, field_parts}
use Rattle.ssz_tree.specs.Shared.{shared, shared_fields, default_part}

-- the tree of a node that is there, for which nothing is made
abbrev pub present_part : ArenaContent → NodeId → MadePart
present_part arena id = record { tree = tree_of arena id; cost = todo arena id; nodes = 0 }

-- a field at the node that is given for it, or its default
abbrev pub given_part : ArenaContent → SszType → Option NodeId → MadePart
given_part arena t (Some id) = present_part arena id
given_part arena t None = default_part t

-- the nodes that are made for it
abbrev pub made_at : SszType → Option NodeId → ℕ
made_at t (Some id) = 0
made_at t None = shared t

-- field by field; behind the end of what is given nothing is
abbrev pub parts_with : ArenaContent → Fields → List (Option NodeId) → List MadePart
parts_with arena no_fields given = []
parts_with arena (field name t fs) [] = default_part t ∷ parts_with arena fs []
parts_with arena (field name t fs) (node ∷ given) =
    given_part arena t node ∷ parts_with arena fs given

-- the fields for which no node is given
abbrev pub left_fields : Fields → List (Option NodeId) → Fields
left_fields no_fields given = no_fields
left_fields (field name t fs) [] = field name t fs
left_fields (field name t fs) (None ∷ given) = field name t (left_fields fs given)
left_fields (field name t fs) (Some id ∷ given) = left_fields fs given

-- their defaults
abbrev pub default_parts : Fields → List MadePart
default_parts fs = field_parts fs (default_fields fs)

-- the whole container; of another type the default
abbrev pub given_part_with : ArenaContent → SszType → List (Option NodeId) → MadePart
given_part_with arena (container fs) given =
    whole_of (depth (container fs)) (parts_with arena fs given)
given_part_with arena t given = default_part t

-- the nodes that are made for it: the pairs above all fields, and those of the defaults
abbrev pub shared_with : SszType → List (Option NodeId) → ℕ
shared_with (container fs) given =
    merkle_pairs (depth (container fs)) (field_count fs) + shared_fields (left_fields fs given)
shared_with t given = shared t

-- the pairs that come with it, those below the nodes given aside
abbrev pub pairs_with : SszType → List (Option NodeId) → ℕ
pairs_with (container fs) given =
    merkle_pairs (depth (container fs)) (field_count fs)
    + costs (default_parts (left_fields fs given))
pairs_with t given = pairs t (default_of t)

-- the node that is given, if any, is one of the arena
abbrev pub IsGiven : ArenaContent → Option NodeId → Type 0
IsGiven arena given = IfSome given (IsNodeOf arena)

-- the node of a full tree over the fields was made
pub record MakesFields (old new : ArenaContent) (d : ℕ) (fs : Fields) (given : List (Option NodeId))
    (id : NodeId) : Type 0 where
  pub is : IsPartNode new (whole_of d (parts_with old fs given)) id
  pub adds : (let above = merkle_pairs d (field_count fs) in
      let nodes = above + shared_fields (left_fields fs given) in
      AddsNodes nodes (min nodes (above + costs (default_parts (left_fields fs given)))) old new)
