-- Where a path leads on the nodes of an arena, from the node of a value.
use Rattle.std.specs.Prelude.{ℕ, ◌≡◌, ◌<◌, length, Some, None, IsSome}
use Rattle.ssz_chunk.specs.Index.{way, at}
use Rattle.ssz_schema.specs.Unfolding.{Types, type_of}
use Rattle.ssz_schema.specs.Paths.{Path, path_type}
use Rattle.ssz_schema.specs.Indices.{Spot, whole, byte, bit, generalized_index, spot}
use Rattle.ssz_value.specs.Values.{SszValue}
use Rattle.ssz_value.specs.Parts.{part}
use Rattle.ssz_places.specs.PlaceLaws.{IsTreeOf}
use Rattle.ssz_arena.specs.declared.node.NodeId.{NodeId}
use Rattle.ssz_arena.specs.Content.{ArenaContent, tree_of, node_at, IsNodeOf}
use Rattle.ssz_walk.specs.declared.place.Place.{Place}
use Rattle.ssz_value.specs.declared.path_fault.PathFault.{PathFault}
use Rattle.ssz_value.specs.declared.path_fault.PathFault.TheVariants.{BadPath, Absent}
use Rattle.ssz_walk.specs.declared.place.Spot.{Spot as Lies}
use Rattle.ssz_walk.specs.declared.place.Spot.TheVariants.{Whole, Byte, Bit}

-- where a part lies in its node
abbrev pub spot_of : Lies → Spot
spot_of Whole = whole
spot_of (Byte at) = byte at
spot_of (Bit at) = bit at

-- the place at the end of a path by the type alone, from the node of a value of the type
pub record IsLed (types : Types) (arena : ArenaContent) (id : ℕ) (node : NodeId) (path : Path)
    (place : Place) : Type 0 where
  pub known : place.id < length types.trees
  pub inside : IsNodeOf arena place.node
  pub type_at : path_type (type_of types id) path ≡ Some (type_of types place.id)
  pub index_at : generalized_index (type_of types id) path ≡ Some place.index
  pub spot_at : spot (type_of types id) path ≡ Some (spot_of place.spot)
  pub tree_at : at (tree_of arena node) place.index ≡ Some (tree_of arena place.node)
  pub node_there : node_at arena.nodes node (way place.index) ≡ Some place.node

-- the index of the path leads below a leaf
abbrev pub LeadsNowhere : Types → ArenaContent → ℕ → NodeId → Path → Type 0
LeadsNowhere types arena id node path =
    (index : ℕ) → generalized_index (type_of types id) path ≡ Some index
    → at (tree_of arena node) index ≡ None

-- and each value of the type with this node's tree has a part there
pub record IsFound (types : Types) (arena : ArenaContent) (id : ℕ) (node : NodeId) (path : Path)
    (place : Place) : Type 0 where
  pub led : IsLed types arena id node path place
  pub present : (v : SszValue) → IsTreeOf (type_of types id) v (tree_of arena node)
      → IsSome (part (type_of types id) v path)

-- no value of the type with this tree has a part at the path
abbrev pub IsAbsent : Types → ArenaContent → ℕ → NodeId → Path → Type 0
IsAbsent types arena id node path =
    (v : SszValue) → IsTreeOf (type_of types id) v (tree_of arena node)
    → part (type_of types id) v path ≡ None

-- why a path leads to no part: it does not fit the type; or it fits, and the part is not there
abbrev pub IsLost : Types → ArenaContent → ℕ → NodeId → Path → PathFault → Type 0
IsLost types arena id node path BadPath = path_type (type_of types id) path ≡ None
IsLost types arena id node path Absent =
    IsSome (path_type (type_of types id) path) × IsAbsent types arena id node path
