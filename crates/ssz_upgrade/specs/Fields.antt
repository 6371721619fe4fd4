-- The nodes of the fields of a container.
use Rattle.std.specs.Prelude.{ℕ, ◌≡◌, ◌+◌, ◌^◌, ◌<◌, List, length, Option, Some, None, slice_get}
use Rattle.std.specs.Option.{option_and_then}
use Rattle.ssz_chunk.specs.Index.{at, way}
use Rattle.ssz_arena.specs.declared.node.NodeId.{NodeId}
use Rattle.ssz_arena.specs.Content.{ArenaContent, tree_of, node_at, IsNodeOf}
use Rattle.ssz_arena.specs.Laws.{ArePlaces}

-- what a place of the tree has: field i of a container whose fields lie at depth d is at 2 ^ d + i
pub record FieldStandsAt (arena : ArenaContent) (node : NodeId) (place : ℕ) (field : NodeId)
    : Type 0 where
  pub node_of : IsNodeOf arena field
  pub tree : at (tree_of arena node) place ≡ Some (tree_of arena field)
  pub found : node_at arena.nodes node (way place) ≡ Some field

abbrev pub IsFieldAt : ArenaContent → NodeId → ℕ → ℕ → Option NodeId → Type 0
IsFieldAt arena node d i (Some field) = FieldStandsAt arena node (2 ^ d + i) field
IsFieldAt arena node d i None = at (tree_of arena node) (2 ^ d + i) ≡ None

-- the nodes of the first fields: of so many, where the tree has them all
pub record AreFieldNodes (arena : ArenaContent) (node : NodeId) (d count : ℕ) (nodes : List NodeId)
    : Type 0 where
  pub places : ArePlaces arena node d nodes
  pub each : (i : ℕ) (field : NodeId) → slice_get nodes i ≡ Some field
      → FieldStandsAt arena node (2 ^ d + i) field
  pub all : ((i : ℕ) → i < count → at (tree_of arena node) (2 ^ d + i) ≡ None → ⊥)
      → length nodes ≡ count

-- the node of this number, if any
abbrev pub pick : List NodeId → Option ℕ → Option NodeId
pick nodes number = option_and_then (slice_get nodes) number
