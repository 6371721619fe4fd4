-- The nodes at some indices of a node's tree, and at their helper indices.
use Rattle.std.specs.Prelude.{◌≡◌, ◌≢◌, ℕ, ◌<◌, ◌^◌, List, [], map, Some}
use Rattle.std.specs.List.{AllByRecursion}
use Rattle.ssz_chunk.specs.Index.{at, way}
use Rattle.ssz_arena.specs.declared.node.NodeId.{NodeId}
use Rattle.ssz_arena.specs.Content.{ArenaContent, IsNodeOf, node_at, tree_of}
use Rattle.ssz_gindex.specs.Helpers.{AreFlat, helpers}
use Rattle.ssz_proof.specs.Multiproof.{AscendFrom}
use Rattle.ssz_prove.specs.declared.finding.Spot.{Spot}
use Rattle.ssz_prove.specs.declared.finding.Found.{Found}

abbrev pub places : List Spot → List ℕ
places spots = map (λ spot. spot.index) spots

-- a number that an index can have
pub record IsIndex (index : ℕ) : Type 0 where
  pub positive : 0 < index
  pub fits : index < 2 ^ 128

-- the node is what the tree has at the place
pub record IsSpot (arena : ArenaContent) (top : NodeId) (spot : Spot) : Type 0 where
  pub positive : 0 < spot.index
  pub node_of : IsNodeOf arena spot.node
  pub follows : node_at arena.nodes top (way spot.index) ≡ Some spot.node
  pub tree : at (tree_of arena top) spot.index ≡ Some (tree_of arena spot.node)

-- the nodes at these indices and at these helpers
pub record HasFound (arena : ArenaContent) (top : NodeId) (asked beside : List ℕ) (found : Found)
    : Type 0 where
  pub leaf_places : places found.leaves.items ≡ asked
  pub node_places : places found.nodes.items ≡ beside
  pub leaf_spots : AllByRecursion (IsSpot arena top) found.leaves.items
  pub node_spots : AllByRecursion (IsSpot arena top) found.nodes.items

-- the nodes at some indices, in ascending order, none of which is an ancestor of another, and at
-- exactly their helper indices, in descending order
pub record AreFound (arena : ArenaContent) (top : NodeId) (found : Found) : Type 0 where
  pub some : places found.leaves.items ≢ []
  pub rise : AscendFrom 0 (places found.leaves.items)
  pub flat : AreFlat (places found.leaves.items)
  pub has : HasFound arena top (places found.leaves.items)
      (helpers (places found.leaves.items)) found
