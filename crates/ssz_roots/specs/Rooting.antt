-- What a root's maker keeps, over the pairs that a hasher counted.
use Rattle.std.specs.Prelude.{◌≡◌, ℕ, ◌+◌, List, length, map}
use Rattle.ssz_chunk.specs.Chunk.{CountsUp}
use Rattle.ssz_chunk.specs.Tree.{root}
use Rattle.ssz_merkle.specs.Frontier.{Frontier, FrontierHolds, whole_pairs}
use Rattle.ssz_making.specs.Parts.{MadePart, part_trees, costs}

-- the root of a part was made, with as many pairs as it costs
pub record Roots (pair_of : List ℕ → List ℕ → List ℕ) (start now : ℕ) (part : MadePart)
    (out : List ℕ) : Type 0 where
  pub root : out ≡ root pair_of part.tree
  pub counts : CountsUp part.cost start now

-- the roots of these parts were made and pushed, with their pairs
pub record PushesRoots (pair_of : List ℕ → List ℕ → List ℕ) (start now : ℕ) (d : ℕ)
    (parts : List MadePart) (rows : Frontier) : Type 0 where
  pub deep : rows.depth ≡ d
  pub holds : FrontierHolds pair_of (map (root pair_of) (part_trees parts)) rows
  pub counts : CountsUp (whole_pairs d (length parts) + costs parts) start now
