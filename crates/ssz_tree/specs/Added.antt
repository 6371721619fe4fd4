-- What a call that makes nodes adds to an arena.
use Rattle.std.specs.Prelude.{◌≡◌, ℕ, ◌+◌, ◌*◌, ◌≤◌, max}
use Rattle.ssz_arena.specs.declared.node.NodeId.{NodeId}
use Rattle.ssz_making.specs.Parts.{MadePart}
use Rattle.ssz_arena.specs.Content.{ArenaContent, tree_of, todo, unhashed, node_count, IsNodeOf, KeepsNodes, KeepsTodo}

-- every node stays as it was, with as much to be hashed for it; at most so many nodes are new, and
-- at most so many pairs more are without a root; so much room at most is taken, and where there is
-- as much, no memory is
pub record AddsNodes (nodes pairs : ℕ) (old new : ArenaContent) : Type 0 where
  pub keeps : KeepsNodes old new
  pub same : KeepsTodo old new
  pub count : node_count new ≤ node_count old + nodes
  pub unhashed : unhashed new ≤ unhashed old + pairs
  pub spare : old.spare ≤ new.spare + nodes
  pub room : nodes ≤ old.spare → node_count new + new.spare ≡ node_count old + old.spare

-- a call that takes memory takes it for so many nodes, or doubles the room for all of them
abbrev pub TakesRoom : ℕ → ArenaContent → ArenaContent → Type 0
TakesRoom nodes old new =
    node_count new + new.spare
    ≤ max (2 * (node_count old + old.spare)) (node_count old + nodes)

-- the node has the tree, and no more is to be hashed for it
pub record IsPartNode (arena : ArenaContent) (part : MadePart) (id : NodeId) : Type 0 where
  pub node : IsNodeOf arena id
  pub tree : tree_of arena id ≡ part.tree
  pub todo : todo arena id ≤ part.cost

-- the node of a part was made: no more nodes are new than are made for it, and no more pairs than
-- it costs
pub record MakesNode (old new : ArenaContent) (part : MadePart) (id : NodeId) : Type 0 where
  pub is : IsPartNode new part id
  pub adds : AddsNodes part.nodes part.cost old new
