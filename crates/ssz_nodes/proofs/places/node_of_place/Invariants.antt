use Rattle.std.proofs.Common.{◌≡◌, ◌^◌, ◌<◌, List}
use Rattle.ssz_chunk.specs.Tree.{Tree, merkle_tree}
use Rattle.ssz_arena.specs.Content.{IsNodeOf, tree_of}
use Rattle.ssz_nodes.proofs.Placed.{Nearer}
use Rattle.ssz_nodes.proofs.places.node_of_place.Given as goal

abbrev pub invariant-loop-level : goal.invariant-loop-level
invariant-loop-level g l =
    IsNodeOf l.arena l.here
    × ((trees : List Tree) → l.i < 2 ^ l.fn.top.depth → tree_of l.arena l.fn.top.node ≡ merkle_tree
    l.fn.top.depth trees
    → Nearer l.arena trees l.i l.level l.here)
