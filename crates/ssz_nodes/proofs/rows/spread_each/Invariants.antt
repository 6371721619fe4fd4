use Rattle.std.proofs.Common.{◌≡◌, ℕ, ◌<◌, List, length}
use Rattle.std.specs.List.{All}
use Rattle.ssz_chunk.specs.Tree.{Tree, merkle_tree}
use Rattle.ssz_arena.specs.Content.{IsNodeOf, row_node, tree_of}
use Rattle.ssz_nodes.proofs.Spreading.{Spread}
use Rattle.ssz_nodes.proofs.rows.spread_each.Given as goal

abbrev pub invariant-loop-level : goal.invariant-loop-level
invariant-loop-level g l =
    (length l.row ≡ length l.initial.row)
    × All (IsNodeOf l.arena) l.row
    × ((k : ℕ) (trees : List Tree) → k < l.count
    → tree_of l.arena (row_node l.initial.row k) ≡ merkle_tree l.depth trees
    → Spread l.arena trees l.depth l.level k l.row)
