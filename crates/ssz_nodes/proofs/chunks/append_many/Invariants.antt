use Rattle.std.proofs.Common.{List, ℕ, ◌+◌, ◌≡◌, length}
use Rattle.ssz_arena.specs.Content.{tree_of}
use Rattle.ssz_nodes.specs.Ahead.{AheadAreNodes}
use Rattle.ssz_nodes.specs.Shown.{ArePacked, ExtendsBytes}
use Rattle.ssz_nodes.proofs.Chunked.{BytesLeft}
use Rattle.ssz_nodes.proofs.chunks.append_many.Given as goal

abbrev pub invariant-loop-left : goal.invariant-loop-left
invariant-loop-left g l =
    AheadAreNodes l.arena l.places
    × ExtendsBytes l.initial.out.items l.out.items
    × (length l.out.items + l.left ≡ length l.initial.out.items + l.len)
    × ((bytes : List ℕ) → ArePacked l.fn.top.depth l.len bytes (tree_of l.arena l.fn.top.node)
    → BytesLeft l.arena bytes l.initial.out.items l.left l.out.items l.places)

abbrev pub decreases-loop-left : goal.decreases-loop-left
decreases-loop-left g l = l.left
