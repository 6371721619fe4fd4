use Rattle.std.proofs.Common.{◌≡◌, ◌≤◌}
use Rattle.ssz_nodes.proofs.Taking.{Opening}
use Rattle.ssz_nodes.proofs.places.Places.fill.Given as goal

abbrev pub invariant-loop-below : goal.invariant-loop-below
invariant-loop-below g l =
    (l.low ≤ l.below)
    × (l.self-inside.left ≡ l.initial.self-inside.left)
    × (l.self-inside.row ≡ l.initial.self-inside.row)
    × (l.self-inside.reach ≡ l.initial.self-inside.reach)
    × Opening l.arena l.self-inside.left l.level l.below l.node l.initial.self-inside.nodes
    l.self-inside.nodes
