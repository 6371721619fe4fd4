use Rattle.std.proofs.Common.{take}
use Rattle.ssz_gindex.specs.Walk.{WalksHelpers}
use Rattle.ssz_gindex.proofs.helpers.are_helpers.Given as goal

abbrev pub invariant-loop-node : goal.invariant-loop-node
invariant-loop-node l = WalksHelpers l.indices l.walk.indices.items l.walk.parents.items
    (take l.node-index l.nodes)
