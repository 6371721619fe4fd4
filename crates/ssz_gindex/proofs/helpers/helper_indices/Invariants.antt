use Rattle.ssz_gindex.specs.Walk.{WalksHelpers, height}
use Rattle.ssz_gindex.proofs.helpers.helper_indices.Given as goal

abbrev pub invariant-loop-found : goal.invariant-loop-found
invariant-loop-found l = WalksHelpers l.indices l.walk.indices.items l.walk.parents.items
    l.found.items

abbrev pub decreases-loop-found : goal.decreases-loop-found
decreases-loop-found l = height l.walk.indices.items l.walk.parents.items
