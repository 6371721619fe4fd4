use Rattle.std.proofs.Common.{◌-◌, ◌^◌}
use Rattle.ssz_prove.proofs.Walked.{Walks}
use Rattle.ssz_prove.proofs.finding.walk.Given as goal

abbrev pub invariant-places : goal.invariant-places
invariant-places g l =
    Walks l.arena l.fn.top l.asked l.beside l.found.spots.items l.found.leaves.items
    l.found.nodes.items l.met

abbrev pub decreases-places : goal.decreases-places
decreases-places g l = 2 ^ 64 - l.met
