use Rattle.ssz_upgrade.proofs.Walking.{PickedSoFar}
use Rattle.ssz_upgrade.proofs.fields.nodes_taken.Given as goal

abbrev pub invariant-loop-number : goal.invariant-loop-number
invariant-loop-number l = PickedSoFar l.nodes l.taken l.number-index l.given.items
