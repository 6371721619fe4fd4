use Rattle.ssz_proof.proofs.AscendingSteps.{AscendsSoFar}
use Rattle.ssz_proof.proofs.proof.ascend.Given as goal

abbrev pub invariant-loop-entry : goal.invariant-loop-entry
invariant-loop-entry l = AscendsSoFar l.entries l.entry-index l.last
