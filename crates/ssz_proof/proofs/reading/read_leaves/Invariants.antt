use Rattle.std.proofs.Common.{length}
use Rattle.ssz_proof.proofs.ReadingSteps.{LeavesSoFar}
use Rattle.ssz_proof.proofs.reading.read_leaves.Given as goal

abbrev pub invariant-loop-word : goal.invariant-loop-word
invariant-loop-word l = LeavesSoFar l.initial.words l.words l.leaves.items

abbrev pub decreases-loop-word : goal.decreases-loop-word
decreases-loop-word l = length l.words
