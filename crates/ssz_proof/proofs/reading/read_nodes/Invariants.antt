use Rattle.std.proofs.Common.{length}
use Rattle.ssz_proof.proofs.ReadingSteps.{NodesSoFar}
use Rattle.ssz_proof.proofs.reading.read_nodes.Given as goal

abbrev pub invariant-loop-word : goal.invariant-loop-word
invariant-loop-word l = NodesSoFar l.initial.words l.words l.nodes.items

abbrev pub decreases-loop-word : goal.decreases-loop-word
decreases-loop-word l = length l.words
