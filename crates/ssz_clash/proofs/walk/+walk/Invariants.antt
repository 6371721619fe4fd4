use Rattle.std.proofs.Common.{◌-◌}
use Rattle.ssz_chunk.specs.Index.{levels}
use Rattle.ssz_proof.specs.Calculation.{deepest, indices_of}
use Rattle.ssz_clash.proofs.walk.+walk.Given as goal

abbrev pub decreases-walk : goal.decreases-walk
decreases-walk g l = deepest (indices_of l.first.now.leaves) - levels l.index
