use Rattle.std.proofs.Common.{length}
use Rattle.ssz_plain.proofs.reading.+present.Given as goal

abbrev pub decreases-present : goal.decreases-present
decreases-present l = length l.path.now
