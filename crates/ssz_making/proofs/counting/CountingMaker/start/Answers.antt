use Rattle.ssz_making.proofs.Summing.{sums_none}
use Rattle.ssz_making.proofs.counting.CountingMaker.start.Goals as goal

pub returns : goal.returns
returns c = sums_none _ _ c.above.ensures
