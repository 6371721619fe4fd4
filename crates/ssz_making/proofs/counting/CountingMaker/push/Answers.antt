use Rattle.ssz_making.proofs.Summing.{sums_more}
use Rattle.ssz_making.proofs.counting.CountingMaker.push.Goals as goal

pub returns : goal.returns
returns c = λ start middle d n parts one before is.
    sums_more _ parts one _ _ _ before is c.plus.ensures
