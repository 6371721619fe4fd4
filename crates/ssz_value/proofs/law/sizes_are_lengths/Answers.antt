use Rattle.ssz_value.proofs.SizeLaw.{measured}
use Rattle.ssz_value.proofs.law.sizes_are_lengths.Goals as goal

pub returns : goal.returns
returns c = λ t. (measured t).length_is
