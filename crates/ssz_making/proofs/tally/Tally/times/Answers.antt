use Rattle.ssz_making.proofs.Saturating.{counted_times}
use Rattle.ssz_making.proofs.tally.Tally.times.Goals as goal

pub returns : goal.returns
returns c = λ p n counted. record {
  pairs = counted_times p c.args.count _ _ c.requires counted.pairs c.saturating_mul.ensures;
  nodes = counted_times n c.args.count _ _ c.requires counted.nodes c.saturating_mul-2.ensures;
}
