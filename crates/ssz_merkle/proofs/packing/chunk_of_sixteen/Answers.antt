use Rattle.std.proofs.Common.{ap, sym}
use Rattle.ssz_merkle.specs.Packing.{padded}
use Rattle.ssz_lanes.proofs.Few.{all-values}
use Rattle.ssz_merkle.proofs.packing.chunk_of_sixteen.Goals as goal

pub returns : goal.returns
returns c = sym (ap padded (all-values 16 c.args.bytes.now c.requires))
