use Rattle.std.proofs.Common.{◌+◌, ◌/◌}
use Rattle.ssz_packing.specs.Bits.{undelimited}
use Rattle.ssz_making.proofs.Tallying.{tally-chunks}
use Rattle.ssz_making.proofs.counting.CountingMaker.bits.Goals as goal

pub returns : goal.returns
returns c = tally-chunks c.args.depth ((c.args.len + 255) / 256) (undelimited c.args._bytes.now) _
    c.chunks.ensures
