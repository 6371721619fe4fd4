use Rattle.std.proofs.Common.{◌+◌, ◌/◌, length}
use Rattle.ssz_making.proofs.Tallying.{tally-chunks}
use Rattle.ssz_making.proofs.counting.CountingMaker.packed.Goals as goal

pub returns : goal.returns
returns c = tally-chunks c.args.depth ((length c.args.bytes.now + 31) / 32) c.args.bytes.now _
    c.chunks.ensures
