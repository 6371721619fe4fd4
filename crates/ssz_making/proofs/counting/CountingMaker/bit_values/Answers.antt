use Rattle.std.proofs.Common.{sym}
use Rattle.ssz_making.proofs.ValueForms.{bits-part}
use Rattle.ssz_making.proofs.Tallying.{IsTallyOf-same}
use Rattle.ssz_making.proofs.counting.CountingMaker.bit_values.Goals as goal

pub returns : goal.returns
returns c = IsTallyOf-same _ _ _ c.chunks.ensures (sym (bits-part c.args.depth c.args.bits.now))
