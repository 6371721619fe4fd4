use Rattle.std.proofs.Common.{arith, ◌<◌, length}
use Rattle.ssz_basic.proofs.PutLemmas.{BitsPut-more}
use Rattle.ssz_basic.proofs.bits.put_bits.Goals as goal

pub loop-byte-preserved : goal.loop-byte-preserved
loop-byte-preserved c =
    let below : c.loop-byte.byte-index < length c.loop-byte.bytes = omega arith in
    BitsPut-more _ _ _ _ _ c.loop-byte.invariant below c.byte_from.ensures
