use Rattle.std.proofs.Common.{◌==◌, ap, arith}
use Rattle.ssz_basic.proofs.BitLemmas.{bit_of_bytes}
use Rattle.ssz_basic.proofs.bits.bit.Goals as goal

pub returns : goal.returns
returns c = ap (λ n. n == 1)
    (bit_of_bytes c.args.bytes.now c.args.i (λ i. omega (arith, c.type_inv.bytes i)))
