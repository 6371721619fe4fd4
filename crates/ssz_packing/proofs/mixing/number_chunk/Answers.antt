use Rattle.std.proofs.Common.{◌∙◌, ◌++◌, ℕ, List, replicate, sym, ap, arith}
use Rattle.ssz_packing.proofs.Numbers.{le_bytes-zeros}
use Rattle.ssz_packing.proofs.mixing.number_chunk.Goals as goal

pub returns : goal.returns
returns c =
    ap (λ (bytes : List ℕ). bytes ++ replicate 16 0) c.put_uint.ensures
    ∙ sym (le_bytes-zeros 16 16 c.args.number (omega (arith, c.ranges.number.fits)))
