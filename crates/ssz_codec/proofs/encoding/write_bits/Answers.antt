use Rattle.std.proofs.Common.{◌∙◌, ap, sym, refl, arith}
use Rattle.ssz_bytes.specs.Bytes.{bits_size}
use Rattle.ssz_bytes.proofs.Numbers.{length-le_bytes}
use Rattle.ssz_codec.proofs.EncodingLemmas.{run_writes}
use Rattle.ssz_codec.proofs.encoding.write_bits.Goals as goal

pub slice_bounds-put_bits-end : goal.slice_bounds-put_bits-end
slice_bounds-put_bits-end c =
    let size = c.bits_len-len.ensures ∙ ap (bits_size c.args.delimiter) c.len.ensures in
    omega (arith, c.requires.room, size)

pub returns : goal.returns
returns c =
    let size = c.bits_len-len.ensures ∙ ap (bits_size c.args.delimiter) c.len.ensures in
    run_writes _ c.put_bits.new.bytes _ _ c.bits_len-len.result refl (size
    ∙ sym (length-le_bytes _ _)) c.put_bits.ensures
