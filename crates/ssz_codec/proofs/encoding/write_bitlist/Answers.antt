use Rattle.std.proofs.Common.{◌∙◌, List, ℕ, length, ap, sym, subst, arith}
use Rattle.ssz_bytes.proofs.Numbers.{length-le_bytes}
use Rattle.ssz_codec.specs.Writing.{WritesEncoding}
use Rattle.ssz_codec.proofs.EncodingLemmas.{bitlist_run}
use Rattle.ssz_codec.proofs.encoding.write_bitlist.Goals as goal

pub write_bits-requires-clause-room : goal.write_bits-requires-clause-room
write_bits-requires-clause-room c =
    let bytes = bitlist_run c.args.limit c.args.value.now c.in-Bits.run' c.in-Bits.is
    c.requires.value in
    omega (arith, c.requires.room, ap length bytes ∙ length-le_bytes _ _)

pub returns-in-Bits : goal.returns-in-Bits
returns-in-Bits c =
    let bytes = bitlist_run c.args.limit c.args.value.now c.in-Bits.run' c.in-Bits.is
    c.requires.value in
    subst (λ (bs : List ℕ). WritesEncoding bs c.write_bits.result c.write_bits.new.room)
    (sym bytes) c.write_bits.ensures
