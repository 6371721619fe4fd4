use Rattle.std.proofs.Common.{◌∙◌, ◌%◌, ◌^◌, ◌-◌, ℕ, List, length, slice_set, ap₂, arith}
use Rattle.ssz_packing.proofs.BitChunks.{same_chunk, other_chunk, shifted}
use Rattle.ssz_packing.proofs.bits.bit_chunk_at.Goals as goal
use Rattle.ssz_bytes.specs.Faults.{highest_bit, last_byte}

pub overflow_sub-chunk : goal.overflow_sub-chunk
overflow_sub-chunk c =
    let h = shifted c.args.bytes.now c.highest_bit.result (λ i. omega (arith, c.type_inv.bytes i))
    c.requires.some c.requires.delimited (c.highest_bit.ensures.exact) in
    omega (arith, h.0, h.1)

pub returns-then-last-i : goal.returns-then-last-i
returns-then-last-i c =
    let h = shifted c.args.bytes.now c.highest_bit.result (λ i. omega (arith, c.type_inv.bytes i))
    c.requires.some c.requires.delimited (c.highest_bit.ensures.exact) in
    ap₂ (λ (chunk : List ℕ) n. slice_set chunk ((length c.args.bytes.now - 1) % 32) n)
    c.chunk_at-chunk.ensures h.2
    ∙ same_chunk c.args.bytes.now (length c.args.bytes.now - 1) c.args.i
    (last_byte c.args.bytes.now - 2 ^ highest_bit (last_byte c.args.bytes.now))
    (omega (arith, c.requires.some)) c.if-last-i.true

pub returns-else-last-i : goal.returns-else-last-i
returns-else-last-i c =
    c.chunk_at-chunk.ensures ∙ other_chunk c.args.bytes.now (length c.args.bytes.now - 1) c.args.i
    (last_byte c.args.bytes.now - 2 ^ highest_bit (last_byte c.args.bytes.now))
    (omega (arith, c.requires.some)) c.if-last-i.false
