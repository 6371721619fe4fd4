use Rattle.std.proofs.Common.{Bool, List, ◌≡◌, ◌<◌, ◌*◌, ◌+◌, ◌∙◌, take, drop, replicate, length, slice_set, ap, subst, refl, arith, length-set}
use Rattle.std.proofs.lemmas.List.{take_rest}
use Rattle.ssz_bytes.specs.Bytes.{le_bytes, number_of_bits}
use Rattle.ssz_basic.proofs.PutLemmas.{BitsPut, BitsPut-start, BitsPut-more, BitsPut-end}
use Rattle.ssz_packing.proofs.bit_values.bits_chunk.Goals as goal

pub loop-j-init : goal.loop-j-init
loop-j-init c = record { put = BitsPut-start _ (replicate 32 0); count = refl }

pub loop-j-preserved : goal.loop-j-preserved
loop-j-preserved c =
    let below : c.loop-j.j < length c.loop-j.bytes = omega (arith, c.loop-j.invariant.count) in
    let next : 8 * c.loop-j.j + 8 ≡ 8 * (c.loop-j.j + 1) = omega arith in
    let byte = c.byte_from.ensures ∙ ap (λ (bits : List Bool). number_of_bits
    (take 8 (drop (8 * c.loop-j.j) bits))) (take_rest c.args.bits.now (256 * c.args.i)) in
    record {
      put = subst (λ from. BitsPut (drop (256 * c.args.i) c.args.bits.now)
          (slice_set c.loop-j.bytes c.loop-j.j c.byte_from.result) (c.loop-j.j + 1) from) next
          (BitsPut-more _ _ _ _ _ c.loop-j.invariant.put below byte);
      count = length-set c.loop-j.bytes c.loop-j.j _ ∙ c.loop-j.invariant.count;
    }

pub returns : goal.returns
returns c =
    BitsPut-end _ _ _ _ c.loop-j.invariant.put (omega (arith, c.loop-j.invariant.count))
    ∙ ap (λ n. le_bytes n (number_of_bits (drop (256 * c.args.i) c.args.bits.now)))
    c.loop-j.invariant.count
