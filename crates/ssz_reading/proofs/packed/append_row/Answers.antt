use Rattle.std.proofs.Common.{ℕ, ◌+◌, ◌*◌, ◌<◌, ◌≤◌, length, map, ◌∙◌, arith}
use Rattle.std.proofs.Math.Nat.{mul-le-mul_left}
use Rattle.ssz_value.specs.Standing.{value_of}
use Rattle.ssz_reading.proofs.PackedParts.{chunks_of, values_row}
use Rattle.ssz_reading.proofs.packed.append_row.Goals as goal

pub append_values-requires-clause-within : goal.append_values-requires-clause-within
append_values-requires-clause-within g c = λ size is.
    omega (arith, c.requires.per_chunk size is)

-- there are the values of another chunk
one_more : (per j i n many : ℕ) → i < n → per * (j + n) ≤ many → per * (j + i) + per ≤ many
one_more per j i n many below within =
    let next : per * (j + i + 1) ≤ per * (j + n) = mul-le-mul_left per (omega arith) in
    omega (arith, next)

pub loop-node-preserved : goal.loop-node-preserved
loop-node-preserved g c = record {
  values = λ vs j fit are within.
      values_row vs c.args.per_chunk j c.loop-node.node-index
      (map value_of c.args.parts.now.items) (map value_of c.loop-node.parts.items)
      (map value_of c.append_values.new.parts.items)
      (c.loop-node.invariant.values vs j fit are within)
      (c.append_values.ensures.values vs (j + c.loop-node.node-index)
      (c.args.per_chunk * (j + c.loop-node.node-index)) fit
      (c.chunk_of.ensures _ (are c.loop-node.node-index c.loop-node-test.true))
      (λ size is. chunks_of c.args.per_chunk (j + c.loop-node.node-index) size
      (c.requires.per_chunk size is))
      (one_more c.args.per_chunk j c.loop-node.node-index (length c.args.row.now) (length vs)
      c.loop-node-test.true within));
  len = omega (arith, c.append_values.ensures.len, c.loop-node.invariant.len);
  capacity = c.append_values.ensures.capacity ∙ c.loop-node.invariant.capacity;
}
