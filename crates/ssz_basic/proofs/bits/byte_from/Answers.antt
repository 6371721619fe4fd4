use Rattle.std.proofs.Common.{arith, ◌<◌, ◌≤◌, ◌∙◌, ap}
use Rattle.ssz_bytes.specs.Bytes.{bit_value}
use Rattle.ssz_basic.proofs.PutLemmas.{ByteOf-small, ByteOf-more, bit_number, bit_small}
use Rattle.ssz_basic.proofs.bits.byte_from.Goals as goal

pub overflow_mul-byte : goal.overflow_mul-byte
overflow_mul-byte c =
    let small : c.loop-k.byte < 128 = ByteOf-small _ _ _ _ c.loop-k.invariant c.loop-k-test.true in
    omega arith

pub overflow_add-byte : goal.overflow_add-byte
overflow_add-byte c =
    let small : c.loop-k.byte < 128 = ByteOf-small _ _ _ _ c.loop-k.invariant c.loop-k-test.true in
    let bit : c.from.result ≤ 1 =
    omega (
      arith,
      c.from.ensures,
      bit_number c.bit_or_delimiter-bit.result,
      bit_small
          c.bit_or_delimiter-bit.result,
    ) in
    omega arith

pub loop-k-preserved : goal.loop-k-preserved
loop-k-preserved c =
    ByteOf-more _ _ _ _ _ c.loop-k.invariant c.loop-k-test.true (c.from.ensures
    ∙ bit_number c.bit_or_delimiter-bit.result ∙ ap bit_value c.bit_or_delimiter-bit.ensures)
