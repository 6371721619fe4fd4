use Rattle.std.proofs.Common.{refl}
use Rattle.ssz_schema.specs.Types.{uint}
use Rattle.ssz_schema.specs.Sizes.{byte_count}
use Rattle.ssz_reading.proofs.Parts.{basic_read}
use Rattle.ssz_reading.proofs.packed.put_number.Goals as goal

pub returns-in_default : goal.returns-in_default
returns-in_default c = record {
  put = λ node shows v h. record {
    value = c.value_at-in_default.result;
    items = c.push_reserved-in_default.ensures.items;
    stands = basic_read (uint c.args.width) (byte_count c.args.width) node c.args.chunk.now.0
        c.value_at-in_default.result refl (λ w. tt) shows c.value_at-in_default.ensures v h;
  };
  len = c.push_reserved-in_default.ensures.len;
  capacity = c.push_reserved-in_default.ensures.capacity;
}
