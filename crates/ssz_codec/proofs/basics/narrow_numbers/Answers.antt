use Rattle.std.proofs.Common.{◌+◌, ◌*◌, Some, sym, subst}
use Rattle.std.specs.List.{AllByRecursion}
use Rattle.ssz_schema.specs.Types.{uint}
use Rattle.ssz_value.specs.Standing.{IsFormed}
use Rattle.ssz_value.proofs.PartLemmas.{values_push}
use Rattle.ssz_value.proofs.FormLemmas.{formed_push}
use Rattle.ssz_codec.proofs.ReadLemmas.{ReadFrom, ReadFrom-fixed}
use Rattle.ssz_codec.proofs.basics.narrow_numbers.Goals as goal

pub loop-i-preserved : goal.loop-i-preserved
loop-i-preserved c =
    let size = c.byte_count-size.result in
    record {
      read = subst (ReadFrom (uint c.args.width) (Some c.byte_count-size.result) c.args.count
          c.args.bytes.now (c.loop-i.i + 1) ((c.loop-i.i + 1) * c.byte_count-size.result))
          (sym (values_push _ _ c.narrow_in.result c.in_ok-push.ensures.items))
          (ReadFrom-fixed (uint c.args.width) size c.args.count c.args.bytes.now c.loop-i.i _ _
          c.loop-i.invariant.read c.loop-i-test.true c.narrow_in.ensures.value);
      formed = subst (AllByRecursion (IsFormed (uint c.args.width)))
          (sym c.in_ok-push.ensures.items)
          (formed_push (uint c.args.width) c.loop-i.parts.items c.narrow_in.result
          c.loop-i.invariant.formed c.narrow_in.ensures.formed);
    }
