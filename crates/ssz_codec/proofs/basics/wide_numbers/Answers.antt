use Rattle.std.proofs.Common.{◌+◌, ◌*◌, Some, sym, subst}
use Rattle.std.specs.List.{AllByRecursion}
use Rattle.ssz_schema.specs.width.Width.TheVariants.{W256}
use Rattle.ssz_schema.specs.Types.{uint}
use Rattle.ssz_value.specs.Standing.{IsFormed}
use Rattle.ssz_value.proofs.PartLemmas.{values_push}
use Rattle.ssz_value.proofs.FormLemmas.{formed_push}
use Rattle.ssz_codec.proofs.ReadLemmas.{ReadFrom, ReadFrom-fixed}
use Rattle.ssz_codec.proofs.basics.wide_numbers.Goals as goal

pub loop-i-preserved : goal.loop-i-preserved
loop-i-preserved c =
    record {
      read = subst (ReadFrom (uint W256) (Some 32) c.args.count
          c.args.bytes.now (c.loop-i.i + 1) ((c.loop-i.i + 1) * 32))
          (sym (values_push _ _ c.wide_in.result c.in_ok-push.ensures.items))
          (ReadFrom-fixed (uint W256) 32 c.args.count c.args.bytes.now c.loop-i.i _ _
          c.loop-i.invariant.read c.loop-i-test.true c.wide_in.ensures.value);
      formed = subst (AllByRecursion (IsFormed (uint W256))) (sym c.in_ok-push.ensures.items)
          (formed_push (uint W256) c.loop-i.parts.items c.wide_in.result
          c.loop-i.invariant.formed c.wide_in.ensures.formed);
    }
