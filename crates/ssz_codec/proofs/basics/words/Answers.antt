use Rattle.std.proofs.Common.{◌∙◌, ◌+◌, ◌*◌, Some, sym, subst, arith}
use Rattle.std.specs.List.{AllByRecursion}
use Rattle.ssz_schema.specs.width.Width.TheVariants.{W64}
use Rattle.ssz_schema.specs.Types.{uint}
use Rattle.ssz_value.specs.Standing.{IsFormed}
use Rattle.ssz_value.proofs.PartLemmas.{values_push}
use Rattle.ssz_value.proofs.FormLemmas.{formed_push}
use Rattle.ssz_codec.proofs.ReadLemmas.{ReadFrom, ReadFrom-fixed}
use Rattle.ssz_codec.proofs.basics.words.Goals as goal

pub loop-i-preserved : goal.loop-i-preserved
loop-i-preserved c =
    record {
      read = subst (ReadFrom (uint W64) (Some 8) c.args.count
          c.args.bytes.now (c.loop-i.i + 1) ((c.loop-i.i + 1) * 8))
          (sym (values_push _ _ c.narrow_in.result c.push_reserved.ensures.items))
          (ReadFrom-fixed (uint W64) 8 c.args.count c.args.bytes.now c.loop-i.i _ _
          c.loop-i.invariant.read c.loop-i-test.true c.narrow_in.ensures.value);
      formed = subst (AllByRecursion (IsFormed (uint W64))) (sym c.push_reserved.ensures.items)
          (formed_push (uint W64) c.loop-i.parts.items c.narrow_in.result
          c.loop-i.invariant.formed c.narrow_in.ensures.formed);
      count = omega (arith, c.push_reserved.ensures.len, c.loop-i.invariant.count);
      room = c.push_reserved.ensures.capacity ∙ c.loop-i.invariant.room;
    }
