use Rattle.std.proofs.Common.{◌<◌, length, ◌∙◌, arith, length-set}
use Rattle.ssz_writing.specs.Leaves.{IsLeafLen}
use Rattle.ssz_writing.proofs.Leafed.{more_numbers}
use Rattle.ssz_writing.proofs.leaves.leaf_lens.Goals as goal

pub loop-i-preserved : goal.loop-i-preserved
loop-i-preserved c =
    let room : c.loop-i.i < length c.loop-i.lens =
    omega (arith, c.loop-i-test.true, c.requires.few, c.loop-i.invariant.0) in (
      length-set c.loop-i.lens c.loop-i.i c.leaf_len.result ∙ c.loop-i.invariant.0,
      more_numbers IsLeafLen c.args.schema.now.trees c.args.fields.now c.loop-i.lens c.loop-i.i
          c.leaf_len.result c.index-fields-i.result room c.loop-i.invariant.1
          c.index-fields-i.is c.loop-i-test.true c.leaf_len.ensures,
    )
