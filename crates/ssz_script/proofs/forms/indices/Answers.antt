use Rattle.std.proofs.Common.{arith}
use Rattle.ssz_line.specs.Paths.{index}
use Rattle.ssz_line.proofs.ReadAll.{after_read-turn}
use Rattle.ssz_script.proofs.forms.indices.Goals as goal

pub loop-word-preserved : goal.loop-word-preserved
loop-word-preserved c = record {
  read = after_read-turn index _ _ _ _ _ _ _ c.loop-word.invariant.read c.in-Some.ensures
      c.in_ok-read_index.ensures c.in_ok-push-2.ensures.items;
  some = omega (arith, c.in_ok-push-2.ensures.len);
}
