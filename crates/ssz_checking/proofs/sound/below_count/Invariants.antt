use Rattle.ssz_checking.proofs.SoundLemmas.{BelowBefore}
use Rattle.ssz_checking.proofs.sound.below_count.Given as goal

abbrev pub invariant-loop-i : goal.invariant-loop-i
invariant-loop-i l = BelowBefore l.bound l.row.step l.place l.bytes l.i
