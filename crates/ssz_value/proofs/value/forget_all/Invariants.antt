use Rattle.std.proofs.Common.{vec_len}
use Rattle.ssz_value.proofs.value.forget_all.Given as goal

abbrev pub decreases-items : goal.decreases-items
decreases-items g l = vec_len l.items
