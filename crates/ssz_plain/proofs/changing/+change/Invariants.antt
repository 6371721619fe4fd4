use Rattle.std.proofs.Common.{◌+◌, ◌*◌, length}
use Rattle.ssz_plain.proofs.changing.+change.Given as goal

abbrev pub decreases-change : goal.decreases-change
decreases-change l = 2 * length l.path.now + 1

abbrev pub decreases-change_item : goal.decreases-change_item
decreases-change_item l = 2 * length l.path.now

abbrev pub decreases-change_inner : goal.decreases-change_inner
decreases-change_inner l = 2 * length l.path.now
