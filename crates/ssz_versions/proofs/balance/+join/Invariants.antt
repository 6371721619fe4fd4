use Rattle.std.proofs.Common.{◌+◌, ◌*◌, length}
use Rattle.ssz_versions.proofs.balance.+join.Given as goal

-- the entries on both sides
abbrev pub decreases-join : goal.decreases-join
decreases-join l = 2 * (length l.left + length l.right) + 1

abbrev pub decreases-join_under_left : goal.decreases-join_under_left
decreases-join_under_left l = 2 * (length l.left + length l.right)

abbrev pub decreases-join_under_right : goal.decreases-join_under_right
decreases-join_under_right l = 2 * (length l.left + length l.right)
