use Rattle.std.proofs.Common.{length}
use Rattle.edit_rows.proofs.engine_weave.push_replies.Given as goal

abbrev pub decreases-loop-next : goal.decreases-loop-next
decreases-loop-next g l = length l.lines
