use Rattle.std.proofs.Common.{length}
use Rattle.script_rows.proofs.script.push_script.Given as goal

abbrev pub decreases-loop-next : goal.decreases-loop-next
decreases-loop-next l = length l.statements
