use Rattle.std.proofs.Common.{length}
use Rattle.library_tour.proofs.scripts.read.Given as goal

abbrev pub decreases-loop-next : goal.decreases-loop-next
decreases-loop-next l = length l.statements
