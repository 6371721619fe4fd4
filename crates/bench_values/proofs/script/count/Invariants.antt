use Rattle.std.proofs.Common.{length}
use Rattle.bench_values.proofs.script.count.Given as goal

abbrev pub decreases-loop-next : goal.decreases-loop-next
decreases-loop-next l = length l.statements
