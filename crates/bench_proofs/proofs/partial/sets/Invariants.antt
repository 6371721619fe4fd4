use Rattle.std.proofs.Common.{◌≡◌}
use Rattle.bench_proofs.proofs.partial.sets.Given as goal

abbrev pub invariant-loop-i : goal.invariant-loop-i
invariant-loop-i l = l.partial.id ≡ l.typed.id
