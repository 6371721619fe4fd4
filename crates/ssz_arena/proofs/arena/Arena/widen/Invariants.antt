use Rattle.ssz_arena.proofs.Widening.{Widened}
use Rattle.ssz_arena.proofs.arena.Arena.widen.Given as goal

abbrev pub invariant-loop-i : goal.invariant-loop-i
invariant-loop-i g l = Widened l.self l.len l.i l.initial.row l.row
