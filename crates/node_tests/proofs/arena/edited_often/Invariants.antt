use Rattle.ssz_arena.specs.Content.{IsNodeOf}
use Rattle.node_tests.proofs.arena.edited_often.Given as goal

abbrev pub invariant-loop-i : goal.invariant-loop-i
invariant-loop-i l = IsNodeOf l.arena l.top
