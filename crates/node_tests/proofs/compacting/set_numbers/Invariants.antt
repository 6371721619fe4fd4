use Rattle.ssz_arena.specs.Content.{IsNodeOf}
use Rattle.node_tests.proofs.compacting.set_numbers.Given as goal

abbrev pub invariant-loop-number : goal.invariant-loop-number
invariant-loop-number g l = IsNodeOf l.arena l.node
