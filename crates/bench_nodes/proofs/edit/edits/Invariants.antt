use Rattle.ssz_arena.specs.Content.{IsNodeOf}
use Rattle.bench_nodes.proofs.edit.edits.Given as goal

abbrev pub invariant-loop-i : goal.invariant-loop-i
invariant-loop-i g l = IsNodeOf l.arena l.node
