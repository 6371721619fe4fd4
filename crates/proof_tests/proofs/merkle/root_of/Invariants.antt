use Rattle.std.proofs.Common.{◌≡◌}
use Rattle.proof_tests.proofs.merkle.root_of.Given as goal

abbrev pub invariant-loop-first : goal.invariant-loop-first
invariant-loop-first g l = record {
  depth : l.stack.depth ≡ l.depth;
  pushed : l.stack.pushed ≡ l.first-index;
}
