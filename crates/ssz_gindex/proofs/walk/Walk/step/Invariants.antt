use Rattle.std.proofs.Common.{◌≤◌, List, ℕ}
use Rattle.ssz_gindex.specs.Walk.{WalksHelpers, height}
use Rattle.ssz_gindex.proofs.walk.Walk.step.Given as goal

abbrev pub invariant-loop-node : goal.invariant-loop-node
invariant-loop-node l = record {
  walks : (indices found : List ℕ)
      → WalksHelpers indices l.fn.self.indices.items l.fn.self.parents.items found
      → WalksHelpers indices l.self.indices.items l.self.parents.items found;
  up : height l.self.indices.items l.self.parents.items
      ≤ height l.fn.self.indices.items l.fn.self.parents.items;
}

abbrev pub decreases-loop-node : goal.decreases-loop-node
decreases-loop-node l = height l.self.indices.items l.self.parents.items
