use Rattle.std.proofs.Common.{◌≡◌}
use Rattle.ssz_said.specs.Branch.{climbed, index_up}
use Rattle.ssz_said.proofs.branch.top_of.Given as goal

-- the chunk so many levels up, and the index there
abbrev pub invariant-loop-level : goal.invariant-loop-level
invariant-loop-level l =
    (l.value.0 ≡ climbed l.level l.leaf l.fn.index l.branch) × (l.place ≡ index_up l.level l.fn.index)
