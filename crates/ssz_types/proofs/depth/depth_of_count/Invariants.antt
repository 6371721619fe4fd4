use Rattle.std.proofs.Common.{◌≡◌, ◌+◌}
use Rattle.ssz_types.specs.Sizes.{depth_of}
use Rattle.ssz_types.proofs.depth.depth_of_count.Given as goal

abbrev pub invariant-loop-depth : goal.invariant-loop-depth
invariant-loop-depth l = l.depth + depth_of l.rest ≡ depth_of l.count
