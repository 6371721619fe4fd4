use Rattle.std.proofs.Common.{◌≡◌, ◌++◌, length}
use Rattle.ssz_line.proofs.collecting.all_of.Given as goal

-- the steps that were taken, and those that are left, are all
abbrev pub invariant-loop-steps : goal.invariant-loop-steps
invariant-loop-steps l = l.steps.items ++ l.left ≡ l.fn.left

abbrev pub decreases-loop-steps : goal.decreases-loop-steps
decreases-loop-steps l = length l.left
