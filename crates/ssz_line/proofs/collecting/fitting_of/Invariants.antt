use Rattle.std.proofs.Common.{◌≡◌, ◌<◌, ◌++◌, length}
use Rattle.ssz_schema.specs.Paths.{path_type}
use Rattle.ssz_schema.specs.Unfolding.{type_of}
use Rattle.ssz_line.proofs.collecting.fitting_of.Given as goal

-- the steps that were taken lead to a part, from which those that are left lead on
abbrev pub invariant-loop-steps : goal.invariant-loop-steps
invariant-loop-steps l = record {
  known : l.part < length l.schema.trees;
  whole : l.steps.items ++ l.left ≡ l.fn.left;
  same : path_type (type_of l.schema l.fn.id) l.fn.left
      ≡ path_type (type_of l.schema l.part) l.left;
}

abbrev pub decreases-loop-steps : goal.decreases-loop-steps
decreases-loop-steps l = length l.left
