use Rattle.std.proofs.Common.{take}
use Rattle.std.specs.List.{AllByRecursion}
use Rattle.ssz_prove.specs.Found.{IsIndex}
use Rattle.ssz_prove.proofs.finding.are_indices.Given as goal

abbrev pub invariant-loop-index : goal.invariant-loop-index
invariant-loop-index l = AllByRecursion IsIndex (take l.index-index l.indices)
