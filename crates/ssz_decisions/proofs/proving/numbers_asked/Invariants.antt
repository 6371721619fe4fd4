use Rattle.ssz_schema.specs.Unfolding.{type_of}
use Rattle.ssz_decisions.proofs.AskedSteps.{AskedSoFar}
use Rattle.ssz_decisions.proofs.proving.numbers_asked.Given as goal

abbrev pub invariant-loop-index : goal.invariant-loop-index
invariant-loop-index l =
    AskedSoFar (type_of l.schema l.id) l.indices l.index-index l.numbers.items
