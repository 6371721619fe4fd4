use Rattle.ssz_types.proofs.RepeatLemmas.{SearchedTo}
use Rattle.ssz_types.proofs.repeats.first_repeat.Given as goal

abbrev pub invariant-loop-i : goal.invariant-loop-i
invariant-loop-i l = SearchedTo l.seen l.fields l.i
