use Rattle.ssz_gindex.proofs.Lowest.{IsLowest}
use Rattle.ssz_gindex.proofs.helpers.greatest_below.Given as goal

abbrev pub invariant-loop-index : goal.invariant-loop-index
invariant-loop-index l = IsLowest l.indices l.upper l.lowest l.index-index
