use Rattle.ssz_making.proofs.Saturating.{IsCounted}
use Rattle.ssz_making.proofs.tally.pairs_above.Given as goal

abbrev pub invariant-loop-j : goal.invariant-loop-j
invariant-loop-j l = IsCounted l.n l.j l.left l.pairs
