use Rattle.std.proofs.Common.{sym, subst}
use Rattle.ssz_chunk.specs.Tree.{merkle_pairs}
use Rattle.ssz_making.proofs.Placing.{none_more}
use Rattle.ssz_making.proofs.Summing.{Sums, sums_alike}
use Rattle.ssz_making.proofs.counting.CountingMaker.repeat.Goals as goal

pub returns-clause-pushed : goal.returns-clause-pushed
returns-clause-pushed c = λ start first then d n parts alike one is all long before.
    sums_alike _ c.args.more parts alike one _ _ _ _ before is all long c.times.ensures
    c.plus.ensures

pub returns-then-more-eq0-clause-pushed : goal.returns-then-more-eq0-clause-pushed
returns-then-more-eq0-clause-pushed c = λ start first then d n parts alike one is all long before.
    subst (λ ps. Sums (merkle_pairs d n) ps c.args.rows.now)
    (sym (none_more parts alike long)) before
