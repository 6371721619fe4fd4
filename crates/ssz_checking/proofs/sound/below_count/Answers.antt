use Rattle.std.proofs.Common.{arith}
use Rattle.ssz_checking.proofs.SoundLemmas.{BelowBefore-found, BelowBefore-end}
use Rattle.ssz_checking.proofs.sound.below_count.Goals as goal

pub returns-then-bytes-place-clause-exact : goal.returns-then-bytes-place-clause-exact
returns-then-bytes-place-clause-exact c = λ k below.
    BelowBefore-found c.args.bound c.args.row.step c.args.place c.args.bytes.now c.loop-i.i
    c.loop-i.invariant (omega (arith, c.if-bytes-place.true)) k

pub returns-clause-exact : goal.returns-clause-exact
returns-clause-exact c = λ k below.
    BelowBefore-end c.args.bound c.args.row.step c.args.place c.args.bytes.now c.args.row.count
    (λ j less. c.loop-i.invariant j (omega (arith, less, c.loop-i-test.false))) k below
