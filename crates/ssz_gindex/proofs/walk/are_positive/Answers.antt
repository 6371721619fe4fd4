use Rattle.std.proofs.Common.{◌<◌, arith}
use Rattle.std.proofs.lemmas.Bool.{false≢true}
use Rattle.ssz_gindex.proofs.Starting.{positive-next, positive-all}
use Rattle.ssz_gindex.proofs.walk.are_positive.Goals as goal

pub loop-index-init : goal.loop-index-init
loop-index-init c = λ k e. absurd (false≢true e)

pub loop-index-preserved : goal.loop-index-preserved
loop-index-preserved c =
    let some : 0 < c.index-item.result =
    omega (arith, c.get-number.ensures.number, c.get-number.ensures.positive) in
    positive-next c.args.indices.now c.loop-index.index-index c.index-item.result some
    c.loop-index-test.true c.index-item.is c.loop-index.invariant

pub returns : goal.returns
returns c =
    positive-all c.args.indices.now c.loop-index.index-index
    (omega (arith, c.loop-index-test.false, c.loop-index.auto.index-index-end))
    c.loop-index.invariant
