use Rattle.std.proofs.Common.{◌≡◌, ap, ◌∙◌, arith, length, subst, take}
use Rattle.std.specs.List.{AllByRecursion}
use Rattle.std.proofs.Math.Seq.{take-length}
use Rattle.ssz_prove.specs.Found.{IsIndex}
use Rattle.ssz_prove.proofs.Listed.{all_next}
use Rattle.ssz_prove.proofs.finding.are_indices.Goals as goal

pub loop-index-preserved : goal.loop-index-preserved
loop-index-preserved c =
    all_next IsIndex c.args.indices.now c.loop-index.index-index c.index-item.result
    c.loop-index-test.true c.index-item.is (record {
      positive = omega (arith, c.get-number.ensures.number, c.get-number.ensures.positive);
      fits = omega (arith, c.get-number.ensures.number, c.get-number.type_inv);
    }) c.loop-index.invariant

pub returns : goal.returns
returns c =
    let all : c.loop-index.index-index ≡ length c.args.indices.now =
    omega (arith, c.loop-index-test.false, c.loop-index.auto.index-index-end) in
    subst (AllByRecursion IsIndex)
    (ap (λ n. take n c.args.indices.now) all ∙ take-length c.args.indices.now)
    c.loop-index.invariant
