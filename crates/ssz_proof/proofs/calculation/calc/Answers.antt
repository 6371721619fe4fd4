use Rattle.std.proofs.Common.{◌≡◌, ap, arith}
use Rattle.ssz_proof.specs.Calculation.{indices_of}
use Rattle.ssz_proof.specs.Descent.{levels_below}
use Rattle.ssz_proof.specs.Multiproof.{IsOrdered}
use Rattle.ssz_proof.proofs.Descending.{starts}
use Rattle.ssz_proof.proofs.Levels.{levels_below-all}
use Rattle.ssz_proof.proofs.calculation.calc.Goals as goal

pub calculate-requires-clause-reached : goal.calculate-requires-clause-reached
calculate-requires-clause-reached g c =
    let ordered : IsOrdered (record {
      leaves = c.leaves-in-None.result.now;
      nodes = c.nodes-in-None.result.now;
    }) =
    rw (c.leaves-in-None.ensures.value, c.nodes-in-None.ensures.value)
    c.leaves-in-None.ensures.ordered in
    starts c.leaves-in-None.result.now c.nodes-in-None.result.now ordered

pub returns-in-None-clause-pairs : goal.returns-in-None-clause-pairs
returns-in-None-clause-pairs g c =
    let same : levels_below 1 (indices_of c.leaves-in-None.result.now)
    ≡ levels_below 1 (indices_of c.args.proof.now.leaves) =
    ap (λ known. levels_below 1 (indices_of known)) c.leaves-in-None.ensures.value in
    omega (
      arith,
      same,
      c.calculate.ensures.pairs,
      levels_below-all 1 (indices_of c.args.proof.now.leaves),
    )
