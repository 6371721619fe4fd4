use Rattle.ssz_schema.specs.Unfolding.{type_of}
use Rattle.ssz_roots.proofs.PushedRoots.{pushes_elements}
use Rattle.ssz_roots.proofs.making.RootingMaker.ahead.Goals as goal

pub returns-clause-pushed : goal.returns-clause-pushed
returns-clause-pushed g c = λ d before. (
  before.0,
  pushes_elements _ _ _ d _ _ c.args.count (type_of c.args.schema.now c.args.elem)
      c.args.bytes.now _ c.push_eights.ensures.depth before.1.deep
      c.push_eights.ensures.at_most c.push_eights.ensures.holds c.push_eights.ensures.counts,
)
