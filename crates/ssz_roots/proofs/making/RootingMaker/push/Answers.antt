use Rattle.std.proofs.Common.{◌∙◌}
use Rattle.ssz_roots.proofs.PushedRoots.{pushes_more}
use Rattle.ssz_roots.proofs.making.RootingMaker.push.Goals as goal

pub returns : goal.returns
returns g c = λ start middle d n parts one before is. (
  is.0 ∙ before.0,
  pushes_more _ _ _ _ _ _ parts one _ _ _ before.1 is.1 c.push.ensures.depth
      c.push.ensures.holds c.push.ensures.counts,
)
