use Rattle.ssz_roots.proofs.PushedRoots.{roots_done}
use Rattle.ssz_roots.proofs.making.RootingMaker.finish.Goals as goal

pub returns : goal.returns
returns g c = λ start d parts before. (
  before.0,
  roots_done _ _ _ _ _ parts _ _ before.1 c.finish.ensures.root c.finish.ensures.counts,
)
