use Rattle.std.proofs.Common.{refl}
use Rattle.ssz_roots.proofs.PushedRoots.{pushes_none}
use Rattle.ssz_roots.proofs.making.RootingMaker.start.Goals as goal

pub returns : goal.returns
returns g c = (refl, pushes_none _ _ _ _ c.new.ensures.depth c.new.ensures.holds)
