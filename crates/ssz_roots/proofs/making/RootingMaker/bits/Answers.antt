use Rattle.std.proofs.Common.{refl}
use Rattle.ssz_roots.proofs.PushedRoots.{roots_chunks}
use Rattle.ssz_roots.proofs.making.RootingMaker.bits.Goals as goal

pub returns : goal.returns
returns g c = (
  refl,
  roots_chunks _ _ _ _ _ _ _ c.bits_root.ensures.root
      c.bits_root.ensures.counts,
)
