use Rattle.std.proofs.Common.{refl}
use Rattle.ssz_roots.proofs.PushedRoots.{roots_chunks}
use Rattle.ssz_roots.proofs.making.RootingMaker.packed.Goals as goal

pub returns : goal.returns
returns g c = (
  refl,
  roots_chunks _ _ _ _ _ _ _ c.packed_root.ensures.root
      c.packed_root.ensures.counts,
)
