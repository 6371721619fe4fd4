use Rattle.std.proofs.Common.{refl}
use Rattle.ssz_roots.proofs.PushedRoots.{roots_bits}
use Rattle.ssz_roots.proofs.making.RootingMaker.bit_values.Goals as goal

pub returns : goal.returns
returns g c = (
  refl,
  roots_bits _ _ _ c.args.depth c.args.bits.now _
      c.bit_values_root.ensures.root c.bit_values_root.ensures.counts,
)
