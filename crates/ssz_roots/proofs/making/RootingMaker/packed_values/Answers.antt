use Rattle.std.proofs.Common.{◌*◌, length, refl}
use Rattle.std.specs.List.{concat}
use Rattle.ssz_packing.specs.Elements.{encodings_of}
use Rattle.ssz_making.proofs.ValueForms.{encodings_long}
use Rattle.ssz_roots.proofs.PushedRoots.{roots_values}
use Rattle.ssz_roots.proofs.making.RootingMaker.packed_values.Goals as goal

pub returns : goal.returns
returns g c = λ t sized fit. (
  refl,
  roots_values _ _ _ _ (length c.args.parts.now * c.args.size)
      (concat (encodings_of t c.args.parts.now)) _
      (encodings_long t c.args.size c.args.parts.now sized fit)
      (c.packed_values_root.ensures.root t sized fit) c.packed_values_root.ensures.counts,
)
