use Rattle.std.proofs.Common.{arith}
use Rattle.ssz_schema.specs.Unfolding.{type_of}
use Rattle.ssz_checking.proofs.SoundLemmas.{sound_before}
use Rattle.ssz_checking.proofs.clean.sound_before.Goals as goal

pub returns : goal.returns
returns c =
    sound_before (type_of c.args.schema.now c.args.elem) c.args.size c.args.count
    c.sound_count.result c.args.bytes.now c.requires.size
    (λ i. omega (arith, c.type_inv.bytes i)) c.requires.whole c.sound_count.ensures.most
    c.sound_count.ensures.exact
