use Rattle.std.proofs.Common.{◌∙◌, ◌++◌, ◌∷◌, [], ap₂, sym}
use Rattle.ssz_bytes.specs.Bytes.{le_number}
use Rattle.ssz_codec.proofs.BitLemmas.{bits_of_number-more}
use Rattle.ssz_codec.proofs.basics.read_bits.Goals as goal

pub loop-i-preserved : goal.loop-i-preserved
loop-i-preserved c =
    c.in_ok-push.ensures.items ∙ ap₂ (λ bits bit. bits ++ bit ∷ []) c.loop-i.invariant c.bit.ensures
    ∙ sym (bits_of_number-more c.loop-i.i (le_number c.args.bytes.now))
