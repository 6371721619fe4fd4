use Rattle.std.proofs.Common.{◌∙◌, ap, sym}
use Rattle.ssz_schema.specs.Unfolding.{type_of}
use Rattle.ssz_value.specs.Standing.{value_of}
use Rattle.ssz_value.proofs.SizeLaw.{measured}
use Rattle.ssz_value.specs.Written.{capped}
use Rattle.ssz_codec.proofs.measuring.encoded_len.Goals as goal

pub returns : goal.returns
returns c = c.value_len.ensures
    ∙ sym (ap capped ((measured (type_of c.args.schema.now c.args.id)).length_is
    (value_of c.args.value.now) c.requires.value.fits))
