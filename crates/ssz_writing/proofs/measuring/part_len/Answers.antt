use Rattle.std.proofs.Common.{◌∙◌, ap, sym}
use Rattle.ssz_schema.specs.Unfolding.{type_of}
use Rattle.ssz_value.proofs.SizeLaw.{measured}
use Rattle.ssz_value.specs.Written.{capped}
use Rattle.ssz_writing.proofs.measuring.part_len.Goals as goal

pub returns : goal.returns
returns g c = λ v h. c.node_len.ensures v h
    ∙ sym (ap capped ((measured (type_of c.args.schema.now c.args.id)).length_is v h.fits))
