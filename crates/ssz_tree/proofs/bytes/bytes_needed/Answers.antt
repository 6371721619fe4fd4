use Rattle.ssz_schema.specs.Unfolding.{type_of}
use Rattle.ssz_value.specs.Reading.{value_in}
use Rattle.ssz_value.proofs.ExactLaw.{faultless_is_read}
use Rattle.ssz_tree.proofs.FewNodes.{few_nodes}
use Rattle.ssz_tree.proofs.bytes.bytes_needed.Goals as goal

pub returns-clause-enough : goal.returns-clause-enough
returns-clause-enough c =
    let t = type_of c.args.schema.now c.args.id in
    few_nodes t (value_in t c.args.bytes.now)
    (faultless_is_read c.args.schema.now.format t c.args.bytes.now c.ty-legal.ensures.legal
    c.as_bytes-bytes.ensures.bytes c.requires.short c.requires.faultless).fits
