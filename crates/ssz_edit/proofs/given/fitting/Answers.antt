use Rattle.ssz_schema.specs.Unfolding.{type_of}
use Rattle.ssz_value.proofs.ExactLaw.{faultless_is_read}
use Rattle.ssz_edit.proofs.given.fitting.Goals as goal

pub returns-in-Bytes : goal.returns-in-Bytes
returns-in-Bytes c =
    let t = type_of c.args.schema.now c.args.id in
    let given = rw c.in-Bytes.is at c.requires.given in
    rw c.in-Bytes.is (faultless_is_read c.args.schema.now.format t c.in-Bytes.bytes.now
    c.ty-legal.ensures.legal c.as_bytes-bytes.ensures.bytes given.0 given.1).fits
