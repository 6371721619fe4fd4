use Rattle.std.proofs.Common.{refl}
use Rattle.ssz_schema.specs.Unfolding.{type_of}
use Rattle.ssz_tool.proofs.Encodings.{encoding_in-absent, encoding_in-fault, encoding_in-long, encoding_in-part}
use Rattle.ssz_tool.proofs.parts.text_of_part.Goals as goal

pub returns-in-Err : goal.returns-in-Err
returns-in-Err c = λ form fits.
    rw (encoding_in-fault c.args.max (type_of c.args.schema.now c.args.id) form c.args.path.now
    c.args.bytes.now c.in-Err.fault c.in-Err.ensures.exact) refl

pub returns-in-Err-at : goal.returns-in-Err-at
returns-in-Err-at c = λ form fits.
    rw (encoding_in-absent c.args.max (type_of c.args.schema.now c.args.id) form c.args.path.now
    c.args.bytes.now c.in-Ok.whole fits c.in-Ok.ensures.exact c.in-Err-at.field-0
    c.in-Err-at.ensures) refl

pub returns-then-as_slice-max : goal.returns-then-as_slice-max
returns-then-as_slice-max c = λ form fits.
    rw (encoding_in-long c.args.max (type_of c.args.schema.now c.args.id) form c.args.path.now
    c.args.bytes.now c.in-Ok.whole fits c.in-Ok.ensures.exact c.in-Ok-at.part c.in-Ok-at.ensures
    (rw (c.as_slice.ensures, c.encoding-encoding.ensures) at c.if-as_slice-max.true)) refl

pub returns : goal.returns
returns c = λ form fits.
    rw (encoding_in-part c.args.max (type_of c.args.schema.now c.args.id) form c.args.path.now
    c.args.bytes.now c.in-Ok.whole fits c.in-Ok.ensures.exact c.in-Ok-at.part c.in-Ok-at.ensures
    (rw (c.as_slice.ensures, c.encoding-encoding.ensures) at c.if-as_slice-max.false))
    (rw (c.as_slice-2.ensures, c.encoding-encoding.ensures) at c.in_ok-bytes_text.ensures)
