use Rattle.std.proofs.Common.{sym, arith}
use Rattle.ssz_schema.specs.Unfolding.{type_of}
use Rattle.ssz_codec.proofs.ReadLemmas.{decoded_encodes, decoded_fits}
use Rattle.ssz_codec.proofs.decoding.decode.Goals as goal

pub returns-clause-encoding : goal.returns-clause-encoding
returns-clause-encoding c =
    decoded_encodes c.args.schema.now.format
    (type_of c.args.schema.now c.args.id) c.args.bytes.now c.in_ok-value.field-0
    c.ty-legal.ensures.legal
    (record { bytes = λ i. omega (arith, c.type_inv.bytes i); short = c.requires.short })
    (sym c.in_default.ensures) c.in_ok-value.ensures

pub returns-clause-fits : goal.returns-clause-fits
returns-clause-fits c =
    decoded_fits c.args.schema.now.format
    (type_of c.args.schema.now c.args.id) c.args.bytes.now c.in_ok-value.field-0
    c.ty-legal.ensures.legal
    (record { bytes = λ i. omega (arith, c.type_inv.bytes i); short = c.requires.short })
    (sym c.in_default.ensures) c.in_ok-value.ensures
