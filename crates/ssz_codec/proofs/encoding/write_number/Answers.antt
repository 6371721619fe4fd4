use Rattle.std.proofs.Common.{◌∙◌, ◌≡◌, length, List, ℕ, ap, sym, subst, arith}
use Rattle.ssz_schema.specs.Types.{uint}
use Rattle.ssz_value.specs.Encoding.{serialize}
use Rattle.ssz_value.specs.Standing.{value_of}
use Rattle.ssz_value.proofs.ValueLemmas.{wide_is}
use Rattle.ssz_codec.specs.Writing.{WritesEncoding}
use Rattle.ssz_codec.proofs.encoding.write_number.Goals as goal

pub write_bytes-requires : goal.write_bytes-requires
write_bytes-requires c =
    let bytes : serialize (uint c.args.width) (value_of c.args.value.now) ≡ c.in-Wide.chunk.0 =
    ap (λ v. serialize (uint c.args.width) (value_of v)) c.in-Wide.is
    ∙ ap (serialize (uint c.args.width)) (wide_is c.in-Wide.chunk) in
    omega (arith, c.requires.room, ap length bytes, ap length c.wide_bytes.ensures.value)

pub returns-in-Wide : goal.returns-in-Wide
returns-in-Wide c =
    let bytes : serialize (uint c.args.width) (value_of c.args.value.now) ≡ c.in-Wide.chunk.0 =
    ap (λ v. serialize (uint c.args.width) (value_of v)) c.in-Wide.is
    ∙ ap (serialize (uint c.args.width)) (wide_is c.in-Wide.chunk) in
    subst (λ (bs : List ℕ). WritesEncoding bs c.write_bytes.result c.write_bytes.new.room)
    (c.wide_bytes.ensures.value ∙ sym bytes) c.write_bytes.ensures
