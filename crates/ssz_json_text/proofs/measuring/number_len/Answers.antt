use Rattle.std.proofs.Common.{◌∙◌, ◌+◌, ◌≡◌, ap, arith, length, decimal}
use Rattle.ssz_schema.specs.Types.{uint}
use Rattle.ssz_value.specs.Standing.{value_of}
use Rattle.ssz_value.proofs.ValueLemmas.{uint_is, wide_is}
use Rattle.ssz_json_text.specs.Strings.{hex_text}
use Rattle.ssz_json_text.specs.Text.{json}
use Rattle.ssz_json_text.proofs.Plain.{decimal_plain, hex_plain, length-quoted_plain, length-hex_text}
use Rattle.ssz_json_text.proofs.measuring.number_len.Goals as goal

pub returns-in-Uint : goal.returns-in-Uint
returns-in-Uint c = λ w.
    let size : length (json (uint w) (value_of c.args.value.now))
    ≡ length (decimal c.in-Uint.number) + 2 =
    ap (λ v. length (json (uint w) (value_of v))) c.in-Uint.is
    ∙ ap (λ v. length (json (uint w) v)) (uint_is c.in-Uint.number)
    ∙ length-quoted_plain (decimal c.in-Uint.number)
    (decimal_plain c.in-Uint.number c.decimal_len.ensures.fits) in
    omega (arith, size, c.decimal_len.ensures.count, c.decimal_len.ensures.few)

pub returns-in-Wide : goal.returns-in-Wide
returns-in-Wide c = λ w.
    let chunk = c.in-Wide.chunk in
    let size : length (json (uint w) (value_of c.args.value.now))
    ≡ length (hex_text c.in-Wide.chunk.0) + 2 =
    ap (λ v. length (json (uint w) (value_of v))) c.in-Wide.is
    ∙ ap (λ v. length (json (uint w) v)) (wide_is chunk)
    ∙ length-quoted_plain (hex_text chunk.0)
    (hex_plain chunk.0 c.wide_bytes-bytes.ensures.bytes) in
    omega (arith, size, length-hex_text chunk.0, c.wide_bytes-bytes.ensures.count)
