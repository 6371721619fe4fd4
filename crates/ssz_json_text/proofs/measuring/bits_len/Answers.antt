use Rattle.std.proofs.Common.{◌∙◌, ◌+◌, ◌≡◌, ap, arith, length}
use Rattle.std.proofs.lemmas.List.{length-map}
use Rattle.serde_json.specs.Written.{compact_text}
use Rattle.ssz_value.specs.Standing.{value_of}
use Rattle.ssz_value.proofs.ValueLemmas.{bits_are}
use Rattle.ssz_json_text.specs.Strings.{bit_digit, bits_text}
use Rattle.ssz_json_text.specs.Text.{bits_json}
use Rattle.ssz_json_text.proofs.Plain.{bits_plain, length-quoted_plain}
use Rattle.ssz_json_text.proofs.measuring.bits_len.Goals as goal

pub returns-in-Bits : goal.returns-in-Bits
returns-in-Bits c =
    let run = c.in-Bits.run' in
    let size : length (compact_text (bits_json (value_of c.args.value.now)))
    ≡ length c.in-Bits.run' + 2 =
    ap (λ v. length (compact_text (bits_json (value_of v)))) c.in-Bits.is
    ∙ ap (λ v. length (compact_text (bits_json v))) (bits_are run)
    ∙ length-quoted_plain (bits_text run) (bits_plain run)
    ∙ ap (λ n. n + 2) (length-map run bit_digit) in
    omega (arith, size, c.saturating_add.ensures, c.len.ensures, c.len.type_inv)
