use Rattle.std.proofs.Common.{◌≡◌, ℕ, List, None, sym, ap, ◌∙◌}
use Rattle.ssz_schema.specs.Types.{SszType}
use Rattle.ssz_schema.specs.Unfolding.{type_of}
use Rattle.ssz_value.specs.Encoding.{serialize}
use Rattle.ssz_value.specs.Standing.{value_of}
use Rattle.ssz_value.specs.Values.{SszValue}
use Rattle.ssz_value_json.specs.Faults.{first_json_fault, value_spelled}
use Rattle.ssz_value_json.proofs.Exact.{spelled_is}
use Rattle.ssz_said.specs.declared.status.TheConstants.{MOST_SHOWN, TOO_LONG}
use Rattle.ssz_said.specs.Json.{encoding_said, well_spelled}
use Rattle.ssz_said.specs.Outcome.{◌>>=◌, at_most}
use Rattle.ssz_said.proofs.json.bytes_of_text.Goals as goal

-- of a text without a fault the encoding is that of its one value
encoding-of : (t : SszType) (text : List ℕ) (v : SszValue) → first_json_fault t text ≡ None
    → value_spelled t text ≡ v
    → encoding_said t text ≡ at_most TOO_LONG MOST_SHOWN (serialize t v)
encoding-of t text v none is =
    ap (λ fault. well_spelled fault text
    >>= λ valid. at_most TOO_LONG MOST_SHOWN (serialize t (value_spelled t valid))) none
    ∙ ap (λ x. at_most TOO_LONG MOST_SHOWN (serialize t x)) is

pub returns-in-Ok : goal.returns-in-Ok
returns-in-Ok c = λ memory.
    let t = type_of c.args.schema.now c.args.id in
    let text = c.args.text.now in
    let value = value_of c.in-Ok.value in
    let answer = c.in-Ok.ensures.answer in
    let is : value_spelled t text ≡ value
    = spelled_is c.args.schema.now.format t text value c.ty-legal.ensures.legal answer.0
    (record { fits = c.in-Ok.ensures.fits.fits; text = answer.1 }) in
    c.bytes_of_value.ensures memory ∙ sym (encoding-of t text value answer.0 is)
