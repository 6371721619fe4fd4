use Rattle.std.proofs.Common.{◌∙◌, ◌++◌, ◌∷◌, [], ap, sym}
use Rattle.std.proofs.lemmas.Result.{on_ok_weaker}
use Rattle.ssz_json_text.specs.Strings.{bits_text}
use Rattle.ssz_json_text.proofs.Keeping.{joined}
use Rattle.ssz_json_text.proofs.Plain.{quoted_plain, bits_plain}
use Rattle.ssz_json_text.proofs.putting.put_bit_string.Goals as goal

pub returns-clause-text : goal.returns-clause-text
returns-clause-text c =
    let bits = c.args.bits.now in
    on_ok_weaker c.put-2.result
    (λ e. joined _ _ _ _ (34 ∷ []) (bits_text bits) (34 ∷ []) c.in_ok-put.ensures.text
    c.in_ok-put_bit_digits.ensures.text e
    ∙ ap (λ s. c.args.out.now.items ++ s) (sym (quoted_plain (bits_text bits) (bits_plain bits))))
    c.put-2.ensures.text
