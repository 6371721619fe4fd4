use Rattle.std.proofs.Common.{◌∙◌, ◌++◌, ◌∷◌, [], ap, sym}
use Rattle.std.proofs.lemmas.Result.{on_ok_weaker}
use Rattle.hex.specs.Hex.{encode_lower}
use Rattle.ssz_json_text.specs.Strings.{hex_text}
use Rattle.ssz_json_text.proofs.Keeping.{joined}
use Rattle.ssz_json_text.proofs.Plain.{quoted_plain, hex_plain}
use Rattle.ssz_json_text.proofs.putting.put_hex.Goals as goal

pub returns-clause-text : goal.returns-clause-text
returns-clause-text c =
    let bytes = c.args.bytes.now in
    on_ok_weaker c.put-2.result
    (λ e. joined _ _ _ _ (34 ∷ 48 ∷ 120 ∷ []) (encode_lower bytes) (34 ∷ [])
    c.in_ok-put.ensures.text c.in_ok-put_digits.ensures.text e
    ∙ ap (λ s. c.args.out.now.items ++ s)
    (sym (quoted_plain (hex_text bytes) (hex_plain bytes c.requires))))
    c.put-2.ensures.text
