use Rattle.std.proofs.Common.{◌∙◌, ◌++◌, ◌∷◌, [], ap, sym, append_assoc}
use Rattle.std.proofs.lemmas.Result.{on_ok_weaker}
use Rattle.ssz_json_text.proofs.Plain.{quoted_plain, name_plain}
use Rattle.ssz_json_text.proofs.putting.put_key.Goals as goal

pub returns-clause-text : goal.returns-clause-text
returns-clause-text c =
    let name = c.args.name.now in
    on_ok_weaker c.put.result
    (λ e. e ∙ ap (λ s. s ++ 58 ∷ []) c.in_ok-put_quoted.ensures.text
    ∙ append_assoc c.args.out.now.items (34 ∷ (name ++ 34 ∷ [])) (58 ∷ [])
    ∙ ap (λ s. c.args.out.now.items ++ (s ++ 58 ∷ []))
    (sym (quoted_plain name (name_plain name c.requires)))) c.put.ensures.text
