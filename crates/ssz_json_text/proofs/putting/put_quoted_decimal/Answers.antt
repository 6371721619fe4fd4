use Rattle.std.proofs.Common.{◌∙◌, ◌++◌, ◌∷◌, [], ◌^◌, ◌<◌, ap, sym, decimal, arith}
use Rattle.std.proofs.lemmas.Result.{on_ok_weaker}
use Rattle.ssz_json_text.proofs.Plain.{quoted_plain, decimal_plain}
use Rattle.ssz_json_text.proofs.putting.put_quoted_decimal.Goals as goal

pub returns-clause-text : goal.returns-clause-text
returns-clause-text c =
    let n = c.args.number in
    let small : c.args.number < 2 ^ 128 = omega (arith, c.ranges.number.fits) in
    on_ok_weaker c.put_quoted.result
    (λ e. e ∙ ap (λ s. c.args.out.now.items ++ 34 ∷ (s ++ 34 ∷ []))
    (c.as_bytes.ensures.value ∙ c.format.ensures.text)
    ∙ ap (λ s. c.args.out.now.items ++ s) (sym (quoted_plain (decimal n) (decimal_plain n small))))
    c.put_quoted.ensures.text
