use Rattle.std.proofs.Common.{◌≡◌, ◌∷◌, [], ◌++◌}
use Rattle.std.proofs.lemmas.Result.{IfOk-weaker}
use Rattle.json.specs.Print.{quoted}
use Rattle.serde_json.specs.Written.{comma_if}
use Rattle.ssz_json_text.proofs.Passing.{key_passed}
use Rattle.ssz_json_text.proofs.comparing.after_key.Goals as goal

pub returns : goal.returns
returns c =
    let name = c.args.name.now in
    let comma = comma_if c.args.later in
    IfOk-weaker c.after-3.result (λ rest. c.in_ok-rest-3.rest.now ≡ 34 ∷ 58 ∷ rest.now)
    (λ rest. c.args.bytes.now ≡ comma ++ ((quoted name ++ 58 ∷ []) ++ rest.now))
    (λ rest e. key_passed comma name c.args.bytes.now c.in_ok-rest.rest.now
    c.in_ok-rest-2.rest.now c.in_ok-rest-3.rest.now rest.now c.requires c.in_ok-rest.ensures
    c.in_ok-rest-2.ensures c.in_ok-rest-3.ensures e) c.after-3.ensures
