use Rattle.std.proofs.Common.{◌≡◌, string_bytes, ap, ◌∙◌}
use Rattle.std.specs.FinMap as map
use Rattle.std.proofs.lemmas.Result.{IfOk-at_ok}
use Rattle.ssz_outside.proofs.Pairs.{named_of-insert}
use Rattle.ssz_outside.proofs.store.Store.insert.Goals as goal

pub returns-clause-ok : goal.returns-clause-ok
returns-clause-ok c =
    let key = c.in_ok-key.key in
    let value = c.in_ok-value.value in
    let before = c.self.inside.entries in
    let key_is = IfOk-at_ok (λ s. string_bytes s ≡ c.args.name.now)
    c.in_ok-key.was c.from_str.ensures.ok in
    let value_is = IfOk-at_ok (λ v. v.items ≡ c.args.bytes.now)
    c.in_ok-value.was c.from_slice.ensures.items in
    named_of-insert (string_bytes key) value before c.insert.new.self
    c.in_ok-insert.ensures.updates
    ∙ ap (λ named. map.insert named (string_bytes key) value.items) c.self.view_is
    ∙ ap (λ name. map.insert c.args.self.now name value.items) key_is
    ∙ ap (map.insert c.args.self.now c.args.name.now) value_is
