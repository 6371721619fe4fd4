use Rattle.std.proofs.Common.{rules, ℕ, ◌≡◌, List, map, IfOk, ap, ◌∙◌}
use Rattle.std.proofs.lemmas.Result.{IfOk-weaker}
use Rattle.ssz_types.specs.Order.{name_order}
use Rattle.ssz_types.proofs.RepeatLemmas.{Written}
use Rattle.ssz_types.proofs.OrderLemmas.{numbers-lent}
use Rattle.ssz_types.proofs.order.name_order.Goals as goal

pub returns : goal.returns
returns c =
    let names = c.in_ok-names_of.field-0.entries in
    let run : IfOk c.collect.result
    (λ order. order.items ≡ map (λ e. e.1) c.in_ok-names_of.field-0.entries) = search rules in
    IfOk-weaker c.collect.result (λ order. order.items ≡ map (λ e. e.1) names)
    (λ order. order.items ≡ name_order (map (λ (f : Written). f.0) c.args.fields.now))
    (λ order e. e ∙ numbers-lent names
    ∙ ap (λ (es : List (List ℕ × ℕ)). map (λ e. e.1) es) c.in_ok-names_of.ensures) run
