use Rattle.std.proofs.Common.{ℕ, ◌≡◌, ◌<◌, ◌+◌, ◌-◌, List, [], length, map, ap, subst, ◌∙◌, arith}
use Rattle.std.specs.List.{All}
use Rattle.std.proofs.lemmas.List.Elements.{All-nil, All-same}
use Rattle.ssz_types.proofs.RepeatLemmas.{names_of}
use Rattle.ssz_types.proofs.PlaceLemmas.{OrderedFrom, OrderedFrom-start, OrderedFrom-more, numbers-named}
use Rattle.ssz_types.proofs.order.order_of_few.Goals as goal

pub loop-number-init : goal.loop-number-init
loop-number-init c = record {
  within = omega arith;
  numbers = All-same (λ n. n < length c.args.fields.now) c.in_ok-order.order.items []
      c.in_ok-order.ensures.items
      (All-nil (λ n. n < length c.args.fields.now));
  names = OrderedFrom-start c.args.fields.now c.in_ok-order.order.items
      c.in_ok-order.ensures.items;
}

pub loop-number-preserved : goal.loop-number-preserved
loop-number-preserved c =
    let next : c.loop-number.number ≡ c.loop-number.number - 1 + 1 = omega arith in
    record {
      within = omega arith;
      numbers = c.in_ok-put_in_order.ensures.numbers;
      names = OrderedFrom-more c.args.fields.now c.loop-number.order.items
          c.put_in_order.new.order.items (c.loop-number.number - 1) (omega arith)
          c.in_ok-put_in_order.ensures.names
          (subst (OrderedFrom c.args.fields.now c.loop-number.order.items) next
          c.loop-number.invariant.names);
    }

pub returns : goal.returns
returns c =
    let first : c.loop-number.number ≡ 0 = omega arith in
    numbers-named (names_of c.args.fields.now) c.loop-number.order.items
    ∙ ap (λ (es : List (List ℕ × ℕ)). map (λ e. e.1) es)
    (subst (OrderedFrom c.args.fields.now c.loop-number.order.items) first
    c.loop-number.invariant.names)
