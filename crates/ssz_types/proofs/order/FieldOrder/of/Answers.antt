use Rattle.std.proofs.Common.{◌≡◌, length, sym, ap, arith}
use Rattle.std.proofs.lemmas.List.{length-map}
use Rattle.ssz_types.specs.Order.{name_order}
use Rattle.ssz_types.proofs.RepeatLemmas.{Written, names_of}
use Rattle.ssz_types.proofs.DistinctLemmas.{all_distinct}
use Rattle.ssz_types.proofs.order.FieldOrder.of.Goals as goal

pub returns-then-len-fields-clause-repeat : goal.returns-then-len-fields-clause-repeat
returns-then-len-fields-clause-repeat c =
    let full : length (name_order (names_of c.args.fields.now))
    ≡ length (names_of c.args.fields.now) =
    omega (
      arith,
      c.len.ensures,
      c.in_ok-numbers.numbers.ok,
      ap length c.in_ok-numbers.ensures,
      length-map c.args.fields.now (λ (f : Written). f.0),
      c.if-len-fields.true,
    ) in
    sym (all_distinct (names_of c.args.fields.now) full)
