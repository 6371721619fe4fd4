use Rattle.std.proofs.Common.{ℕ, ◌≡◌, ◌+◌, ◌-◌, ◌<◌, length, ap, sym, subst, ◌∙◌, arith}
use Rattle.ssz_types.specs.Order.{order_from}
use Rattle.ssz_types.proofs.RepeatLemmas.{Written}
use Rattle.ssz_types.proofs.OrderLemmas.{lent, names_left, lent-start, lent-more}
use Rattle.ssz_types.proofs.order.names_of.Goals as goal

pub loop-number-init : goal.loop-number-init
loop-number-init c = record {
  within = omega arith;
  names = lent-start c.args.fields.now _ c.new-names.ensures.empty;
}

pub loop-number-preserved : goal.loop-number-preserved
loop-number-preserved c =
    let fields = c.args.fields.now in
    let es = c.loop-number.names.entries in
    let within = c.loop-number.invariant.within in
    let below : c.loop-number.number - 1 < length c.args.fields.now = omega arith in
    let next : c.loop-number.number ≡ c.loop-number.number - 1 + 1 = omega arith in
    record {
      within = omega arith;
      names = lent-more fields es c.insert.new.self.entries (c.loop-number.number - 1)
          c.as_bytes.result c.index-fields-number.result below c.index-fields-number.is
          (c.as_bytes.ensures ∙ ap (λ (f : Written). f.0) (sym c.index-fields-number.is))
          c.in_ok-insert.ensures.entries
          (subst (λ (n : ℕ). lent es ≡ order_from n (names_left fields n)) next
          c.loop-number.invariant.names);
    }

pub returns : goal.returns
returns c =
    let first : c.loop-number.number ≡ 0 = omega arith in
    subst (λ (n : ℕ). lent c.loop-number.names.entries
    ≡ order_from n (names_left c.args.fields.now n)) first c.loop-number.invariant.names
