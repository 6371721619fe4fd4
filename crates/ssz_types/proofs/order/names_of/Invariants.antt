use Rattle.std.proofs.Common.{◌≡◌, ◌≤◌, length}
use Rattle.ssz_types.specs.Order.{order_from}
use Rattle.ssz_types.proofs.OrderLemmas.{lent, names_left}
use Rattle.ssz_types.proofs.order.names_of.Given as goal

abbrev pub decreases-loop-number : goal.decreases-loop-number
decreases-loop-number l = l.number

abbrev pub invariant-loop-number : goal.invariant-loop-number
invariant-loop-number l = record {
  within : l.number ≤ length l.fields;
  names : lent l.names.entries ≡ order_from l.number (names_left l.fields l.number);
}
