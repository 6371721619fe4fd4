use Rattle.std.proofs.Common.{◌≤◌, ◌<◌, length}
use Rattle.std.specs.List.{All}
use Rattle.ssz_types.proofs.PlaceLemmas.{OrderedFrom}
use Rattle.ssz_types.proofs.order.order_of_few.Given as goal

abbrev pub decreases-loop-number : goal.decreases-loop-number
decreases-loop-number l = l.number

abbrev pub invariant-loop-number : goal.invariant-loop-number
invariant-loop-number l = record {
  within : l.number ≤ length l.fields;
  numbers : All (λ n. n < length l.fields) l.order.items;
  names : OrderedFrom l.fields l.order.items l.number;
}
