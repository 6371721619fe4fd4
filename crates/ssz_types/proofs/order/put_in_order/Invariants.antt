use Rattle.std.proofs.Common.{◌≡◌, ◌≤◌, ◌-◌, length}
use Rattle.ssz_types.proofs.PlaceLemmas.{PassedTo}
use Rattle.ssz_types.proofs.order.put_in_order.Given as goal

abbrev pub decreases-loop-place : goal.decreases-loop-place
decreases-loop-place l = length l.order.items - l.place

abbrev pub invariant-loop-place : goal.invariant-loop-place
invariant-loop-place l = record {
  kept : l.order.items ≡ l.initial.order.items;
  within : l.place ≤ length l.order.items;
  passed : PassedTo l.fields l.order.items l.number l.place;
}
