use Rattle.std.proofs.Common.{◌≡◌, ◌-◌, ◌<◌, ◌≤◌, Some, length}
use Rattle.ssz_arena.specs.Content.{node_at}
use Rattle.ssz_arena.specs.Shown.{steps_left}
use Rattle.ssz_arena.proofs.store.Store.lefts.Given as goal

abbrev pub invariant-left : goal.invariant-left
invariant-left l = record {
  inside : l.place.0 < length l.self.nodes;
  few : l.left ≤ l.fn.most;
  found : node_at l.self.nodes l.fn.id (steps_left (l.fn.most - l.left)) ≡ Some l.place;
}

abbrev pub decreases-left : goal.decreases-left
decreases-left l = l.left
