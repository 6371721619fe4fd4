use Rattle.std.proofs.Common.{◌≡◌, ◌<◌, length}
use Rattle.ssz_chunk.specs.Index.{digits}
use Rattle.ssz_arena.specs.Content.{node_at}
use Rattle.ssz_arena.proofs.ways.follow_long.Given as goal

abbrev pub invariant-high : goal.invariant-high
invariant-high l = record {
  inside : l.place.0 < length l.store.nodes;
  few : l.left < 128;
  same : node_at l.store.nodes l.place (digits l.left l.fn.number)
      ≡ node_at l.store.nodes l.fn.id (digits l.fn.steps l.fn.number);
}

abbrev pub decreases-high : goal.decreases-high
decreases-high l = l.left
