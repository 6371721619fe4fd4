use Rattle.std.proofs.Common.{◌≡◌, ◌-◌, ◌*◌, ◌%◌, ◌^◌, ◌<◌, length}
use Rattle.ssz_chunk.specs.Index.{digits}
use Rattle.ssz_arena.specs.Content.{node_at}
use Rattle.ssz_arena.proofs.ways.follow.Given as goal

abbrev pub invariant-steps : goal.invariant-steps
invariant-steps l = record {
  inside : l.place.0 < length l.store.nodes;
  few : l.left < 64;
  rest : l.rest ≡ l.fn.number * 2 ^ (63 - l.left) % 2 ^ 64;
  same : node_at l.store.nodes l.place (digits l.left l.fn.number)
      ≡ node_at l.store.nodes l.fn.id (digits l.fn.steps l.fn.number);
}

abbrev pub decreases-steps : goal.decreases-steps
decreases-steps l = l.left
