use Rattle.std.proofs.Common.{◌≡◌, ℕ, ◌+◌, ◌-◌, ◌<◌, ◌≤◌, length, slice_index}
use Rattle.std.specs.List.{count_by}
use Rattle.ssz_chunk.specs.Chunk.{CountsUp}
use Rattle.ssz_arena.specs.Batches.{id_at}
use Rattle.ssz_arena.specs.Content.{is_unhashed, todos}
use Rattle.ssz_arena.specs.Filled.{FillsUpTo}
use Rattle.ssz_arena.specs.Invariant.{IsArena}
use Rattle.ssz_arena.proofs.levels.fill_level.Given as goal

abbrev pub invariant-eights : goal.invariant-eights
invariant-eights g l = record {
  place : l.done ≤ length l.ids;
  arena : IsArena g.H.PairHash.pair_of l.store.nodes;
  spare : l.store.spare ≡ l.fn.store.spare;
  fills : FillsUpTo l.limit l.fn.store.nodes l.store.nodes;
  hashed : (j : ℕ) → j < l.done → slice_index (todos l.store.nodes) (id_at l.ids j).0 ≡ 0;
  todo : g.H.PairHash.pairs l.hasher ≤ g.H.PairHash.pairs l.fn.hasher + l.done;
  falls : count_by is_unhashed l.store.nodes ≤ count_by is_unhashed l.fn.store.nodes;
  counts : CountsUp (count_by is_unhashed l.fn.store.nodes - count_by is_unhashed l.store.nodes)
      (g.H.PairHash.pairs l.fn.hasher) (g.H.PairHash.pairs l.hasher);
}

abbrev pub decreases-eights : goal.decreases-eights
decreases-eights g l = length l.ids - l.done
