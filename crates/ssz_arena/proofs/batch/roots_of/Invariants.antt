use Rattle.std.proofs.Common.{◌≡◌, ℕ, ◌<◌, List, [], length, slice_index_or}
use Rattle.ssz_chunk.specs.Rows.{chunk_in_row}
use Rattle.ssz_chunk.specs.Tree.{leaf, root}
use Rattle.ssz_arena.specs.Batches.{AreHashed, id_at}
use Rattle.ssz_arena.specs.Content.{trees}
use Rattle.ssz_arena.specs.Invariant.{IsArena}
use Rattle.ssz_arena.proofs.batch.roots_of.Given as goal

abbrev pub invariant-ids : goal.invariant-ids
invariant-ids l = record {
  long : length l.row ≡ 16;
  roots : (pair_of : List ℕ → List ℕ → List ℕ) → IsArena pair_of l.store.nodes
      → AreHashed l.store.nodes l.ids → (j : ℕ) → j < l.i
      → chunk_in_row l.row j
      ≡ root pair_of (slice_index_or (trees l.store.nodes) (id_at l.ids j).0 (leaf []));
}
