use Rattle.std.proofs.Common.{◌≡◌, ◌*◌, length, take}
use Rattle.ssz_chunk.specs.Chunk.{CountsUp}
use Rattle.ssz_schema.specs.Unfolding.{type_of}
use Rattle.ssz_merkle.specs.Frontier.{chunk_bytes}
use Rattle.ssz_roots.proofs.ElementRows.{roots_from, costs_from}
use Rattle.ssz_roots.proofs.pushing.fill_row.Given as goal

abbrev pub invariant-loop-k : goal.invariant-loop-k
invariant-loop-k g l = record {
  long : length l.row ≡ length l.fn.row;
  made : chunk_bytes (take (8 * l.k) l.row) ≡ roots_from g.H.PairHash.pair_of
      (type_of l.lanes.schema.now l.elem) l.count l.lanes.bytes.now l.first (8 * l.k);
  counted : CountsUp (costs_from (type_of l.lanes.schema.now l.elem) l.count l.lanes.bytes.now
      l.first (8 * l.k))
      (g.H.PairHash.pairs l.fn.hasher) (g.H.PairHash.pairs l.hasher);
}
