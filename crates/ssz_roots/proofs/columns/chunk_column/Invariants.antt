use Rattle.std.proofs.Common.{◌≡◌, ℕ, ◌<◌, length}
use Rattle.ssz_chunk.specs.Rows.{chunk_in_row}
use Rattle.ssz_merkle.specs.Packing.{packed_chunk}
use Rattle.ssz_roots.specs.Eights.{lane_range}
use Rattle.ssz_roots.proofs.columns.chunk_column.Given as goal

abbrev pub invariant-loop-j : goal.invariant-loop-j
invariant-loop-j g l = record {
  long : length l.column ≡ 8;
  each : (j : ℕ) → j < l.j
      → chunk_in_row l.column j
      ≡ packed_chunk (lane_range l.span.from l.lanes.stride l.span.size l.lanes.bytes.now j)
      l.i;
}
