use Rattle.std.proofs.Common.{◌≡◌, ℕ, ◌+◌, ◌<◌}
use Rattle.ssz_chunk.specs.Rows.{chunk_in_row}
use Rattle.ssz_merkle.specs.Packing.{packed_chunk}
use Rattle.ssz_roots.proofs.rows.fill_row.Given as goal

abbrev pub invariant-loop-i : goal.invariant-loop-i
invariant-loop-i l = (i : ℕ) → i < l.i → chunk_in_row l.row i ≡ packed_chunk l.bytes (l.from + i)
