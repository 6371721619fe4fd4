use Rattle.std.proofs.Common.{ℕ, ◌≡◌, ◌+◌, ◌*◌, ◌≤◌, List, length, take, drop}
use Rattle.ssz_nodes.specs.Shown.{AreChunksFrom}
use Rattle.ssz_nodes.proofs.chunks.copy_row.Given as goal

abbrev pub invariant-loop-i : goal.invariant-loop-i
invariant-loop-i g l = record {
  long : length l.room ≡ length l.initial.room;
  copied : (bytes : List ℕ) (j : ℕ) → AreChunksFrom l.arena bytes j l.row
      → 32 * (j + length l.row) ≤ length bytes
      → take (32 * l.i) l.room ≡ take (32 * l.i) (drop (32 * j) bytes);
}
