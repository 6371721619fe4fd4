use Rattle.std.proofs.Common.{◌≡◌, ◌⊎◌, ℕ, ◌<◌, ◌≤◌, ◌++◌, List, take, length}
use Rattle.std.specs.Prelude.{slice_index}
use Rattle.std.specs.List.{filter}
use Rattle.ssz_chunk.specs.Rows.{chunk_in_row as row_at}
use Rattle.ssz_proof.specs.Calculation.{calculate_root}
use Rattle.ssz_proof.specs.Rows.{IsPlaced, is_unknown}
use Rattle.ssz_proof.proofs.rows.look.Given as goal

abbrev pub invariant-indices : goal.invariant-indices
invariant-indices l = record {
  few : l.count ≤ l.i;
  long : length l.unknown ≡ 16;
  placed : length l.places ≡ 16;
  room : length l.row ≡ 16;
  unknown : take l.count l.unknown
      ≡ filter (is_unknown (l.leaves ++ l.nodes)) (take l.i l.indices);
  places : (j : ℕ) → j < l.count → (slice_index l.places j < l.i)
      × (slice_index l.indices (slice_index l.places j) ≡ slice_index l.unknown j);
  row : (pair_of : List ℕ → List ℕ → List ℕ) (k : ℕ) → k < l.i
      → (row_at l.row k ≡ calculate_root pair_of (l.leaves ++ l.nodes) (slice_index l.indices k))
      ⊎ IsPlaced l.places l.count k;
}
