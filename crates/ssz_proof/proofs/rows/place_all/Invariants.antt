use Rattle.std.proofs.Common.{◌≡◌, ◌⊎◌, ℕ, ◌<◌, List, length}
use Rattle.std.specs.Prelude.{slice_index}
use Rattle.ssz_chunk.specs.Rows.{chunk_in_row as row_at}
use Rattle.ssz_proof.specs.Rows.{IsPlaced}
use Rattle.ssz_proof.proofs.rows.place_all.Given as goal

abbrev pub invariant-places : goal.invariant-places
invariant-places l = record {
  long : length l.row ≡ 16;
  row : (f : ℕ → List ℕ)
      → ((j : ℕ) → j < length l.places → row_at l.made j ≡ f (slice_index l.places j))
      → (k : ℕ) → (row_at l.initial.row k ≡ f k) ⊎ IsPlaced l.places l.j k
      → row_at l.row k ≡ f k;
}
