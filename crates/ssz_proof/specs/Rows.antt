-- Several indices of which the chunks are calculated side by side: for contracts of private
-- functions.
use Rattle.std.specs.Prelude.{ℕ, ◌≡◌, ◌+◌, ◌-◌, ◌*◌, ◌<◌, max, Bool, not, is_some, None, List, [], ◌∷◌, length, slice_index}
use Rattle.std.specs.List.{All, sum_by}
use Rattle.ssz_chunk.specs.Index.{levels}
use Rattle.ssz_chunk.specs.Rows.{chunk_in_row as row_at}
use Rattle.ssz_chunk.specs.declared.Chunk.{Chunk}
use Rattle.ssz_proof.specs.Calculation.{Known, PairOf, indices_of, chunk_at, deepest, calculate_root}
use Rattle.ssz_proof.specs.Descent.{IsReached, levels_below}

-- the chunk at an index is not known
abbrev pub is_unknown : Known → ℕ → Bool
is_unknown known index = not (is_some (chunk_at known index))

-- the calculation comes to each index
abbrev pub AreReached : Known → Known → List ℕ → Type 0
AreReached leaves nodes indices =
    All (λ index. (0 < index) × IsReached leaves nodes index) indices

-- and knows the chunk of none
abbrev pub AreUnknown : Known → List ℕ → Type 0
AreUnknown known indices = All (λ index. None ≡ chunk_at known index) indices

-- a row begins with the chunks at the indices
abbrev pub AreCalculated : PairOf → Known → List ℕ → List Chunk → Type 0
AreCalculated pair_of known indices row = (j : ℕ) → j < length indices
    → row_at row j ≡ calculate_root pair_of known (slice_index indices j)

-- each of the first so many indices that are not known stands at its place among all
abbrev pub ArePlaced : List ℕ → List ℕ → List ℕ → ℕ → Type 0
ArePlaced indices unknown places count = (j : ℕ) → j < count
    → (slice_index places j < length indices)
    × (slice_index indices (slice_index places j) ≡ slice_index unknown j)

-- one of the first so many places is this
abbrev pub IsPlaced : List ℕ → ℕ → ℕ → Type 0
IsPlaced places count i = (j : ℕ) × (j < count) × (slice_index places j ≡ i)

-- both children of each index
abbrev pub children : List ℕ → List ℕ
children [] = []
children (index ∷ indices) = (2 * index) ∷ (2 * index + 1) ∷ children indices

-- the levels from all of these indices down to the leaves within them
abbrev pub levels_below_all : Known → List ℕ → ℕ
levels_below_all leaves indices =
    sum_by (λ index. levels_below index (indices_of leaves)) indices

-- the levels from the highest index to the deepest leaf
abbrev pub levels_left : Known → List ℕ → ℕ
levels_left leaves [] = 0
levels_left leaves (index ∷ indices) =
    max (deepest (indices_of leaves) - levels index) (levels_left leaves indices)
