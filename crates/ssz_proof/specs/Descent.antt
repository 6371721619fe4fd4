-- The calculation of a root, as it goes down from it: for contracts of private functions.
use Rattle.std.specs.Prelude.{ℕ, ◌≡◌, ◌+◌, ◌-◌, ◌<◌, ◌||◌, if◌then◌else◌, is_some, Option, Some, None, List, [], ◌∷◌, ◌++◌, length, IsTrue}
use Rattle.std.specs.List.{AllByRecursion, HoldsAt}
use Rattle.ssz_chunk.specs.Index.{levels}
use Rattle.ssz_gindex.specs.Helpers.{is_within, is_on_paths}
use Rattle.ssz_proof.specs.Calculation.{Known, indices_of, chunk_at}

-- an index that the calculation comes to: on the way to a leaf, or known
abbrev pub IsReached : Known → Known → ℕ → Type 0
IsReached leaves nodes index =
    IsTrue (is_on_paths (indices_of leaves) index || is_some (chunk_at (leaves ++ nodes) index))

-- the levels from an index down to those that are within it
abbrev pub levels_below : ℕ → List ℕ → ℕ
levels_below index [] = 0
levels_below index (leaf ∷ leaves) =
    (if is_within index leaf then levels leaf - levels index else 0) + levels_below index leaves

-- each number is before all later ones
abbrev pub InOrder : (ℕ → ℕ → Type 0) → List ℕ → Type 0
InOrder before [] = Unit {0}
InOrder before (index ∷ indices) =
    AllByRecursion (λ later. before index later) indices × InOrder before indices

abbrev pub IsAscending : List ℕ → Type 0
IsAscending indices = InOrder (λ one later. one < later) indices

abbrev pub IsDescending : List ℕ → Type 0
IsDescending indices = InOrder (λ one later. later < one) indices

-- where a search for an index ends: at the place of an entry that has it, or no entry has it
abbrev pub IsPlaceOf : ℕ → Known → Option ℕ → Type 0
IsPlaceOf g known (Some i) = (i < length known) × HoldsAt (λ entry. entry.index ≡ g) known i
IsPlaceOf g known None = AllByRecursion (λ index. index ≡ g → ⊥) (indices_of known)
