-- Bytes without a fault.
use Rattle.std.specs.Prelude.{ℕ, ◌<◌, ◌≤◌, ◌≡◌, List, [], length, slice_index_or, slice_range, Option, Some, None}
use Rattle.ssz_schema.specs.Types.{SszType}
use Rattle.ssz_schema.specs.Unfolding.{type_tree_at}
use Rattle.ssz_value.specs.Faults.{first_fault}
use Rattle.ssz_value.specs.Reading.{elements_in}

-- the bytes have no fault, wherever they begin
abbrev pub HasNoFault : SszType → List ℕ → Type 0
HasNoFault t b = (s : ℕ) → first_fault t s b ≡ None

-- of count elements of this size (None for variable-size ones), those before element i have no
-- fault
abbrev pub AreCleanBefore : SszType → Option ℕ → ℕ → ℕ → List ℕ → Type 0
AreCleanBefore t size count i b = (i ≤ count)
    × ((j : ℕ) → j < i → HasNoFault t (slice_index_or (elements_in size count b) j []))

-- the variable part before, which begins at from, ends at to and has no fault; where there is none
-- before, the fixed parts end at to
abbrev pub Closes : List SszType → Option ℕ → ℕ → ℕ → List ℕ → Type 0
Closes trees None from to b = to ≡ from
Closes trees (Some part) from to b = (from ≤ to) × (to ≤ length b)
    × HasNoFault (type_tree_at trees part) (slice_range b from to)
