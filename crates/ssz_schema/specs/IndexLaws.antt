-- That no path leads deeper than its type, so that the limit on levels
-- bounds every generalized index.
use Rattle.std.specs.Prelude.{ℕ, ◌+◌, ◌^◌, ◌<◌, ◌≡◌, Some}
use Rattle.ssz_types.specs.Types.{SszType}
use Rattle.ssz_types.specs.Sizes.{type_levels}
use Rattle.ssz_schema.specs.Paths.{Path}
use Rattle.ssz_schema.specs.Indices.{generalized_index}

-- an index has at most as many levels as the type
pub record IsWithinType (t : SszType) (index : ℕ) : Type 0 where
  pub some : 0 < index
  pub few : index < 2 ^ (type_levels t + 1)

abbrev pub IndicesAreWithinLevels : Type 0
IndicesAreWithinLevels = (t : SszType) (path : Path) (index : ℕ)
    → generalized_index t path ≡ Some index → IsWithinType t index
