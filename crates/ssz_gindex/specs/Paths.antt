-- How far below the root the part at a path lies. For the crates that charge for an edit by it.
use Rattle.std.specs.Prelude.{ℕ}
use Rattle.std.specs.Option.{option_map_or}
use Rattle.ssz_chunk.specs.Index.{levels}
use Rattle.ssz_schema.specs.Types.{SszType}
use Rattle.ssz_schema.specs.Paths.{Path}
use Rattle.ssz_schema.specs.Indices.{generalized_index}

-- the levels of the generalized index of a path, 0 where it has none
abbrev pub index_levels : SszType → Path → ℕ
index_levels t path = option_map_or levels (generalized_index t path) 0
