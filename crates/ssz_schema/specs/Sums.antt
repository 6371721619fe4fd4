-- What the parts of a container or union tell of the whole.
use Rattle.std.specs.Prelude.{ℕ, List, Option, Some, None, ◌≡◌, not, is_none}
use Rattle.ssz_schema.specs.declared.adding.Sums.{Sums}
use Rattle.ssz_types.specs.Types.{SszType, Fields, Options}
use Rattle.ssz_types.specs.Sizes.{part_sizes, total_size, default_fields_length, field_levels, field_nesting, option_levels, option_nesting, type_levels, nesting}
use Rattle.ssz_types.specs.Unfolding.{type_tree_at}
use Rattle.ssz_schema.specs.Inside.{capped}

pub record AreSums (fs : Fields) (sums : Sums) : Type 0 where
  pub all_fixed : sums.all_fixed ≡ not (is_none (total_size (part_sizes fs)))
  pub default_len : sums.default_len ≡ capped (default_fields_length fs)
  pub levels : sums.levels ≡ field_levels fs
  pub nesting : sums.nesting ≡ field_nesting fs

pub record AreOptionSums (os : Options) (lev nest : ℕ) : Type 0 where
  pub levels : lev ≡ option_levels os
  pub nesting : nest ≡ option_nesting os

-- the levels and the nesting of an option
abbrev pub IsOption : List SszType → Option ℕ → ℕ → ℕ → Type 0
IsOption trees None lev nest = (lev ≡ 0) × (nest ≡ 0)
IsOption trees (Some id) lev nest = (lev ≡ type_levels (type_tree_at trees id))
    × (nest ≡ nesting (type_tree_at trees id))
