-- A schema that handles and slices share: what each of them says of it.
use Rattle.std.specs.Arc.{arc_value}
use Rattle.std.specs.Prelude.{◌≡◌}
use Rattle.ssz_schema.specs.Unfolding.{Types}
use Rattle.ssz_typed.specs.declared.checked_bytes.CheckedBytes.{CheckedBytes}
use Rattle.ssz_typed.specs.declared.library.Library.{Library}

-- the schema that a handle asks
abbrev pub schema_in : Library → Types
schema_in library = (arc_value library.shared).schema

-- the schema of a slice
abbrev pub slice_schema : CheckedBytes → Types
slice_schema slice = (arc_value slice.shared).schema

-- one schema, whose types have the same numbers
pub record IsShared (old new : Library) : Type 0 where
  pub schema : schema_in new ≡ schema_in old
  pub numbers : new.found.items ≡ old.found.items
