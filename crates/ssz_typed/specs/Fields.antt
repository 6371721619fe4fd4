-- The fields of a container, by their places.
use Rattle.std.specs.Prelude.{ℕ, zero, suc, List, Option, Some, None, Ok}
use Rattle.ssz_schema.specs.Sizes.{field_count}
use Rattle.ssz_schema.specs.Types.{SszType, Fields, container, no_fields, field}
use Rattle.ssz_schema.specs.Unfolding.{type_of}
use Rattle.ssz_typed.specs.declared.library.Library.{Library}
use Rattle.ssz_said.specs.declared.status.TheConstants.{ABSENT}
use Rattle.ssz_typed.specs.Library.{type_in}
use Rattle.ssz_said.specs.Outcome.{CallOutcome, ◌>>=◌, need}
use Rattle.ssz_typed.specs.Sharing.{schema_in}

-- the name of the field at this place
abbrev pub name_at : Fields → ℕ → Option (List ℕ)
name_at no_fields place = None
name_at (field name type rest) zero = Some name
name_at (field name type rest) (suc place) = name_at rest place

-- of a type, which has none where it is no container
abbrev pub field_name : SszType → ℕ → Option (List ℕ)
field_name (container fields) place = name_at fields place
field_name type place = None

-- how many fields a type has
abbrev pub fields_count : SszType → ℕ
fields_count (container fields) = field_count fields
fields_count type = 0

-- the same of the type of a number
abbrev pub fields_of_type : Library → ℕ → CallOutcome ℕ
fields_of_type library number = do
  id ← type_in library number
  Ok (fields_count (type_of (schema_in library) id))

abbrev pub field_in : Library → ℕ → ℕ → CallOutcome (List ℕ)
field_in library number place = do
  id ← type_in library number
  need ABSENT (field_name (type_of (schema_in library) id) place)
