-- What a type is: its form, its length or limit, and the types that it is made of.
use Rattle.std.specs.Prelude.{ℕ, zero, suc, Option, Some, None, Ok}
use Rattle.ssz_schema.specs.Paths.{option_type}
use Rattle.ssz_schema.specs.Sizes.{field_count, option_count}
use Rattle.ssz_schema.specs.Types.{SszType, Fields, boolean, uint, container, vector, list, bitvector, bitlist, union, no_fields, field}
use Rattle.ssz_schema.specs.Unfolding.{type_of}
use Rattle.ssz_said.specs.declared.status.TheConstants.{ABSENT}
use Rattle.ssz_said.specs.Outcome.{CallOutcome, ◌>>=◌, need}
use Rattle.ssz_typed.specs.declared.forms.TheConstants.{BOOLEAN, UINT, CONTAINER, VECTOR, LIST, BITVECTOR, BITLIST, UNION}
use Rattle.ssz_typed.specs.declared.library.Library.{Library}
use Rattle.ssz_typed.specs.Library.{type_in}
use Rattle.ssz_typed.specs.Sharing.{schema_in}

-- the number of the form of a type
abbrev pub form_number : SszType → ℕ
form_number boolean = BOOLEAN
form_number (uint width) = UINT
form_number (container fs) = CONTAINER
form_number (vector element n) = VECTOR
form_number (list element limit) = LIST
form_number (bitvector n) = BITVECTOR
form_number (bitlist limit) = BITLIST
form_number (union choices) = UNION

-- how many elements or bits a value has, or has at most
abbrev pub form_limit : SszType → Option ℕ
form_limit (vector element n) = Some n
form_limit (list element limit) = Some limit
form_limit (bitvector n) = Some n
form_limit (bitlist limit) = Some limit
form_limit _ = None

-- how many types a type is made of
abbrev pub parts_count : SszType → ℕ
parts_count (container fs) = field_count fs
parts_count (vector element n) = 1
parts_count (list element limit) = 1
parts_count (union choices) = option_count choices
parts_count _ = 0

-- the type of the field at a place
abbrev pub field_type_at : Fields → ℕ → Option SszType
field_type_at no_fields place = None
field_type_at (field name type rest) zero = Some type
field_type_at (field name type rest) (suc place) = field_type_at rest place

-- the first and only one
abbrev pub alone_at : SszType → ℕ → Option SszType
alone_at type zero = Some type
alone_at type (suc place) = None

-- the type at a place of those that a type is made of; the option None has none
abbrev pub part_type : SszType → ℕ → Option SszType
part_type (container fs) place = field_type_at fs place
part_type (vector element n) place = alone_at element place
part_type (list element limit) place = alone_at element place
part_type (union choices) place = option_type choices place
part_type _ place = None

-- the same of the type of a number
abbrev pub form_in : Library → ℕ → CallOutcome ℕ
form_in library number = do
  id ← type_in library number
  Ok (form_number (type_of (schema_in library) id))

abbrev pub limit_in : Library → ℕ → CallOutcome ℕ
limit_in library number = do
  id ← type_in library number
  need ABSENT (form_limit (type_of (schema_in library) id))

abbrev pub parts_in : Library → ℕ → CallOutcome ℕ
parts_in library number = do
  id ← type_in library number
  Ok (parts_count (type_of (schema_in library) id))

abbrev pub part_type_in : Library → ℕ → ℕ → CallOutcome SszType
part_type_in library number place = do
  id ← type_in library number
  need ABSENT (part_type (type_of (schema_in library) id) place)
