-- A schema as C knows it: its types by the numbers that were given out.
use Rattle.std.specs.Prelude.{◌≡◌, ◌⊎◌, ℕ, nat_lt, if◌then◌else◌, ◌<◌, ◌≤◌, List, [], length, slice_index_or, Some, None, Ok, Err}
use Rattle.std.specs.Str.{IsUtf8}
use Rattle.ssz_schema.specs.FaultCodes.{schema_code}
use Rattle.ssz_schema.specs.Unfolding.{Types, type_number}
use Rattle.ssz_schema_json.specs.declared.fault.SchemaRead.{SchemaRead}
use Rattle.ssz_schema_json.specs.declared.fault.SchemaRead.TheVariants.{NotJson, Shape, Def, Memory}
use Rattle.ssz_schema_json.specs.Schema.{ReadsSchema, schema_of_bytes}
use Rattle.ssz_said.specs.declared.fault.SszFault.{SszFault}
use Rattle.ssz_typed.specs.declared.library.Library.{Library}
use Rattle.ssz_said.specs.declared.status.TheConstants.{NO_TYPE, BAD_SCHEMA, NO_MEMORY, TOO_LONG, MOST_BYTES, MOST_TEXT}
use Rattle.ssz_typed.specs.Numbers.{GivesNumber, IsNew}
use Rattle.ssz_said.specs.Outcome.{CallOutcome, ◌>>=◌, at_most, refused}
use Rattle.ssz_typed.specs.Sharing.{schema_in}

-- the type of a number that was given out
abbrev pub type_in : Library → ℕ → CallOutcome ℕ
type_in library number =
    if nat_lt number (length library.found.items)
    then Ok (slice_index_or library.found.items number 0)
    else Err (refused NO_TYPE)

-- the same, where the bytes are not too many
abbrev pub type_for : Library → ℕ → List ℕ → CallOutcome ℕ
type_for library number bytes = do
  id ← type_in library number
  few ← at_most TOO_LONG MOST_BYTES bytes
  Ok id

-- a fault of a schema: S1, S2, or S3 to S14 in a definition
abbrev pub fault_of_read : SchemaRead → SszFault
fault_of_read NotJson = record { status = BAD_SCHEMA; code = 1; position = 0 }
fault_of_read Shape = record { status = BAD_SCHEMA; code = 2; position = 0 }
fault_of_read (Def number fault) =
    record { status = BAD_SCHEMA; code = schema_code fault; position = number }
fault_of_read Memory = refused NO_MEMORY

-- S15: more bytes than a schema may have
abbrev pub too_long : SszFault
too_long = record { status = BAD_SCHEMA; code = 15; position = 0 }

-- what there is in bytes that are not too many
abbrev pub ReadsText : CallOutcome Types → List ℕ → Type 0
ReadsText (Ok types) bytes = ReadsSchema (Ok types) (schema_of_bytes bytes)
ReadsText (Err fault) bytes =
    (why : SchemaRead) × (fault ≡ fault_of_read why) × ReadsSchema (Err why) (schema_of_bytes bytes)

-- the types that the bytes define, or why there are none
pub record ReadsTypes (result : CallOutcome Types) (bytes : List ℕ) : Type 0 where
  pub long : MOST_TEXT < length bytes → result ≡ Err too_long
  pub short : length bytes ≤ MOST_TEXT → ReadsText result bytes

-- the same, with no number given out
abbrev pub ReadsLibrary : CallOutcome Library → List ℕ → Type 0
ReadsLibrary (Ok library) bytes =
    ReadsTypes (Ok (schema_in library)) bytes × (library.found.items ≡ [])
ReadsLibrary (Err fault) bytes = ReadsTypes (Err fault) bytes

-- A type has a number, and no type has two, while numbers that were given out stay; or it has none
-- yet and memory ran out.
abbrev pub Numbers : ℕ → Library → Library → CallOutcome ℕ → Type 0
Numbers id old new (Ok number) =
    (type_in new number ≡ Ok id) × GivesNumber old.found.items new.found.items id number
Numbers id old new (Err fault) =
    (new.found.items ≡ old.found.items) × (fault ≡ refused NO_MEMORY) × IsNew old.found.items id

-- why a name has no number: its type has none yet and memory ran out, or no type has the name
abbrev pub IsUnnamed : List ℕ → Library → SszFault → Type 0
IsUnnamed name library fault =
    (fault ≡ refused NO_MEMORY)
    × ((id : ℕ) × (type_number (schema_in library) name ≡ Some id) × IsNew library.found.items id)
    ⊎ (fault ≡ refused NO_TYPE) × ((¬ IsUtf8 name) ⊎ (type_number (schema_in library) name ≡ None))

-- The name's type has the number, and no type has two, so that a name has one number; numbers that
-- were given out stay.
abbrev pub NumbersName : List ℕ → Library → Library → CallOutcome ℕ → Type 0
NumbersName name old new (Ok number) =
    (id : ℕ) × (type_number (schema_in old) name ≡ Some id) × (type_in new number ≡ Ok id)
    × GivesNumber old.found.items new.found.items id number
NumbersName name old new (Err fault) =
    (new.found.items ≡ old.found.items) × IsUnnamed name old fault
