-- The schema that a document defines: its types by their names, or what is wrong first.
use Rattle.std.specs.Prelude.{ℕ, ◌≡◌, ◌+◌, if◌then◌else◌, List, ◌∷◌, Option, None, Result, Ok, Err}
use Rattle.std.specs.Option.{ok_or}
use Rattle.std.specs.Str.{is_utf8}
use Rattle.serde_json.specs.Data.{Data}
use Rattle.serde_json.specs.Read.{read}
pub use Rattle.ssz_bind.specs.Results.{◌>>=◌}
use Rattle.ssz_schema.specs.format.Format.{Format}
use Rattle.ssz_schema.specs.schema_fault.SchemaFault.{SchemaFault}
use Rattle.ssz_schema.specs.Types.{SszType}
use Rattle.ssz_schema.specs.Forms.{FieldForms, no_field_forms, field_form}
use Rattle.ssz_schema.specs.Lookup.{lookup_name}
use Rattle.ssz_schema.specs.Unfolding.{Types, built_ins, known_in}
use Rattle.ssz_schema.specs.Walk.{defined}
use Rattle.ssz_schema_json.specs.declared.fault.SchemaRead.{SchemaRead}
use Rattle.ssz_schema_json.specs.declared.fault.SchemaRead.TheVariants.{NotJson, Shape, Def, Memory}
use Rattle.ssz_schema_json.specs.Document.{Document, written_document}

-- what is wrong with a file: S1, S2, or S3 to S14 in the definition of this number
pub data FileFault : Type 0 where
  not_json : FileFault
  no_document : FileFault
  at_definition : ℕ → SchemaFault → FileFault

-- a type for each name
abbrev pub Named : Type 0
Named = List (List ℕ × SszType)

-- a format, and the types by their names
pub record NamedTypes : Type 0 where
  pub format : Format
  pub types : Named

-- the answer of the walk of the definition of this number
abbrev pub in_definition : ℕ → Result SszType SchemaFault → Result SszType FileFault
in_definition number (Ok t) = Ok t
in_definition number (Err fault) = Err (at_definition number fault)

-- definitions in order, the first of this number: each knows the names before it
abbrev pub add_all : Format → ℕ → Named → FieldForms → Result Named FileFault
add_all format number known no_field_forms = Ok known
add_all format number known (field_form name form rest) = do
  t ← in_definition number (defined format (lookup_name known) name form)
  add_all format (number + 1) ((name, t) ∷ known) rest

-- the schema of a document: its definitions after the built-in names
abbrev pub schema_of_document : Document → Result NamedTypes FileFault
schema_of_document document = do
  types ← add_all document.format 0 built_ins document.definitions
  Ok (record { format = document.format; types = types })

-- the schema of a JSON value: S2 over the whole value, then S3 to S14 in its definitions
abbrev pub schema_of : Data → Result NamedTypes FileFault
schema_of value = do
  document ← ok_or (written_document value) no_document
  schema_of_document document

-- the value that `serde_json` reads from the bytes
abbrev pub json_read : List ℕ → Option Data
json_read bytes = if is_utf8 bytes then read bytes else None

-- the schema that the bytes of a file define: S1 where no value is read, then as the value says
abbrev pub schema_of_bytes : List ℕ → Result NamedTypes FileFault
schema_of_bytes bytes = do
  value ← ok_or (json_read bytes) not_json
  schema_of value

-- the schema has the format, and for each name its type
pub record HasTypes (schema : Types) (names : NamedTypes) : Type 0 where
  pub format : schema.format ≡ names.format
  pub types : (name : List ℕ) → known_in schema name ≡ lookup_name names.types name

-- the answer is the schema that is meant, or what is wrong with it, unless memory runs out
abbrev pub ReadsSchema : Result Types SchemaRead → Result NamedTypes FileFault → Type 0
ReadsSchema (Ok schema) meant = (names : NamedTypes) × (meant ≡ Ok names) × HasTypes schema names
ReadsSchema (Err NotJson) meant = meant ≡ Err not_json
ReadsSchema (Err Shape) meant = meant ≡ Err no_document
ReadsSchema (Err (Def number fault)) meant = meant ≡ Err (at_definition number fault)
ReadsSchema (Err Memory) meant = Unit {0}
