-- The texts and the bytes of a type of a number.
use Rattle.std.specs.Prelude.{ℕ, List}
use Rattle.ssz_schema.specs.Unfolding.{type_of}
use Rattle.ssz_said.specs.Json.{default_said, encoding_said, text_said}
use Rattle.ssz_said.specs.Outcome.{CallOutcome, ◌>>=◌}
use Rattle.ssz_typed.specs.declared.library.Library.{Library}
use Rattle.ssz_typed.specs.Library.{type_for, type_in}
use Rattle.ssz_typed.specs.Sharing.{schema_in}

-- the JSON text of the value of the type that some bytes encode
abbrev pub text_in : Library → ℕ → List ℕ → CallOutcome (List ℕ)
text_in library number bytes = do
  id ← type_for library number bytes
  text_said (type_of (schema_in library) id) bytes

-- the encoding of the type's default
abbrev pub default_in : Library → ℕ → CallOutcome (List ℕ)
default_in library number = do
  id ← type_in library number
  default_said (type_of (schema_in library) id)

-- the encoding of the value of the type whose JSON text the bytes are
abbrev pub encoding_in : Library → ℕ → List ℕ → CallOutcome (List ℕ)
encoding_in library number text = do
  id ← type_for library number text
  encoding_said (type_of (schema_in library) id) text
