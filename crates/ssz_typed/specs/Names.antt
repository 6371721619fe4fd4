-- The types of a schema: how many have a number, and what their names are.
use Rattle.std.specs.Prelude.{ℕ, List, [], ◌∷◌, ◌++◌, length, Ok}
use Rattle.std.specs.List.{flat_map}
use Rattle.ssz_said.specs.declared.status.TheConstants.{ABSENT}
use Rattle.ssz_said.specs.Outcome.{CallOutcome, ◌>>=◌, need}
use Rattle.ssz_typed.specs.declared.library.Library.{Library}
use Rattle.ssz_schema.specs.Lookup.{name_for}
use Rattle.ssz_typed.specs.Library.{type_in}
use Rattle.ssz_typed.specs.Sharing.{schema_in}

-- names in their order, a line feed behind each
abbrev pub name_lines : List (List ℕ × ℕ) → List ℕ
name_lines names = flat_map (λ part. part.0 ++ 10 ∷ []) names

-- all names of a schema, which are in byte order
abbrev pub names_in : Library → CallOutcome (List ℕ)
names_in library = Ok (name_lines (schema_in library).names)

-- the first name of the type of a number
abbrev pub type_name_in : Library → ℕ → CallOutcome (List ℕ)
type_name_in library number = do
  id ← type_in library number
  need ABSENT (name_for (schema_in library).names id)

-- how many types have a number: it is one of those below that
abbrev pub types_in : Library → CallOutcome ℕ
types_in library = Ok (length library.found.items)
