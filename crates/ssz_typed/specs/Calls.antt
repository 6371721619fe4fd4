-- What the calls answer, over what a handle holds.
use Rattle.std.specs.Prelude.{ℕ, List, unwrap_or, Result, Ok, Err}
use Rattle.ssz_bytes.specs.declared.fault.Fault.{Fault}
use Rattle.ssz_chunk.specs.Chunk.{sha_pair}
use Rattle.ssz_schema.specs.Indices.{generalized_index}
use Rattle.ssz_schema.specs.Paths.{Path, path_type}
use Rattle.ssz_schema.specs.Sizes.{fixed_size}
use Rattle.ssz_schema.specs.Types.{SszType}
use Rattle.ssz_schema.specs.Unfolding.{type_of}
use Rattle.ssz_slices.specs.Part.{Part, opened, part_reached}
use Rattle.ssz_value.specs.declared.path_fault.PathFault.{PathFault}
use Rattle.ssz_value.specs.declared.path_fault.PathFault.TheVariants.{BadPath, Absent}
use Rattle.ssz_value.specs.Encoding.{serialize}
use Rattle.ssz_value.specs.Faults.{first_fault}
use Rattle.ssz_value.specs.Reading.{value_in}
use Rattle.ssz_value.specs.Trees.{hash_tree_root}
use Rattle.ssz_said.specs.declared.entries.SszIndex.{SszIndex}
use Rattle.ssz_said.specs.Entries.{index_parts}
use Rattle.ssz_typed.specs.declared.library.Library.{Library}
use Rattle.ssz_said.specs.declared.status.TheConstants.{BAD_PATH, ABSENT}
use Rattle.ssz_typed.specs.Library.{type_for, type_in}
use Rattle.ssz_said.specs.Outcome.{CallOutcome, ◌>>=◌, need, faultless, invalid, refused}
use Rattle.ssz_said.specs.Texts.{path_in}
use Rattle.ssz_typed.specs.Sharing.{schema_in}

-- the type of the number, where the bytes encode a value of it
abbrev pub checked_in : Library → ℕ → List ℕ → CallOutcome ℕ
checked_in library number bytes = do
  id ← type_for library number bytes
  faultless (first_fault (type_of (schema_in library) id) 0 bytes) id

-- the hash_tree_root of the value that the bytes encode
abbrev pub root_in : Library → ℕ → List ℕ → CallOutcome (List ℕ)
root_in library number bytes = do
  id ← checked_in library number bytes
  Ok (hash_tree_root sha_pair (type_of (schema_in library) id)
      (value_in (type_of (schema_in library) id) bytes))

-- how many bytes each value of the type has; 0 where they differ
abbrev pub size_in : Library → ℕ → CallOutcome ℕ
size_in library number = do
  id ← type_in library number
  Ok (unwrap_or (fixed_size (type_of (schema_in library) id)) 0)

-- the generalized index of the path that a text spells
abbrev pub gindex_in : Library → ℕ → List ℕ → CallOutcome SszIndex
gindex_in library number text = do
  id ← type_in library number
  steps ← path_in text
  index ← need BAD_PATH (generalized_index (type_of (schema_in library) id) steps)
  Ok (index_parts index)

-- the steps that a text spells, where they fit the type
abbrev pub steps_in : SszType → List ℕ → CallOutcome Path
steps_in t text = do
  steps ← path_in text
  kind ← need BAD_PATH (path_type t steps)
  Ok steps

-- what there is in bytes, or their first fault
abbrev pub valid : {A : Type 0} → Result A Fault → CallOutcome A
valid (Ok x) = Ok x
valid (Err fault) = Err (invalid fault)

-- the status of a path that leads to no part
abbrev pub status_of_path : PathFault → ℕ
status_of_path BadPath = BAD_PATH
status_of_path Absent = ABSENT

-- a part, or why there is none
abbrev pub part_or : Result Part PathFault → CallOutcome Part
part_or (Ok part) = Ok part
part_or (Err fault) = Err (refused (status_of_path fault))

-- the encoding of the part of a value at a path
abbrev pub encoding_at : Part → Path → CallOutcome (List ℕ)
encoding_at whole path = do
  part ← part_or (part_reached whole path)
  Ok (serialize part.form part.value)

-- the encoding of the part that a path leads to, in the value that the bytes encode
abbrev pub part_in : Library → ℕ → List ℕ → List ℕ → CallOutcome (List ℕ)
part_in library number bytes text = do
  id ← type_for library number bytes
  steps ← steps_in (type_of (schema_in library) id) text
  whole ← valid (opened (type_of (schema_in library) id) bytes)
  encoding_at whole steps
