-- Bytes that were checked once, and their parts.
use Rattle.std.specs.Prelude.{◌≡◌, ℕ, List, Ok, Err}
use Rattle.ssz_schema.specs.Unfolding.{type_of}
use Rattle.ssz_slices.specs.Part.{Part, whole}
use Rattle.ssz_said.specs.declared.status.TheConstants.{NO_MEMORY}
use Rattle.ssz_said.specs.Outcome.{CallOutcome, ◌>>=◌, refused}
use Rattle.ssz_typed.specs.declared.calls.SszStretch.{SszStretch}
use Rattle.ssz_typed.specs.declared.checked_bytes.CheckedBytes.{CheckedBytes}
use Rattle.ssz_typed.specs.declared.library.Library.{Library}
use Rattle.ssz_typed.specs.Calls.{checked_in, encoding_at, steps_in}
use Rattle.ssz_typed.specs.Places.{stretch_at}
use Rattle.ssz_typed.specs.Sharing.{schema_in, slice_schema}

-- a copy of bytes of a type, which shares the schema
pub record IsCopyOf (library : Library) (id : ℕ) (given : List ℕ) (slice : CheckedBytes) : Type 0
  where
    pub schema : slice_schema slice ≡ schema_in library
    pub kind : slice.id ≡ id
    pub bytes : slice.bytes ≡ given

-- a copy of bytes that were checked, or why there is none: the first fault, or memory ran out
abbrev pub Copies : Library → List ℕ → CallOutcome ℕ → CallOutcome CheckedBytes → Type 0
Copies library bytes (Err why) answer = answer ≡ Err why
Copies library bytes (Ok id) (Ok slice) = IsCopyOf library id bytes slice
Copies library bytes (Ok id) (Err why) = why ≡ refused NO_MEMORY

-- the same of the type of a number
abbrev pub Opens : Library → ℕ → List ℕ → CallOutcome CheckedBytes → Type 0
Opens library number bytes answer =
    Copies library bytes (checked_in library number bytes) answer

-- the whole that the bytes encode
abbrev pub whole_of : CheckedBytes → Part
whole_of slice = whole (type_of (slice_schema slice) slice.id) slice.bytes

-- the encoding of the part that a path leads to
abbrev pub slice_part : CheckedBytes → List ℕ → CallOutcome (List ℕ)
slice_part slice text = do
  steps ← steps_in (type_of (slice_schema slice) slice.id) text
  encoding_at (whole_of slice) steps

-- where that part stands in the bytes
abbrev pub slice_place : CheckedBytes → List ℕ → CallOutcome SszStretch
slice_place slice text = do
  steps ← steps_in (type_of (slice_schema slice) slice.id) text
  stretch_at (whole_of slice) steps
