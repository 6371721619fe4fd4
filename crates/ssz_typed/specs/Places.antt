-- Where a part stands in the bytes of the whole.
use Rattle.std.specs.Prelude.{ℕ, List, length, Option, option_map}
use Rattle.ssz_schema.specs.Paths.{Path}
use Rattle.ssz_schema.specs.Unfolding.{type_of}
use Rattle.ssz_slices.specs.Part.{Part, opened, part_reached}
use Rattle.ssz_value.specs.Encoding.{serialize}
use Rattle.ssz_said.specs.declared.status.TheConstants.{NO_PLACE}
use Rattle.ssz_said.specs.Outcome.{CallOutcome, ◌>>=◌, need}
use Rattle.ssz_typed.specs.declared.calls.SszStretch.{SszStretch}
use Rattle.ssz_typed.specs.declared.library.Library.{Library}
use Rattle.ssz_typed.specs.Calls.{part_or, steps_in, valid}
use Rattle.ssz_typed.specs.Library.{type_for}
use Rattle.ssz_typed.specs.Sharing.{schema_in}

-- where the encoding of a part begins, and its length; a bit and a length stand nowhere
abbrev pub stretch_of : Part → Option SszStretch
stretch_of part =
    option_map (λ span. record { start = span.0; len = length (serialize part.form part.value) })
    part.place

-- where the part of a value at a path stands
abbrev pub stretch_at : Part → Path → CallOutcome SszStretch
stretch_at whole path = do
  part ← part_or (part_reached whole path)
  need NO_PLACE (stretch_of part)

-- where the part that a path leads to stands, in bytes that encode a value of the type
abbrev pub place_in : Library → ℕ → List ℕ → List ℕ → CallOutcome SszStretch
place_in library number bytes text = do
  id ← type_for library number bytes
  steps ← steps_in (type_of (schema_in library) id) text
  whole ← valid (opened (type_of (schema_in library) id) bytes)
  stretch_at whole steps
