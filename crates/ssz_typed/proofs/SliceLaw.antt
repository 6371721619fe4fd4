-- A slice answers what its bytes do: once their type is found and they are few, they have no fault.
use Rattle.std.proofs.Common.{◌≡◌, ℕ, List, Option, Some, None, Ok, Err, refl}
use Rattle.ssz_bytes.specs.declared.fault.Fault.{Fault}
use Rattle.ssz_schema.specs.Paths.{Path}
use Rattle.ssz_schema.specs.Unfolding.{Types, type_of}
use Rattle.ssz_slices.specs.Part.{Part, whole, unless}
use Rattle.ssz_value.specs.Faults.{first_fault}
use Rattle.ssz_said.specs.Outcome.{CallOutcome, ◌>>=◌, faultless}
use Rattle.ssz_typed.specs.declared.checked_bytes.CheckedBytes.{CheckedBytes}
use Rattle.ssz_typed.specs.declared.library.Library.{Library}
use Rattle.ssz_typed.specs.Calls.{encoding_at, steps_in, valid}
use Rattle.ssz_typed.specs.Library.{type_for}
use Rattle.ssz_typed.specs.Places.{stretch_at}
use Rattle.ssz_typed.specs.Sharing.{schema_in, slice_schema}
use Rattle.ssz_typed.specs.SliceLaws.{PartsAgree, PlacesAgree}
use Rattle.ssz_typed.specs.Slices.{Copies, IsCopyOf}

module _ {A : Type 0} (asks : Part → Path → CallOutcome A) (library : Library) (bytes : List ℕ)
    (slice : CheckedBytes) (text : List ℕ) where
  -- what is asked of the whole of bytes without a fault
  abbrev of_whole : Types → ℕ → List ℕ → CallOutcome A
  of_whole types id given =
      steps_in (type_of types id) text >>= λ steps. asks (whole (type_of types id) given) steps

  -- what is asked of bytes of which this is the first fault
  abbrev of_bytes : ℕ → Option Fault → CallOutcome A
  of_bytes id fault =
      steps_in (type_of (schema_in library) id) text
      >>= λ steps. valid (unless fault (whole (type_of (schema_in library) id) bytes))
      >>= λ part. asks part steps

  copied : (id : ℕ) → IsCopyOf library id bytes slice
      → of_whole (slice_schema slice) slice.id slice.bytes ≡ of_whole (schema_in library) id bytes
  copied id is = rw (is.schema, is.kind, is.bytes) refl

  -- once the bytes have no fault
  judged : (id : ℕ) (fault : Option Fault)
      → Copies library bytes (faultless fault id) (Ok slice)
      → of_whole (slice_schema slice) slice.id slice.bytes ≡ of_bytes id fault
  judged id None is = copied id is
  judged id (Some fault) is = absurd (cc)

  -- and their type is known, and they are few
  found : (kind : CallOutcome ℕ)
      → Copies library bytes
      (kind >>= λ id. faultless (first_fault (type_of (schema_in library) id) 0 bytes) id)
      (Ok slice)
      → of_whole (slice_schema slice) slice.id slice.bytes
      ≡ (kind >>= λ id. of_bytes id (first_fault (type_of (schema_in library) id) 0 bytes))
  found (Ok id) is = judged id (first_fault (type_of (schema_in library) id) 0 bytes) is
  found (Err fault) is = absurd (cc)

pub parts_agree : PartsAgree
parts_agree library number bytes slice text =
    found encoding_at library bytes slice text (type_for library number bytes)

pub places_agree : PlacesAgree
places_agree library number bytes slice text =
    found stretch_at library bytes slice text (type_for library number bytes)
