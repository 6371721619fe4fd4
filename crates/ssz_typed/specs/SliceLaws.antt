-- What the parts of a slice have to do with those of its bytes.
use Rattle.std.specs.Prelude.{◌≡◌, ℕ, List, Ok}
use Rattle.ssz_typed.specs.declared.checked_bytes.CheckedBytes.{CheckedBytes}
use Rattle.ssz_typed.specs.declared.library.Library.{Library}
use Rattle.ssz_typed.specs.Calls.{part_in}
use Rattle.ssz_typed.specs.Places.{place_in}
use Rattle.ssz_typed.specs.Slices.{Opens, slice_part, slice_place}

-- a part of a slice has the encoding of the part of the bytes
abbrev pub PartsAgree : Type 0
PartsAgree =
    (library : Library) (number : ℕ) (bytes : List ℕ) (slice : CheckedBytes) (text : List ℕ)
    → Opens library number bytes (Ok slice)
    → slice_part slice text ≡ part_in library number bytes text

-- and stands where that stands
abbrev pub PlacesAgree : Type 0
PlacesAgree =
    (library : Library) (number : ℕ) (bytes : List ℕ) (slice : CheckedBytes) (text : List ℕ)
    → Opens library number bytes (Ok slice)
    → slice_place slice text ≡ place_in library number bytes text
