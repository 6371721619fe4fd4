-- What a place has to do with an encoding.
use Rattle.std.specs.Prelude.{ℕ, ◌≡◌, ◌<◌, ◌^◌, ◌||◌, not, Bool, true, false, is_some, List, [], ◌∷◌, length, Some, unwrap_or}
use Rattle.ssz_schema.specs.declared.path.PathStep.{PathStep}
use Rattle.ssz_schema.specs.declared.path.PathStep.TheVariants.{Index, Len}
use Rattle.ssz_schema.specs.format.Format.{Format}
use Rattle.ssz_schema.specs.Types.{SszType, list, bitvector, bitlist}
use Rattle.ssz_bytes.specs.Bytes.{IsBytes}
use Rattle.ssz_schema.specs.Legal.{IsLegal}
use Rattle.ssz_schema.specs.Paths.{Path, path_type, step_type}
use Rattle.ssz_value.specs.Values.{SszValue}
use Rattle.ssz_value.specs.Encoding.{serialize}
use Rattle.ssz_value.specs.Parts.{part}
use Rattle.ssz_value.specs.Laws.{Encodes}
use Rattle.ssz_slices.specs.Place.{Span, span_of_part}
use Rattle.ssz_slices.specs.Part.{span_bytes}

-- where a part of a value has a place in its encoding, the encoding of the part stands there
abbrev pub PlacesHoldEncodings : Type 0
PlacesHoldEncodings =
    (format : Format) (t : SszType) (v : SszValue) (path : Path) (u : SszType) (w : SszValue)
    (span : Span) (b : List ℕ)
    → IsLegal format t → IsBytes b → length b < 2 ^ 32 → Encodes t v b
    → path_type t path ≡ Some u → part t v path ≡ Some w → span_of_part t v path ≡ Some span
    → span_bytes b span ≡ serialize u w

-- a step to a bit or to a length
abbrev pub is_inner : SszType → PathStep → Bool
is_inner (bitvector n) (Index i) = true
is_inner (bitlist limit) (Index i) = true
is_inner (bitlist limit) Len = true
is_inner (list elem limit) Len = true
is_inner _ _ = false

-- a path that ends with such a step, with which nothing goes on
abbrev pub ends_inside : SszType → Path → Bool
ends_inside t [] = false
ends_inside t (step ∷ path) =
    is_inner t step || ends_inside (unwrap_or (step_type t step) t) path

-- a part that is present has a place exactly where it is no bit and no length
abbrev pub PlacesAreThere : Type 0
PlacesAreThere =
    (format : Format) (t : SszType) (v : SszValue) (path : Path) (u : SszType) (w : SszValue)
    (b : List ℕ) → IsLegal format t → IsBytes b → length b < 2 ^ 32 → Encodes t v b
    → path_type t path ≡ Some u → part t v path ≡ Some w
    → is_some (span_of_part t v path) ≡ not (ends_inside t path)
