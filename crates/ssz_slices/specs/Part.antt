-- What a slice is seen as, and what its calls answer.
use Rattle.std.specs.Prelude.{ℕ, ◌+◌, Bool, List, length, slice_range, Option, Some, None, option_map, option_and_then, unwrap_or, Result, Ok, Err}
use Rattle.std.specs.Result.{result_map_both}
use Rattle.ssz_bytes.specs.declared.fault.Fault.{Fault}
use Rattle.ssz_schema.specs.Types.{SszType, uint, boolean, vector, list, bitvector, bitlist, union}
use Rattle.ssz_schema.specs.Paths.{Path, path_type}
use Rattle.ssz_value.specs.Values.{SszValue, number, truth, sequence, bits, chosen, chosen_none, items}
use Rattle.ssz_value.specs.Faults.{first_fault}
use Rattle.ssz_value.specs.Reading.{value_in}
use Rattle.ssz_value.specs.Parts.{part_or_fault}
use Rattle.ssz_value.specs.declared.path_fault.PathFault.{PathFault}
use Rattle.ssz_slices.specs.Place.{Span, within, span_of_part}

-- a part of a value: its type, what it is, and where its encoding stands in the input; a bit and a
-- length stand nowhere
pub record Part : Type 0 where
  pub form : SszType
  pub value : SszValue
  pub input : List ℕ
  pub place : Option Span

-- the bytes of a stretch
abbrev pub span_bytes : List ℕ → Span → List ℕ
span_bytes input span = slice_range input span.0 (span.0 + span.1)

-- the whole of bytes without a fault
abbrev pub whole : SszType → List ℕ → Part
whole t b = record { form = t; value = value_in t b; input = b; place = Some (0, length b) }

-- the part, or the fault
abbrev pub unless : Option Fault → Part → Result Part Fault
unless None part = Ok part
unless (Some fault) part = Err fault

-- the whole, or the first fault of the bytes
abbrev pub opened : SszType → List ℕ → Result Part Fault
opened t b = unless (first_fault t 0 b) (whole t b)

-- the stretch of a part of this one
abbrev pub placed : Option Span → SszType → SszValue → Path → Option Span
placed outer t v path =
    option_and_then (λ span. option_map (within span) (span_of_part t v path)) outer

-- the part of a part at a path that fits its type, with this value
abbrev pub with_value : Part → Path → SszValue → Part
with_value whole path v = record {
  form = unwrap_or (path_type whole.form path) whole.form;
  value = v;
  input = whole.input;
  place = placed whole.place whole.form whole.value path;
}

-- the part of a part at a path, or why there is none
abbrev pub part_reached : Part → Path → Result Part PathFault
part_reached whole path =
    result_map_both (with_value whole path) (λ fault. fault)
    (part_or_fault whole.form whole.value path)

-- how many elements or bits a vector, list, bitvector or bitlist has
abbrev pub part_len : SszType → SszValue → Option ℕ
part_len (vector elem n) (sequence vs) = Some (length (items vs))
part_len (list elem limit) (sequence vs) = Some (length (items vs))
part_len (bitvector n) (bits bs) = Some (length bs)
part_len (bitlist limit) (bits bs) = Some (length bs)
part_len _ _ = None

-- the selector of a union
abbrev pub selector_of : SszType → SszValue → Option ℕ
selector_of (union os) (chosen k v) = Some k
selector_of (union os) (chosen_none k) = Some k
selector_of _ _ = None

-- a number of at most 128 bits
abbrev pub uint_of : SszType → SszValue → Option ℕ
uint_of (uint w) (number n) = Some n
uint_of _ _ = None

abbrev pub boolean_of : SszType → SszValue → Option Bool
boolean_of boolean (truth b) = Some b
boolean_of _ _ = None
