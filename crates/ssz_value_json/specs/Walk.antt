-- The walk over JSON by a type, to its first fault or the value that it is. Parts are numbered in
-- preorder, fields in the order of the type.
use Rattle.std.specs.Prelude.{ℕ, zero, suc, ◌^◌, ◌&&◌, ◌==◌, nat_lt, Bool, true, false, if◌then◌else◌, List, [], ◌∷◌, length, map, Option, Some, None, is_some, option_map, option_and_then, Ok, Err}
use Rattle.std.specs.List.{list_all}
use Rattle.std.specs.Option.{ok_or}
use Rattle.serde_json.specs.Data.{Data, null, object, Items, no_items, item, Members, no_members}
use Rattle.serde_json.specs.Events.{items_len, members_len}
use Rattle.serde_json.specs.Find.{as_str, as_bool, as_array, as_object, as_number, as_u64, get_member}
use Rattle.ssz_decimal.specs.Decimal.{number_below}
use Rattle.ssz_schema.specs.width.Width.{Width}
use Rattle.ssz_schema.specs.width.Width.TheVariants.{W256}
use Rattle.ssz_schema.specs.Types.{SszType, Fields, Options, uint, boolean, container, vector, list, bitvector, bitlist, union, no_fields, field, no_options, none_option, option}
use Rattle.ssz_schema.specs.Legal.{field_names}
use Rattle.ssz_schema.specs.Sizes.{byte_count}
use Rattle.ssz_value.specs.Values.{SszValue, number, wide, truth, sequence, bits, chosen, chosen_none, values}
use Rattle.ssz_value.specs.Standing.{is_byte}
use Rattle.ssz_value_json.specs.declared.count.Count.{Count}
use Rattle.ssz_value_json.specs.declared.count.Count.TheVariants.{Exactly, AtMost}
use Rattle.ssz_value_json.specs.Strings.{hex_bytes, is_decimal, is_bit_digit, text_bits}
use Rattle.ssz_value_json.specs.Steps.{bad_kind, bad_text, bad_range, bad_count, bad_member, json_bad_selector, next, Found, Walked, ◌>>=◌, where_holds, leaf, allows}

-- a number in decimal digits
abbrev pub decimal_at : Width → ℕ → List ℕ → Found SszValue
decimal_at w n s = do
  digits ← where_holds (is_decimal s) s (bad_text n)
  k ← ok_or (number_below (256 ^ byte_count w) digits) (bad_range n)
  Ok (number k)

-- 32 bytes in hexadecimal digits
abbrev pub wide_at : ℕ → List ℕ → Found SszValue
wide_at n s = do
  bytes ← ok_or (hex_bytes s) (bad_text n)
  where_holds (length bytes == 32) (wide bytes) (bad_count n)

abbrev pub json_number_at : Width → ℕ → List ℕ → Found SszValue
json_number_at W256 n s = wide_at n s
json_number_at w n s = decimal_at w n s

abbrev pub uint_at : Width → ℕ → Data → Found SszValue
uint_at w n d = do
  s ← ok_or (as_str d) (bad_kind n)
  json_number_at w n s

abbrev pub boolean_at : ℕ → Data → Found SszValue
boolean_at n d = do
  b ← ok_or (as_bool d) (bad_kind n)
  Ok (truth b)

abbrev pub bits_at : Count → ℕ → Data → Found SszValue
bits_at many n d = do
  s ← ok_or (as_str d) (bad_kind n)
  digits ← where_holds (list_all is_bit_digit s) s (bad_text n)
  where_holds (allows many (length digits)) (bits (text_bits digits)) (bad_count n)

-- a vector or list of uint8
abbrev pub json_bytes_at : Count → ℕ → Data → Found SszValue
json_bytes_at many n d = do
  s ← ok_or (as_str d) (bad_kind n)
  bytes ← ok_or (hex_bytes s) (bad_text n)
  where_holds (allows many (length bytes)) (sequence (values (map number bytes))) (bad_count n)

-- elements one after another
abbrev pub elements_at : (ℕ → Data → Walked SszValue) → ℕ → Items → Walked (List SszValue)
elements_at part n no_items = Ok ([], n)
elements_at part n (item d ds) = do
  first ← part n d
  rest ← elements_at part first.1 ds
  Ok (first.0 ∷ rest.0, rest.1)

-- an array of elements
abbrev pub array_at : (ℕ → Data → Walked SszValue) → Count → ℕ → Data → Walked SszValue
array_at part many n d = do
  ds ← ok_or (as_array d) (bad_kind n)
  few ← where_holds (allows many (items_len ds)) ds (bad_count n)
  parts ← elements_at part (next n) few
  Ok (sequence (values parts.0), parts.1)

-- a vector or list: of bytes, or of other elements
abbrev pub sequence_at : Bool → (ℕ → Data → Walked SszValue) → Count → ℕ → Data → Walked SszValue
sequence_at true part many n d = leaf n (json_bytes_at many n d)
sequence_at false part many n d = array_at part many n d

-- the members of an object
abbrev pub members_in : Data → Members
members_in (object ms) = ms
members_in _ = no_members

-- A member for each name, and no other: each object has each key once, so with as many members as
-- names, and each name among them, none is missing and none is over.
abbrev pub are_members : List (List ℕ) → Members → Bool
are_members names ms =
    (length names == members_len ms) && list_all (λ name. is_some (get_member name ms)) names

-- the items of an array of two
abbrev pub two_items : Items → Option (Data × Data)
two_items (item a (item b no_items)) = Some (a, b)
two_items _ = None

-- a number of one byte
abbrev pub byte_number : ℕ → Option ℕ
byte_number k = if nat_lt k 256 then Some k else None

-- a whole number of one byte, written without fraction and exponent
abbrev pub json_selector : Data → Option ℕ
json_selector d = option_and_then byte_number (option_and_then as_u64 (as_number d))

-- the selector and the JSON of the value, of an array of two
abbrev pub selected : Data → Option (ℕ × Data)
selected d =
    option_and_then (λ pair. option_map (λ k. (k, pair.1)) (json_selector pair.0))
    (option_and_then two_items (as_array d))

-- the option None
abbrev pub none_at : ℕ → ℕ → Data → Walked SszValue
none_at k n null = Ok (chosen_none k, next n)
none_at k n _ = Err (bad_kind n)

-- the member of a field
abbrev pub field_walked : (ℕ → Data → Walked SszValue) → ℕ → Option Data → Walked SszValue
field_walked part n (Some d) = part n d
field_walked part n None = Err (bad_member n)

abbrev mutual
  -- the part of this number
  pub json_walk : SszType → ℕ → Data → Walked SszValue
  json_walk (uint w) n d = leaf n (uint_at w n d)
  json_walk boolean n d = leaf n (boolean_at n d)
  json_walk (bitvector length) n d = leaf n (bits_at (Exactly length) n d)
  json_walk (bitlist limit) n d = leaf n (bits_at (AtMost limit) n d)
  json_walk (vector elem length) n d =
      sequence_at (is_byte elem) (json_walk elem) (Exactly length) n d
  json_walk (list elem limit) n d = sequence_at (is_byte elem) (json_walk elem) (AtMost limit) n d
  json_walk (container fs) n d = do
    ms ← ok_or (as_object d) (bad_kind n)
    all ← where_holds (are_members (field_names fs) ms) ms (bad_member n)
    parts ← fields_at fs (next n) all
    Ok (sequence (values parts.0), parts.1)
  json_walk (union os) n d = do
    pair ← ok_or (selected d) (bad_kind n)
    option_at os pair.0 pair.0 n pair.1

  -- the members of the fields
  pub fields_at : Fields → ℕ → Members → Walked (List SszValue)
  fields_at no_fields n ms = Ok ([], n)
  fields_at (field name t fs) n ms = do
    first ← field_walked (json_walk t) n (get_member name ms)
    rest ← fields_at fs first.1 ms
    Ok (first.0 ∷ rest.0, rest.1)

  -- the option that stands left places on, under its number k, in the part numbered n
  pub option_at : Options → ℕ → ℕ → ℕ → Data → Walked SszValue
  option_at no_options left k n d = Err (json_bad_selector n)
  option_at (none_option os) zero k n d = none_at k (next n) d
  option_at (option t os) zero k n d = do
    inner ← json_walk t (next n) d
    Ok (chosen k inner.0, inner.1)
  option_at (none_option os) (suc left) k n d = option_at os left k n d
  option_at (option t os) (suc left) k n d = option_at os left k n d
