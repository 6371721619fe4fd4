-- The one JSON text of a value (this project's).
use Rattle.std.specs.Prelude.{ℕ, zero, suc, Bool, true, false, List, ◌∷◌, map, decimal}
use Rattle.serde_json.specs.Data.{unsigned, Data, null, boolean as json_boolean, number as json_number, string, array, object, no_items, item, Members, no_members, put}
use Rattle.serde_json.specs.View.{items_of}
use Rattle.serde_json.specs.Written.{compact_text}
use Rattle.ssz_schema.specs.Types.{SszType, Fields, Options, uint, boolean, container, vector, list, bitvector, bitlist, union, field, none_option, option}
use Rattle.ssz_value.specs.Values.{SszValue, number, wide, truth, sequence, bits, chosen, chosen_none, items}
use Rattle.ssz_value.specs.Standing.{is_byte}
use Rattle.ssz_json_text.specs.Strings.{hex_text, bits_text}

-- the number of a uint8
abbrev pub byte_of : SszValue → ℕ
byte_of (number n) = n
byte_of _ = 0

-- bytes as one string, other elements as an array
abbrev pub sequence_json : Bool → (SszValue → Data) → List SszValue → Data
sequence_json true part vs = string (hex_text (map byte_of vs))
sequence_json false part vs = array (items_of (map part vs))

abbrev pub bits_json : SszValue → Data
bits_json (bits bs) = string (bits_text bs)
bits_json _ = null

abbrev mutual
  -- the JSON of a value that fits
  pub json_of : SszType → SszValue → Data
  json_of (uint w) (number n) = string (decimal n)
  json_of (uint w) (wide bytes) = string (hex_text bytes)
  json_of boolean (truth b) = json_boolean b
  json_of (container fs) (sequence vs) = object (members_json fs (items vs))
  json_of (vector elem n) (sequence vs) = sequence_json (is_byte elem) (json_of elem) (items vs)
  json_of (list elem limit) (sequence vs) = sequence_json (is_byte elem) (json_of elem) (items vs)
  json_of (bitvector n) v = bits_json v
  json_of (bitlist limit) v = bits_json v
  json_of (union os) (chosen k v) =
      array (item (json_number (unsigned k)) (item (option_json os k v) no_items))
  json_of (union os) (chosen_none k) =
      array (item (json_number (unsigned k)) (item null no_items))
  -- no other value fits
  json_of _ _ = null

  -- a member for each field, in byte order of their names
  pub members_json : Fields → List SszValue → Members
  members_json (field name t fs) (v ∷ vs) = put name (json_of t v) (members_json fs vs)
  members_json _ _ = no_members

  -- of a value of the option of this number
  pub option_json : Options → ℕ → SszValue → Data
  option_json (option t os) zero v = json_of t v
  option_json (option t os) (suc k) v = option_json os k v
  option_json (none_option os) (suc k) v = option_json os k v
  option_json _ _ v = null

-- that JSON without white space
abbrev pub json : SszType → SszValue → List ℕ
json t v = compact_text (json_of t v)
