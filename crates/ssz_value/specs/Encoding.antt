-- The one encoding of a value (simple-serialize.md, Serialization).
use Rattle.std.specs.Prelude.{ℕ, zero, suc, ◌+◌, ◌/◌, true, List, [], ◌∷◌, ◌++◌, length, map, replicate, Option, Some, None}
use Rattle.ssz_schema.specs.Types.{SszType, Fields, Options, uint, boolean, container, vector, list, bitvector, bitlist, union, field, none_option, option}
use Rattle.ssz_schema.specs.Sizes.{byte_count, fixed_size, part_sizes, head_size}
use Rattle.ssz_bytes.specs.Bytes.{le_bytes, number_of_bits, bit_value, offset_bytes}
use Rattle.ssz_value.specs.Values.{SszValue, number, wide, truth, sequence, bits, chosen, chosen_none, items}

-- Below, sizes are the fixed sizes of the parts, None for a variable-size part, and parts are their
-- encodings.

-- the length of all fixed parts
abbrev pub heads_length : List (Option ℕ) → ℕ
heads_length [] = 0
heads_length (size ∷ sizes) = head_size size + heads_length sizes

-- The fixed parts: a fixed-size part itself, for another its offset. The next variable part begins
-- at offset.
abbrev pub heads : List (Option ℕ) → List (List ℕ) → ℕ → List ℕ
heads (Some z ∷ sizes) (p ∷ parts) offset = p ++ heads sizes parts offset
heads (None ∷ sizes) (p ∷ parts) offset =
    offset_bytes offset ++ heads sizes parts (offset + length p)
heads _ _ offset = []

-- the variable parts
abbrev pub bodies : List (Option ℕ) → List (List ℕ) → List ℕ
bodies (Some z ∷ sizes) (p ∷ parts) = bodies sizes parts
bodies (None ∷ sizes) (p ∷ parts) = p ++ bodies sizes parts
bodies _ _ = []

-- the fixed parts of all, then the variable parts in order
abbrev pub joined : List (Option ℕ) → List (List ℕ) → List ℕ
joined sizes parts = heads sizes parts (heads_length sizes) ++ bodies sizes parts

-- parts of one size
abbrev pub joined_alike : Option ℕ → List (List ℕ) → List ℕ
joined_alike size parts = joined (replicate (length parts) size) parts

abbrev mutual
  -- the encoding of a value that fits
  pub serialize : SszType → SszValue → List ℕ
  serialize (uint w) (number n) = le_bytes (byte_count w) n
  serialize (uint w) (wide bytes) = bytes
  serialize boolean (truth b) = bit_value b ∷ []
  serialize (container fs) (sequence vs) = joined (part_sizes fs) (field_encodings fs (items vs))
  serialize (vector elem n) (sequence vs) =
      joined_alike (fixed_size elem) (map (serialize elem) (items vs))
  serialize (list elem limit) (sequence vs) =
      joined_alike (fixed_size elem) (map (serialize elem) (items vs))
  serialize (bitvector n) (bits bs) = le_bytes ((n + 7) / 8) (number_of_bits bs)
  serialize (bitlist limit) (bits bs) =
      le_bytes (length bs / 8 + 1) (number_of_bits (bs ++ true ∷ []))
  serialize (union os) (chosen k v) = k ∷ option_encoding os k v
  serialize (union os) (chosen_none k) = k ∷ []
  -- no other value fits
  serialize _ _ = []

  -- the encodings of the fields
  pub field_encodings : Fields → List SszValue → List (List ℕ)
  field_encodings (field name t fs) (v ∷ vs) = serialize t v ∷ field_encodings fs vs
  field_encodings _ _ = []

  -- the encoding of a value of the option of this number
  pub option_encoding : Options → ℕ → SszValue → List ℕ
  option_encoding (option t os) zero v = serialize t v
  option_encoding (option t os) (suc k) v = option_encoding os k v
  option_encoding (none_option os) (suc k) v = option_encoding os k v
  option_encoding _ _ v = []
