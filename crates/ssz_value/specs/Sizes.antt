-- The length of an encoding, as a sum over the parts (simple-serialize.md, Serialization).
use Rattle.std.specs.Prelude.{ℕ, zero, suc, ◌+◌, ◌/◌, List, ◌∷◌, length, sum_by}
use Rattle.ssz_schema.specs.Types.{SszType, Fields, Options, uint, boolean, container, vector, list, bitvector, bitlist, union, field, none_option, option}
use Rattle.ssz_schema.specs.Sizes.{byte_count, fixed_size, part_length}
use Rattle.ssz_value.specs.Values.{SszValue, sequence, bits, chosen, chosen_none, items}

abbrev mutual
  -- the length of the encoding of a value that fits
  pub size : SszType → SszValue → ℕ
  size (uint w) v = byte_count w
  size boolean v = 1
  size (container fs) (sequence vs) = fields_size fs (items vs)
  size (vector elem n) (sequence vs) =
      sum_by (λ v. part_length (fixed_size elem) (size elem v)) (items vs)
  size (list elem limit) (sequence vs) =
      sum_by (λ v. part_length (fixed_size elem) (size elem v)) (items vs)
  size (bitvector n) v = (n + 7) / 8
  size (bitlist limit) (bits bs) = length bs / 8 + 1
  size (union os) (chosen k v) = 1 + option_size os k v
  size (union os) (chosen_none k) = 1
  -- no other value fits
  size _ _ = 0

  -- of the fields, each with its offset where it is variable-size
  pub fields_size : Fields → List SszValue → ℕ
  fields_size (field name t fs) (v ∷ vs) = part_length (fixed_size t) (size t v) + fields_size fs vs
  fields_size _ _ = 0

  -- of a value of the option of this number
  pub option_size : Options → ℕ → SszValue → ℕ
  option_size (option t os) zero v = size t v
  option_size (option t os) (suc k) v = option_size os k v
  option_size (none_option os) (suc k) v = option_size os k v
  option_size _ _ v = 0
