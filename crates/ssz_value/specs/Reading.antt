-- The value that bytes without a fault stand for (simple-serialize.md, Deserialization).
use Rattle.std.specs.Prelude.{ℕ, zero, suc, ◌==◌, List, [], ◌∷◌, map, replicate, slice_index, Option}
use Rattle.ssz_schema.specs.width.Width.{Width}
use Rattle.ssz_schema.specs.width.Width.TheVariants.{W256}
use Rattle.ssz_schema.specs.Types.{SszType, Fields, Options, uint, boolean, container, vector, list, bitvector, bitlist, union, field, none_option, option}
use Rattle.ssz_schema.specs.Sizes.{fixed_size, part_sizes}
use Rattle.ssz_bytes.specs.Bytes.{le_number, bits_of_number}
use Rattle.ssz_bytes.specs.Faults.{bitlist_length}
use Rattle.ssz_value.specs.Values.{SszValue, number, wide, truth, sequence, bits, chosen, chosen_none, values}
use Rattle.ssz_value.specs.Faults.{scopes, scope_bytes, element_count}

abbrev pub number_in : Width → List ℕ → SszValue
number_in W256 b = wide b
number_in _ b = number (le_number b)

-- the bytes of count elements
abbrev pub elements_in : Option ℕ → ℕ → List ℕ → List (List ℕ)
elements_in size count b = scope_bytes (scopes (replicate count size) 0 b)

abbrev mutual
  -- the value whose encoding the bytes are
  pub value_in : SszType → List ℕ → SszValue
  value_in (uint w) b = number_in w b
  value_in boolean b = truth (slice_index b 0 == 1)
  value_in (container fs) b =
      sequence (values (fields_in fs (scope_bytes (scopes (part_sizes fs) 0 b))))
  value_in (vector elem n) b =
      sequence (values (map (value_in elem) (elements_in (fixed_size elem) n b)))
  value_in (list elem limit) b =
      let count = element_count (fixed_size elem) b in
      sequence (values (map (value_in elem) (elements_in (fixed_size elem) count b)))
  value_in (bitvector n) b = bits (bits_of_number n (le_number b))
  value_in (bitlist limit) b = bits (bits_of_number (bitlist_length b) (le_number b))
  value_in (union os) [] = chosen_none 0
  value_in (union os) (k ∷ b) = option_in os k k b

  -- of the fields
  pub fields_in : Fields → List (List ℕ) → List SszValue
  fields_in (field name t fs) (part ∷ parts) = value_in t part ∷ fields_in fs parts
  fields_in _ _ = []

  -- of the option that stands left places on, under its number k
  pub option_in : Options → ℕ → ℕ → List ℕ → SszValue
  option_in (option t os) zero k b = chosen k (value_in t b)
  option_in (option t os) (suc left) k b = option_in os left k b
  option_in (none_option os) (suc left) k b = option_in os left k b
  option_in _ _ k b = chosen_none k
