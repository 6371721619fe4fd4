-- The default of a type (simple-serialize.md, Default values).
use Rattle.std.specs.Prelude.{false, List, [], ◌∷◌, replicate}
use Rattle.ssz_schema.specs.width.Width.{Width}
use Rattle.ssz_schema.specs.width.Width.TheVariants.{W256}
use Rattle.ssz_schema.specs.Types.{SszType, Fields, Options, uint, boolean, container, vector, list, bitvector, bitlist, union, no_fields, field, no_options, none_option, option}
use Rattle.ssz_value.specs.Values.{SszValue, number, wide, truth, sequence, bits, chosen, chosen_none, values}

-- 0, in the form of the width
abbrev pub default_number : Width → SszValue
default_number W256 = wide (replicate 32 0)
default_number _ = number 0

abbrev mutual
  -- the default value
  pub default_of : SszType → SszValue
  default_of (uint w) = default_number w
  default_of boolean = truth false
  default_of (container fs) = sequence (values (default_fields fs))
  default_of (vector elem n) = sequence (values (replicate n (default_of elem)))
  default_of (list elem limit) = sequence (values [])
  default_of (bitvector n) = bits (replicate n false)
  default_of (bitlist limit) = bits []
  default_of (union os) = default_option os

  -- field by field
  pub default_fields : Fields → List SszValue
  default_fields no_fields = []
  default_fields (field name t fs) = default_of t ∷ default_fields fs

  -- selector 0 with the default of the first option
  pub default_option : Options → SszValue
  default_option no_options = chosen_none 0
  default_option (none_option os) = chosen_none 0
  default_option (option t os) = chosen 0 (default_of t)
