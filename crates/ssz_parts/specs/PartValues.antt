-- The values of the parts of an encoding.
use Rattle.std.specs.Prelude.{ℕ, List, map}
use Rattle.ssz_schema.specs.Types.{SszType, Fields}
use Rattle.ssz_schema.specs.Sizes.{fixed_size, part_sizes}
use Rattle.ssz_value.specs.Values.{SszValue}
use Rattle.ssz_value.specs.Reading.{value_in, fields_in, elements_in}
use Rattle.ssz_value.specs.Faults.{scopes, scope_bytes}

-- the values of count elements of this type
abbrev pub element_values : SszType → ℕ → List ℕ → List SszValue
element_values t count b = map (value_in t) (elements_in (fixed_size t) count b)

-- the values of the fields
abbrev pub field_values : Fields → List ℕ → List SszValue
field_values fs b = fields_in fs (scope_bytes (scopes (part_sizes fs) 0 b))
