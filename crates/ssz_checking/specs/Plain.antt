-- The types of which bytes of the right number have no fault: numbers, bitvectors of whole bytes,
-- and vectors and containers of such.
use Rattle.std.specs.Prelude.{◌%◌, ◌==◌, ◌&&◌, Bool, true, false}
use Rattle.ssz_schema.specs.Types.{SszType, Fields, uint, container, vector, bitvector, no_fields, field}

abbrev mutual
  pub has_plain_encoding : SszType → Bool
  has_plain_encoding (uint w) = true
  has_plain_encoding (bitvector n) = n % 8 == 0
  has_plain_encoding (vector elem n) = has_plain_encoding elem
  has_plain_encoding (container fs) = are_plain fs
  has_plain_encoding _ = false

  pub are_plain : Fields → Bool
  are_plain no_fields = true
  are_plain (field name t fs) = has_plain_encoding t && are_plain fs
