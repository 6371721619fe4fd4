-- Whether two types are the same tree: names of definitions do not matter.
use Rattle.std.specs.Prelude.{◌≡◌, ◌↔◌, ◌==◌, ◌&&◌, Bool, true, false, bytes_eq}
use Rattle.ssz_schema.specs.Types.{SszType, Fields, Options, uint, boolean, container, vector, list, bitvector, bitlist, union, no_fields, field, no_options, none_option, option}
use Rattle.ssz_schema.specs.Sizes.{byte_count}

abbrev mutual
  -- the same form, of the same parts
  pub same_type : SszType → SszType → Bool
  same_type (uint w) (uint x) = byte_count w == byte_count x
  same_type boolean boolean = true
  same_type (container fs) (container gs) = same_fields fs gs
  same_type (vector t n) (vector u m) = (n == m) && same_type t u
  same_type (list t n) (list u m) = (n == m) && same_type t u
  same_type (bitvector n) (bitvector m) = n == m
  same_type (bitlist n) (bitlist m) = n == m
  same_type (union os) (union ps) = same_options os ps
  same_type _ _ = false

  -- field by field, of the same names
  pub same_fields : Fields → Fields → Bool
  same_fields no_fields no_fields = true
  same_fields (field a t fs) (field b u gs) =
      (bytes_eq a b && same_type t u) && same_fields fs gs
  same_fields _ _ = false

  pub same_options : Options → Options → Bool
  same_options no_options no_options = true
  same_options (none_option os) (none_option ps) = same_options os ps
  same_options (option t os) (option u ps) = same_type t u && same_options os ps
  same_options _ _ = false

-- the test is true of equal types, and of no others
abbrev pub SameTypesAreEqual : Type 0
SameTypesAreEqual = (t u : SszType) → (same_type t u ≡ true) ↔ (t ≡ u)
