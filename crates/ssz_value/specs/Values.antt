-- The values of SimpleSerialize, and which values a type has (simple-serialize.md, Typing).
use Rattle.std.specs.Prelude.{ℕ, zero, suc, ◌^◌, ◌<◌, ◌≤◌, ◌≡◌, Bool, List, [], ◌∷◌, length}
use Rattle.std.specs.List.{AllByRecursion}
use Rattle.ssz_schema.specs.width.Width.{Width}
use Rattle.ssz_schema.specs.width.Width.TheVariants.{W256}
use Rattle.ssz_schema.specs.Types.{SszType, Fields, Options, uint, boolean, container, vector, list, bitvector, bitlist, union, no_fields, field, no_options, none_option, option}
use Rattle.ssz_schema.specs.Sizes.{byte_count}
use Rattle.ssz_bytes.specs.Bytes.{IsBytes}

mutual
  -- a value, without its type
  pub data SszValue : Type 0 where
    -- a uint8 to uint128
    number : ℕ → SszValue
    -- the 32 bytes of a uint256
    wide : List ℕ → SszValue
    truth : Bool → SszValue
    -- the parts of a container, a vector or a list
    sequence : Values → SszValue
    -- of a bitvector or a bitlist
    bits : List Bool → SszValue
    -- the selector of a union, and its value
    chosen : ℕ → SszValue → SszValue
    -- the selector of the option None
    chosen_none : ℕ → SszValue

  -- values in order
  pub data Values : Type 0 where
    no_values : Values
    value_before : SszValue → Values → Values

-- the values as a list, and back
abbrev pub items : Values → List SszValue
items no_values = []
items (value_before v vs) = v ∷ items vs

abbrev pub values : List SszValue → Values
values [] = no_values
values (v ∷ vs) = value_before v (values vs)

-- a number below 2 to the width's bits; at 256 bits, 32 bytes
abbrev pub FitsWidth : Width → SszValue → Type 0
FitsWidth W256 (wide bytes) = (length bytes ≡ 32) × IsBytes bytes
FitsWidth W256 _ = ⊥
FitsWidth w (number n) = n < 256 ^ byte_count w
FitsWidth _ _ = ⊥

abbrev mutual
  -- the value is one of the type
  pub Fits : SszType → SszValue → Type 0
  Fits (uint w) v = FitsWidth w v
  Fits boolean (truth b) = Unit {0}
  Fits (container fs) (sequence vs) = FitFields fs (items vs)
  Fits (vector elem n) (sequence vs) =
      (length (items vs) ≡ n) × AllByRecursion (Fits elem) (items vs)
  Fits (list elem limit) (sequence vs) =
      (length (items vs) ≤ limit) × AllByRecursion (Fits elem) (items vs)
  Fits (bitvector n) (bits bs) = length bs ≡ n
  Fits (bitlist limit) (bits bs) = length bs ≤ limit
  Fits (union os) (chosen k v) = FitsOption os k v
  Fits (union os) (chosen_none k) = IsNoneOption os k
  -- no other form of value is one of the type
  Fits _ _ = ⊥

  -- one value for each field
  pub FitFields : Fields → List SszValue → Type 0
  FitFields no_fields [] = Unit {0}
  FitFields (field name t fs) (v ∷ vs) = Fits t v × FitFields fs vs
  FitFields _ _ = ⊥

  -- the option of this number has a type, and the value is one of it
  pub FitsOption : Options → ℕ → SszValue → Type 0
  FitsOption no_options k v = ⊥
  FitsOption (none_option os) zero v = ⊥
  FitsOption (option t os) zero v = Fits t v
  FitsOption (none_option os) (suc k) v = FitsOption os k v
  FitsOption (option t os) (suc k) v = FitsOption os k v

  -- the option of this number is None
  pub IsNoneOption : Options → ℕ → Type 0
  IsNoneOption no_options k = ⊥
  IsNoneOption (none_option os) zero = Unit {0}
  IsNoneOption (option t os) zero = ⊥
  IsNoneOption (none_option os) (suc k) = IsNoneOption os k
  IsNoneOption (option t os) (suc k) = IsNoneOption os k
