-- The parts of values: the words of which the conditions on elements and fields are made.
use Rattle.std.specs.Prelude.{ℕ, ◌≡◌, Bool, List, [], ◌∷◌, ◌++◌, length, map}
use Rattle.std.specs.List.{AllByRecursion}
use Rattle.ssz_schema.specs.Types.{SszType, Fields, no_fields, field}
use Rattle.ssz_value.specs.declared.value.Value.{Value, out-Value}
use Rattle.ssz_value.specs.Values.{SszValue, sequence, bits, items, Fits}
use Rattle.ssz_value.specs.Standing.{value_of, is_byte, AreFormed, IsFormed, IsValue, Stands}

-- the parts of a sequence
abbrev pub parts_of : SszValue → List SszValue
parts_of (sequence vs) = items vs
parts_of _ = []

-- how many parts a sequence has
abbrev pub part_count_of : SszValue → ℕ
part_count_of v = length (parts_of v)

-- the bits of a value of bits
abbrev pub bits_of : SszValue → List Bool
bits_of (bits bs) = bs
bits_of _ = []

-- one value for each field
abbrev pub AreFields : Fields → List Value → Type 0
AreFields no_fields [] = Unit {0}
AreFields (field name t fs) (v ∷ vs) = IsValue t v × AreFields fs vs
AreFields _ _ = ⊥

abbrev pub ElementsFit : SszType → SszValue → Type 0
ElementsFit elem (sequence vs) = AllByRecursion (Fits elem) (items vs)
ElementsFit elem _ = ⊥

-- the value is a sequence of elements of the type, however many
pub record IsSequence (elem : SszType) (v : Value) : Type 0 where
  pub fit : ElementsFit elem (value_of v)
  pub formed : AreFormed (is_byte elem) (IsFormed elem) (out-Value v)

-- these values stand for those, each in the form that the type wants
pub record StandAlike (t : SszType) (ws : List SszValue) (vs : List Value) : Type 0 where
  pub value : map value_of vs ≡ ws
  pub formed : AllByRecursion (IsFormed t) vs

-- one more value, which stands for this one, is behind the others
pub record StandsBehind (t : SszType) (w : SszValue) (old new : List Value) : Type 0 where
  pub value : Value
  pub items : new ≡ old ++ value ∷ []
  pub stands : Stands t w value
