-- The value that the program's value stands for, and which values of the program are of a type.
use Rattle.std.specs.Prelude.{ℕ, zero, suc, ◌≡◌, Bool, true, false, List, ◌∷◌, map, Some, None}
use Rattle.std.specs.List.{AllByRecursion}
use Rattle.ssz_schema.specs.width.Width.TheVariants.{W8}
use Rattle.ssz_schema.specs.Types.{SszType, Fields, Options, uint, container, vector, list, union, field, none_option, option}
use Rattle.ssz_value.specs.declared.value.Value.{Value, out-Value}
use Rattle.ssz_value.specs.declared.value.Value.TheOpen.{Value-F, Uint, Wide, Bool as Flag, Bytes, Seq, Bits, Union}
use Rattle.ssz_value.specs.declared.value.Value.TheFolds.{fold-Value}
use Rattle.ssz_value.specs.Values.{SszValue, number, wide, truth, sequence, bits, chosen, chosen_none, values, Fits}

-- one layer of a value, with what each part stands for in its place; bytes stand for their numbers
abbrev pub value_step : Value-F SszValue → SszValue
value_step (Uint n) = number n
value_step (Wide chunk) = wide chunk.0
value_step (Flag b) = truth b
value_step (Bytes run) = sequence (values (map number run))
value_step (Seq parts) = sequence (values parts.items)
value_step (Bits run) = bits run
value_step (Union selector (Some inner)) = chosen selector inner.value
value_step (Union selector None) = chosen_none selector

abbrev pub value_of : Value → SszValue
value_of = fold-Value SszValue value_step

-- the type uint8, whose vectors and lists stand as bytes
abbrev pub is_byte : SszType → Bool
is_byte (uint W8) = true
is_byte _ = false

-- elements stand as bytes exactly where their type is uint8; otherwise each part is P
abbrev pub AreFormed : Bool → (Value → Type 0) → Value-F Value → Type 0
AreFormed true P (Bytes run) = Unit {0}
AreFormed false P (Seq parts) = AllByRecursion P parts.items
AreFormed _ P _ = ⊥

-- the parts of a container are P
abbrev pub OfParts : (List Value → Type 0) → Value-F Value → Type 0
OfParts P (Seq parts) = P parts.items
OfParts P _ = ⊥

-- a value under a selector is P
abbrev pub OfChosen : (ℕ → Value → Type 0) → Value-F Value → Type 0
OfChosen P (Union k (Some inner)) = P k inner.value
OfChosen P _ = Unit {0}

abbrev mutual
  -- bytes stand for vectors and lists of uint8, and for nothing else
  pub IsFormed : SszType → Value → Type 0
  IsFormed (container fs) v = OfParts (FieldsFormed fs) (out-Value v)
  IsFormed (vector elem n) v = AreFormed (is_byte elem) (IsFormed elem) (out-Value v)
  IsFormed (list elem limit) v = AreFormed (is_byte elem) (IsFormed elem) (out-Value v)
  IsFormed (union os) v = OfChosen (OptionFormed os) (out-Value v)
  -- numbers, booleans and bits have one form each
  IsFormed _ v = Unit {0}

  pub FieldsFormed : Fields → List Value → Type 0
  FieldsFormed (field name t fs) (v ∷ vs) = IsFormed t v × FieldsFormed fs vs
  FieldsFormed _ _ = Unit {0}

  pub OptionFormed : Options → ℕ → Value → Type 0
  OptionFormed (option t os) zero v = IsFormed t v
  OptionFormed (option t os) (suc k) v = OptionFormed os k v
  OptionFormed (none_option os) (suc k) v = OptionFormed os k v
  OptionFormed _ _ v = Unit {0}

-- the value is one of the type, in the form that the type wants
pub record IsValue (t : SszType) (v : Value) : Type 0 where
  pub fits : Fits t (value_of v)
  pub formed : IsFormed t v

-- the program's value stands for this one, in the form that the type wants
pub record Stands (t : SszType) (w : SszValue) (v : Value) : Type 0 where
  pub value : value_of v ≡ w
  pub formed : IsFormed t v

-- the new value stands for the same as the old one, in the same form
pub record IsCopy (old new : Value) : Type 0 where
  pub value : value_of new ≡ value_of old
  pub formed : (t : SszType) → IsFormed t old → IsFormed t new
