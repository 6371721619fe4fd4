-- What an edit puts into a value.
use Rattle.std.specs.Prelude.{ℕ, ◌≡◌, ◌<◌, ◌^◌, length, Option, Some, None, option_map}
use Rattle.std.specs.Borrow.{Bor}
use Rattle.ssz_schema.specs.Types.{SszType}
use Rattle.ssz_schema.specs.Unfolding.{Types, type_of}
use Rattle.ssz_value.specs.declared.value.Value.{Value as Program}
use Rattle.ssz_value.specs.Values.{SszValue, Fits}
use Rattle.ssz_value.specs.Faults.{first_fault}
use Rattle.ssz_value.specs.Reading.{value_in}
use Rattle.ssz_value.specs.Standing.{value_of, IsValue}
use Rattle.ssz_making.specs.Parts.{MadePart, part_of_value, none_part}
use Rattle.ssz_edit.specs.declared.given.Given.{Given}
use Rattle.ssz_edit.specs.declared.given.Given.TheVariants.{Value, Bytes}

-- the value that is given: it, or that which the bytes stand for
abbrev pub given_value : SszType → Given → SszValue
given_value t (Value v) = value_of v.now
given_value t (Bytes b) = value_in t b.now

-- it is one of the type: the bytes have no fault
abbrev pub IsGiven : SszType → Given → Type 0
IsGiven t (Value v) = IsValue t v.now
IsGiven t (Bytes b) = (length b.now < 2 ^ 32) × (first_fault t 0 b.now ≡ None)

-- a value, where there is one
abbrev pub values_given : Option (Bor Program) → Option Given
values_given inner = option_map Value inner

-- the value that is given for an option: None has none
abbrev pub option_value : Types → Option ℕ → Option Given → Option SszValue
option_value types (Some id) (Some given) = Some (given_value (type_of types id) given)
option_value types (Some id) None = None
option_value types None given = None

-- it is one of the option, and there is none exactly for None
abbrev pub IsOfOption : Types → Option ℕ → Option Given → Type 0
IsOfOption types (Some id) (Some given) = IsGiven (type_of types id) given
IsOfOption types (Some id) None = ⊥
IsOfOption types None (Some given) = ⊥
IsOfOption types None None = Unit {0}

-- so of the value that an option gets
abbrev pub FitsOf : Types → Option ℕ → Option SszValue → Type 0
FitsOf types (Some id) (Some x) = Fits (type_of types id) x
FitsOf types (Some id) None = ⊥
FitsOf types None (Some x) = ⊥
FitsOf types None None = Unit {0}

-- an option with a value, or None
abbrev pub option_part : Types → Option ℕ → Option SszValue → MadePart
option_part types (Some id) (Some x) = part_of_value (type_of types id) x
option_part types (Some id) None = none_part
option_part types None x = none_part
