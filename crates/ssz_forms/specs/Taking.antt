-- What the calls that upgrade keep and answer.
use Rattle.std.specs.Prelude.{ℕ, ◌≡◌, ◌<◌, List, length, map, Option, Some, None, Result, Ok, Err, IfOk, bytes_eq, slice_get, Vec}
use Rattle.std.specs.List.{position_from}
use Rattle.std.specs.declared.alloc.Global.{Global}
use Rattle.std.specs.BTreeMap.{BTreeMap}
use Rattle.std.specs.declared.alloc.AllocError.{AllocError}
use Rattle.ssz_schema.specs.Types.{SszType, Fields}
use Rattle.ssz_schema.specs.Unfolding.{Types}
use Rattle.ssz_schema.specs.Lookup.{lookup_name}
use Rattle.ssz_schema.specs.NameTables.{names_in}
use Rattle.ssz_value.specs.declared.value.Value.{Value}
use Rattle.ssz_value.specs.Values.{SszValue}
use Rattle.ssz_value.specs.Standing.{value_of, IsValue}
use Rattle.ssz_value.specs.Shapes.{AreFields}
use Rattle.ssz_forms.specs.declared.upgrade_fault.UpgradeFault.{UpgradeFault}
use Rattle.ssz_forms.specs.declared.upgrade_fault.UpgradeFault.TheVariants.{NotContainer, Memory}
use Rattle.ssz_forms.specs.declared.forms.Forms.{Forms}
use Rattle.ssz_forms.specs.Answers.{AreRight}
use Rattle.ssz_forms.specs.Upgrades.{upgraded, upgraded_fields}

-- the map has the number of each field by its name
abbrev pub AreFieldNumbers : List (List ℕ × ℕ) → BTreeMap (Vec ℕ Global) ℕ → Type 0
AreFieldNumbers fields numbers = (name : List ℕ)
    → lookup_name (names_in numbers) name ≡ position_from (λ part. bytes_eq part.0 name) 0 fields

-- the number, unless memory runs out; what is kept of types is right
pub record FindsTaken (types : Types) (number : Option ℕ) (result : Result (Option ℕ) AllocError)
    (new : Forms) : Type 0 where
  pub found : IfOk result (λ answer. answer ≡ number)
  pub right : AreRight types new

-- the value at this number, if any, is one of the type
abbrev pub IsFieldTaken : List Value → SszType → Option ℕ → Type 0
IsFieldTaken parts t None = Unit {0}
IsFieldTaken parts t (Some k) =
    (k < length parts) × ((v : Value) → slice_get parts k ≡ Some v → IsValue t v)

-- the values stand for the upgraded fields, and each is one of its type
pub record AreUpgraded (old : Fields) (vs : List SszValue) (new : Fields) (made : List Value)
    : Type 0 where
  pub value : map value_of made ≡ upgraded_fields old vs new
  pub are : AreFields new made

-- the value stands for the upgraded one, and is one of the type
pub record StandsUpgraded (s : SszType) (v : SszValue) (t : SszType) (new : Value) : Type 0 where
  pub value : upgraded s v t ≡ Ok (value_of new)
  pub is : IsValue t new

-- the upgraded value, or why there is none
abbrev pub UpgradesValue : SszType → SszValue → SszType → Result Value UpgradeFault → Type 0
UpgradesValue s v t (Ok new) = StandsUpgraded s v t new
UpgradesValue s v t (Err NotContainer) = upgraded s v t ≡ Err NotContainer
UpgradesValue s v t (Err Memory) = Unit {0}
