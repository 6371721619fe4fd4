-- Where a step leads in a value.
use Rattle.std.specs.Prelude.{ℕ, ◌≡◌, ◌<◌, ◌∷◌, length, Option, Some, IfSome}
use Rattle.ssz_schema.specs.declared.path.PathStep.{PathStep}
use Rattle.ssz_schema.specs.declared.path.PathStep.TheVariants.{Index, Len, Selector, Option as Chosen}
use Rattle.ssz_schema.specs.Types.{SszType}
use Rattle.ssz_schema.specs.Paths.{Path, step_type}
use Rattle.ssz_schema.specs.Unfolding.{Types, type_of}
use Rattle.ssz_value.specs.declared.value.Value.{Value}
use Rattle.ssz_value.specs.Parts.{numbered}
use Rattle.ssz_value.specs.Standing.{IsValue}
use Rattle.ssz_plain.specs.declared.leading.Place.{Place}
use Rattle.ssz_plain.specs.declared.leading.Place.TheVariants.{Item, Length, Selector as Told, Inner}
use Rattle.ssz_plain.specs.declared.leading.Lead.{Lead}
use Rattle.ssz_plain.specs.declared.lending.PartRef.{PartRef}
use Rattle.ssz_plain.specs.Lent.{IsPartOf}

-- the step to a place, with a field as its number
abbrev pub step_to : Place → PathStep
step_to (Item i) = Index i
step_to Length = Len
step_to Told = Selector
step_to (Inner k) = Chosen k

-- the step leads there
pub record IsLead (types : Types) (id : ℕ) (step : PathStep) (lead : Lead) : Type 0 where
  pub known : lead.id < length types.trees
  pub typed : step_type (type_of types id) step ≡ Some (type_of types lead.id)
  pub numbered : numbered (type_of types id) step ≡ step_to lead.place

-- the first step of the path leads to the part of this type at this place
pub record LeadsBy (types : Types) (id : ℕ) (path : Path) (part : ℕ) (place : Place) : Type 0 where
  pub step : PathStep
  pub rest : Path
  pub path_is : path ≡ step ∷ rest
  pub known : part < length types.trees
  pub typed : step_type (type_of types id) step ≡ Some (type_of types part)
  pub numbered : numbered (type_of types id) step ≡ step_to place

-- what is found at the place is one of the type that a step to it leads to
abbrev pub PlaceSuits : Value → PathStep → Option PartRef → Type 0
PlaceSuits v place found =
    (t u : SszType) (step : PathStep) → step_type t step ≡ Some u → numbered t step ≡ place
    → IsValue t v → IfSome found (IsPartOf u)
