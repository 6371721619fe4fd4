-- What a step is answered by a schema.
use Rattle.std.specs.Prelude.{ℕ, ◌≡◌, ◌<◌, length, Option, Some, option_map}
use Rattle.std.specs.Option.{ForSome}
use Rattle.ssz_schema.specs.declared.path.PathStep.{PathStep}
use Rattle.ssz_schema.specs.declared.path.PathStep.TheVariants.{Field}
use Rattle.ssz_schema.specs.declared.lead.Lead.{Lead}
use Rattle.ssz_types.specs.Types.{SszType, container}
use Rattle.ssz_types.specs.Unfolding.{Types, type_of}
use Rattle.ssz_schema.specs.Paths.{step_type, field_number}

-- the answer is the number of the type of the part, if the step fits
pub record StepLeadsTo (types : Types) (id : ℕ) (step : PathStep) (result : Option ℕ) : Type 0 where
  pub exact : option_map (type_of types) result ≡ step_type (type_of types id) step
  pub known : ForSome result (λ part. part < length types.trees)

-- how many fields stand before the one that a step names, and 0 of other steps
abbrev pub lead_number : PathStep → SszType → ℕ
lead_number (Field name) (container fs) = field_number fs name
lead_number _ _ = 0

-- the step leads to the part of this type, which has this number if it is a field
pub record IsLead (types : Types) (id : ℕ) (step : PathStep) (lead : Lead) : Type 0 where
  pub known : lead.part < length types.trees
  pub typed : step_type (type_of types id) step ≡ Some (type_of types lead.part)
  pub number : lead.number ≡ lead_number step (type_of types id)

-- a part that is no field
abbrev pub unnumbered : ℕ → Lead
unnumbered part = record { part = part; number = 0 }
