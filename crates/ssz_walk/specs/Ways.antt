-- Where a step leads by the type alone.
use Rattle.std.specs.Prelude.{ℕ, ◌≡◌, ◌<◌, length, Some}
use Rattle.ssz_schema.specs.declared.path.PathStep.{PathStep}
use Rattle.ssz_schema.specs.Unfolding.{Types, type_of}
use Rattle.ssz_schema.specs.Paths.{step_type}
use Rattle.ssz_schema.specs.Indices.{step_levels, step_position, step_spot}
use Rattle.ssz_walk.specs.declared.way.Way.{Way}
use Rattle.ssz_walk.specs.Found.{spot_of}

-- the step leads to a part of this type, and there its index and its place in the node are
pub record IsWay (types : Types) (id : ℕ) (step : PathStep) (way : Way) : Type 0 where
  pub known : way.part < length types.trees
  pub typed : step_type (type_of types id) step ≡ Some (type_of types way.part)
  pub levels : way.levels ≡ step_levels (type_of types id) step
  pub position : way.position ≡ step_position (type_of types id) step
  pub spot : spot_of way.spot ≡ step_spot (type_of types id) step
