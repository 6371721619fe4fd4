-- The index at the end of a step's way.
use Rattle.std.proofs.Common.{ℕ, ◌≡◌, ◌+◌, ◌*◌, ◌^◌, ◌<◌, ◌≤◌, sym, ap₂, ◌∙◌, subst}
use Rattle.ssz_schema.specs.declared.path.PathStep.{PathStep}
use Rattle.ssz_schema.specs.Sizes.{type_levels}
use Rattle.ssz_schema.specs.Unfolding.{Types, type_of}
use Rattle.ssz_schema.specs.Indices.{step_levels, step_position, step_index}
use Rattle.ssz_gindex.proofs.StepRoom.{HasStepRoom, step_room}
use Rattle.ssz_walk.specs.declared.way.Way.{Way}
use Rattle.ssz_walk.specs.Ways.{IsWay}

-- it fits
pub record HasWayRoom (k : ℕ) (way : Way) : Type 0 where
  pub few : way.levels < 128
  pub room : (k + 1) * 2 ^ way.levels ≤ 2 ^ 127
  pub place : way.position < 2 ^ way.levels

module _ (types : Types) (id : ℕ) (step : PathStep) (way : Way) (is : IsWay types id step way)
    (k : ℕ) where
  pub way_room : (k + 1) * 2 ^ type_levels (type_of types id) ≤ 2 ^ 127 → HasWayRoom k way
  way_room whole =
      let t = type_of types id in
      let has : HasStepRoom k t (type_of types way.part) step =
      step_room k t (type_of types way.part) step whole is.typed in
      let deep : step_levels t step ≡ way.levels = sym is.levels in
      record {
        few = subst (λ d. d < 128) deep has.few;
        room = subst (λ d. (k + 1) * 2 ^ d ≤ 2 ^ 127) deep has.room;
        place = subst (λ n. n < 2 ^ way.levels) (sym is.position)
            (subst (λ d. step_position t step < 2 ^ d) deep has.place);
      }

  -- and it is that of the step
  pub way_index : (index : ℕ) → index ≡ k * 2 ^ way.levels + way.position
      → index ≡ step_index k (type_of types id) step
  way_index index made =
      made ∙ ap₂ (λ d n. k * 2 ^ d + n) is.levels is.position
