-- A single step has room: the indices below it fit.
use Rattle.std.proofs.Common.{◌≡◌, ℕ, ◌+◌, ◌*◌, ◌%◌, ◌^◌, ◌<◌, ◌≤◌, Option, Some, None, inl, inr, refl, ap, ◌∙◌, arith, pow-add}
use Rattle.std.specs.Prelude.{IsSome}
use Rattle.std.proofs.Common.{mod-eq_of_lt}
use Rattle.std.proofs.Math.Nat.{mul-le-mul_left, mul-le-mul_right, pow-le-pow_right}
use Rattle.std.proofs.lemmas.Bool.{cases_lt, false≢true}
use Rattle.std.proofs.lemmas.Nat.{pow_pos}
use Rattle.ssz_schema.specs.declared.path.PathStep.{PathStep}
use Rattle.ssz_schema.specs.Types.{SszType}
use Rattle.ssz_schema.specs.Sizes.{type_levels}
use Rattle.ssz_schema.specs.Paths.{step_type}
use Rattle.ssz_schema.specs.Indices.{step_levels, step_position, step_index}
use Rattle.ssz_schema.proofs.PathLemmas.{step-levels, step-below}

-- a power that is not large has an exponent that is not
few_levels : (d : ℕ) → 2 ^ d ≤ 2 ^ 127 → d < 128
few_levels d small = elim (cases_lt d 128) [
  | inl lt ↦ lt
  | inr ge ↦
      (let high : 2 ^ 128 ≤ 2 ^ d = pow-le-pow_right (omega arith) ge in absurd (omega arith))
]

pub record HasStepRoom (k : ℕ) (t u : SszType) (step : PathStep) : Type 0 where
  pub few : step_levels t step < 128
  pub room : (k + 1) * 2 ^ step_levels t step ≤ 2 ^ 127
  pub place : step_position t step < 2 ^ step_levels t step
  pub next : (step_index k t step + 1) * 2 ^ type_levels u ≤ 2 ^ 127

pub step_room : (k : ℕ) (t u : SszType) (step : PathStep) → (k + 1) * 2 ^ type_levels t ≤ 2 ^ 127
    → step_type t step ≡ Some u → HasStepRoom k t u step
step_room k t u step whole fits =
    let down : step_levels t step + type_levels u ≤ type_levels t = step-levels t step u fits in
    let less : step_levels t step ≤ type_levels t = omega arith in
    let power : 2 ^ step_levels t step ≤ 2 ^ type_levels t = pow-le-pow_right (omega arith) less in
    let room : (k + 1) * 2 ^ step_levels t step ≤ (k + 1) * 2 ^ type_levels t =
    mul-le-mul_left (k + 1) power in
    let one : 1 ≤ k + 1 = omega arith in
    let single : 1 * 2 ^ step_levels t step ≤ (k + 1) * 2 ^ step_levels t step =
    mul-le-mul_right (2 ^ step_levels t step) one in
    let below : step_position t step < 2 ^ step_levels t step = step-below t step u fits in
    let index : step_index k t step + 1 ≤ (k + 1) * 2 ^ step_levels t step = omega arith in
    let deep : 2 ^ (step_levels t step + type_levels u) ≤ 2 ^ type_levels t =
    pow-le-pow_right (omega arith) down in
    let all : (k + 1) * 2 ^ (step_levels t step + type_levels u) ≤ (k + 1) * 2 ^ type_levels t =
    mul-le-mul_left (k + 1) deep in
    let joined : (k + 1) * 2 ^ (step_levels t step + type_levels u)
    ≡ (k + 1) * (2 ^ step_levels t step * 2 ^ type_levels u) =
    ap (λ n. (k + 1) * n) (pow-add 2 (step_levels t step) (type_levels u)) in
    record {
      few = few_levels (step_levels t step) (omega (arith, single, room, whole));
      room = omega (arith, room, whole);
      place = below;
      next = omega (arith, mul-le-mul_right (2 ^ type_levels u) index, all, joined, whole);
    }

-- the number shifted by the levels of a step, of which no bit is lost
pub shifted : (k number d levels : ℕ) → number ≡ k → levels ≡ d → (k + 1) * 2 ^ d ≤ 2 ^ 127
    → number * 2 ^ levels % 2 ^ 128 ≡ k * 2 ^ d
shifted k number d levels same deep room =
    ap (λ n. n * 2 ^ levels % 2 ^ 128) same ∙ ap (λ n. k * 2 ^ n % 2 ^ 128) deep
    ∙ (let below : k * 2 ^ d ≤ (k + 1) * 2 ^ d = mul-le-mul_right (2 ^ d) (omega arith) in
    mod-eq_of_lt (omega (arith, below, room)))

-- an index is not 0 further down, either
pub some_below : (k d : ℕ) → 0 < k → 0 < k * 2 ^ d
some_below k d some =
    let unit : 1 ≤ 2 ^ d = pow_pos d in omega (arith, some, mul-le-mul_left k unit)

-- a type that is there
pub some_type : (o : Option SszType) → IsSome o → (u : SszType) × (o ≡ Some u)
some_type None e = absurd (false≢true e)
some_type (Some u) e = (u, refl)
