-- A path, one step after another: the index so far, and that there is room for the rest.
use Rattle.std.proofs.Common.{◌≡◌, ℕ, suc, length, drop, get_or, ap₂, ◌+◌, ◌*◌, ◌^◌, ◌<◌, ◌≤◌, List, ◌∷◌, Some, None, refl, sym, ap, ◌∙◌, subst, arith, pow-add}
use Rattle.std.specs.Prelude.{option_and_then}
use Rattle.std.proofs.Math.Seq.{drop-cons}
use Rattle.std.proofs.Math.Nat.{mul-le-mul_left, pow-le-pow_right}
use Rattle.std.proofs.lemmas.Nat.{pow_pos}
use Rattle.ssz_schema.specs.format.Format.{Format}
use Rattle.ssz_schema.specs.format.Format.TheVariants.{One, Two}
use Rattle.ssz_schema.specs.declared.path.PathStep.{PathStep}
use Rattle.ssz_schema.specs.declared.path.PathStep.TheVariants.{Field}
use Rattle.ssz_schema.specs.Types.{SszType, uint, boolean, container, vector, list, bitvector, bitlist, union}
use Rattle.ssz_schema.specs.Sizes.{type_levels}
use Rattle.ssz_schema.specs.Legal.{IsLegal, IsWithinLimits}
use Rattle.ssz_schema.specs.Paths.{Path, step_type}
use Rattle.ssz_schema.specs.Indices.{step_levels, step_position, step_index, generalized_index, generalized_index_from}
use Rattle.ssz_schema.specs.Steps.{lead_number}
use Rattle.ssz_gindex.proofs.StepRoom.{step_room}

few_levels : (format : Format) (t : SszType) → IsWithinLimits format t → type_levels t ≤ 126
few_levels One t limits = omega (arith, limits.levels)
few_levels Two t limits = limits.levels

-- a legal type has few levels
pub legal_levels : (format : Format) (t : SszType) → IsLegal format t → type_levels t ≤ 126
legal_levels format (uint w) legal = omega arith
legal_levels format boolean legal = omega arith
legal_levels format (container fs) legal = few_levels format (container fs) legal.3
legal_levels format (vector elem n) legal = few_levels format (vector elem n) legal.2
legal_levels format (list elem n) legal = few_levels format (list elem n) legal.2
legal_levels format (bitvector n) legal = few_levels format (bitvector n) legal.1
legal_levels format (bitlist n) legal = few_levels format (bitlist n) legal.1
legal_levels format (union os) legal = few_levels format (union os) legal.4

-- The steps before the rest lead from t to u, which has this index.
pub record IsAlong (t : SszType) (path : Path) (index : ℕ) (u : SszType)
    (rest : Path) : Type 0 where
  pub same : generalized_index t path ≡ generalized_index_from index u rest
  pub some : 0 < index
  pub room : (index + 1) * 2 ^ type_levels u ≤ 2 ^ 127

pub along-start : (t : SszType) (path : Path) → type_levels t ≤ 126 → IsAlong t path 1 t path
along-start t path few = record {
  same = refl;
  some = omega arith;
  room = let most : 2 ^ (1 + type_levels t) ≤ 2 ^ 127 =
      pow-le-pow_right (omega arith) (let le : 1 + type_levels t ≤ 127 = omega arith in le) in
      omega (arith, most, pow-add 2 1 (type_levels t));
}

pub along-step : (t : SszType) (path : Path) (index : ℕ) (u : SszType) (step : PathStep)
    (rest : Path) (part : SszType)
    → IsAlong t path index u (step ∷ rest) → step_type u step ≡ Some part
    → IsAlong t path (step_index index u step) part rest
along-step t path index u step rest part along fits =
    let unit : 1 ≤ 2 ^ step_levels u step = pow_pos (step_levels u step) in
    record {
      same = along.same ∙ ap (option_and_then
          (λ p. generalized_index_from (step_index index u step) p rest)) fits;
      some = omega (arith, mul-le-mul_left index unit, along.some);
      room = (step_room index u part step along.room fits).next;
    }

-- no index where a step does not fit
pub along-none : (t : SszType) (path : Path) (index : ℕ) (u : SszType) (step : PathStep)
    (rest : Path)
    → IsAlong t path index u (step ∷ rest) → step_type u step ≡ None
    → None ≡ generalized_index t path
along-none t path index u step rest along misfits =
    sym (along.same ∙ ap (option_and_then
    (λ p. generalized_index_from (step_index index u step) p rest)) misfits)

named_position : (t : SszType) (name : List ℕ)
    → lead_number (Field name) t ≡ step_position t (Field name)
named_position (uint w) name = refl
named_position boolean name = refl
named_position (container fs) name = refl
named_position (vector elem n) name = refl
named_position (list elem limit) name = refl
named_position (bitvector n) name = refl
named_position (bitlist limit) name = refl
named_position (union os) name = refl

-- a field lies at its number
pub field_position : (t : SszType) (step : PathStep) (name : List ℕ) → step ≡ Field name
    → lead_number step t ≡ step_position t step
field_position t step name is =
    ap (λ (s : PathStep). lead_number s t) is ∙ named_position t name
    ∙ ap (step_position t) (sym is)

-- The loop over a path's steps.

-- the next of the steps of a path
pub rest_at : (path : Path) (i : ℕ) (step : PathStep) → i < length path → step ≡ get_or path i step
    → drop i path ≡ step ∷ drop (i + 1) path
rest_at path i step below item =
    drop-cons path i step below
    ∙ ap₂ (λ s ss. s ∷ ss) (sym item)
    (ap (λ n. drop n path) (let e : suc i ≡ i + 1 = omega arith in e))

-- a step that fits goes on
pub next-along : (t : SszType) (path : Path) (index : ℕ) (u : SszType) (i : ℕ) (step : PathStep)
    (part : SszType) → IsAlong t path index u (drop i path) → i < length path
    → step ≡ get_or path i step → step_type u step ≡ Some part
    → IsAlong t path (step_index index u step) part (drop (i + 1) path)
next-along t path index u i step part along below item fits =
    along-step t path index u step (drop (i + 1) path) part
    (subst (IsAlong t path index u) (rest_at path i step below item) along) fits

-- one that does not fit ends it
pub ends-along : (t : SszType) (path : Path) (index : ℕ) (u : SszType) (i : ℕ) (step : PathStep)
    → IsAlong t path index u (drop i path) → i < length path → step ≡ get_or path i step
    → step_type u step ≡ None → None ≡ generalized_index t path
ends-along t path index u i step along below item misfits =
    along-none t path index u step (drop (i + 1) path)
    (subst (IsAlong t path index u) (rest_at path i step below item) along) misfits
