-- Where a path ends, and what is left of it.
use Rattle.std.proofs.Common.{◌≡◌, ◌<◌, ◌≤◌, ◌-◌, [], ◌∷◌, length, take, drop, None, refl, ap, subst, ◌∙◌, arith}
use Rattle.std.proofs.lemmas.List.{take_rest}
use Rattle.ssz_schema.specs.declared.path.PathStep.{PathStep}
use Rattle.ssz_schema.specs.width.Width.{Width}
use Rattle.ssz_schema.specs.Types.{SszType, uint, boolean}
use Rattle.ssz_schema.specs.Paths.{Path, path_type}
use Rattle.ssz_value.specs.declared.edit_fault.EditFault.{EditFault}
use Rattle.ssz_plain.specs.Making.{refusal}

-- the last step of a path
last_step : (step : PathStep) (rest : Path) → length (step ∷ rest) ≤ 1 → rest ≡ []
last_step step [] h = refl
last_step step (next ∷ rest) h = absurd (omega arith)

pub last_is : (path : Path) (step : PathStep) (rest : Path) → path ≡ step ∷ rest
    → length path ≤ 1 → rest ≡ []
last_is path step rest is h = last_step step rest (subst (λ p. length p ≤ 1) is h)

-- a number and a bit have no parts
pub number_misfits : (w : Width) (step : PathStep) (rest : Path) → 1 < length (step ∷ rest)
    → path_type (uint w) rest ≡ None
number_misfits w step [] h = absurd (omega arith)
number_misfits w step (next ∷ rest) h = refl

pub truth_misfits : (step : PathStep) (rest : Path) → 1 < length (step ∷ rest)
    → path_type boolean rest ≡ None
truth_misfits step [] h = absurd (omega arith)
truth_misfits step (next ∷ rest) h = refl

-- a refusal by what follows the first step
pub refused_on : (u : SszType) (path : Path) (step : PathStep) (rest : Path) (why fault : EditFault)
    → path ≡ step ∷ rest → fault ≡ refusal u (take (length path - 1) (drop 1 path)) why
    → fault ≡ refusal u rest why
refused_on u path step rest why fault is told =
    told ∙ ap (λ more. refusal u more why) (take_rest path 1 ∙ ap (drop 1) is)

-- what follows the first step
pub rest_is : (path : Path) (step : PathStep) (rest : Path) → path ≡ step ∷ rest
    → take (length path - 1) (drop 1 path) ≡ rest
rest_is path step rest is = take_rest path 1 ∙ ap (drop 1) is
