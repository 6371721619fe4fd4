-- A path, one step after another.
use Rattle.std.proofs.Common.{◌≡◌, ℕ, suc, ◌+◌, ◌<◌, Bool, ◌∷◌, length, drop, get_or, sym, ap, ap₂, ◌∙◌, arith}
use Rattle.std.proofs.Math.Seq.{drop-cons}
use Rattle.ssz_schema.specs.declared.path.PathStep.{PathStep}
use Rattle.ssz_schema.specs.Paths.{Path}
use Rattle.ssz_places.specs.EditLaws.{is_mixed_in}
use Rattle.ssz_partial.specs.Partial.{ends_from}

-- the steps from i on begin with the one at i
pub record GoesOn (path : Path) (i : ℕ) (step : PathStep) : Type 0 where
  pub rest : drop i path ≡ step ∷ drop (i + 1) path

pub goes_on : (path : Path) (i : ℕ) (step : PathStep) → i < length path
    → step ≡ get_or path i step → GoesOn path i step
goes_on path i step below is = record {
  rest = drop-cons path i step below
      ∙ ap₂ (λ s ss. s ∷ ss) (sym is)
      (ap (λ n. drop n path) (let next : suc i ≡ i + 1 = omega arith in next));
}

pub ends_next : (path : Path) (i : ℕ) (step : PathStep) (mixed : Bool) → i < length path
    → step ≡ get_or path i step
    → ends_from mixed (drop i path) ≡ ends_from (is_mixed_in step) (drop (i + 1) path)
ends_next path i step mixed below item =
    ap (ends_from mixed) (goes_on path i step below item).rest
