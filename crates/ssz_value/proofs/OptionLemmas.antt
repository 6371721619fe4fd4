-- The types that the options of a union name.
use Rattle.std.proofs.Common.{ℕ, zero, suc, ◌<◌, ◌≡◌, List, [], ◌∷◌, slice_get, Option, Some, None, subst}
use Rattle.std.specs.List.{AllByRecursion}
use Rattle.ssz_schema.specs.Unfolding.{IsBelow}

-- an option that is not None names a type below the count
pub option_below : (ids : List (Option ℕ)) (k id count : ℕ) → Some (Some id) ≡ slice_get ids k
    → AllByRecursion (IsBelow count) ids → id < count
option_below [] k id count e all = cc
option_below (None ∷ ids) zero id count e all = cc
option_below (Some other ∷ ids) zero id count e all = let same : other ≡ id =
    cc in subst (λ (n : ℕ). n < count) same all.0
option_below (None ∷ ids) (suc k) id count e all = option_below ids k id count e all.1
option_below (Some other ∷ ids) (suc k) id count e all = option_below ids k id count e all.1
