-- Which values suit a choice of an option.
use Rattle.std.proofs.Common.{ℕ, zero, suc, ◌≡◌, ◌<◌, Option, Some, None, arith}
use Rattle.ssz_schema.specs.declared.path.PathStep.TheVariants.{Option as Chosen}
use Rattle.ssz_schema.specs.Types.{SszType, Options, union, no_options, none_option, option}
use Rattle.ssz_schema.specs.Sizes.{option_count}
use Rattle.ssz_schema.specs.Paths.{step_type, option_type}
use Rattle.ssz_value.specs.declared.value.Value.{Value}
use Rattle.ssz_value.specs.Values.{IsNoneOption}
use Rattle.ssz_value.specs.Standing.{value_of, IsValue}
use Rattle.ssz_value.specs.Suiting.{IsInner}
use Rattle.ssz_plain.proofs.Steps.{option_of}

-- an option that no step leads to has no value
without_value : (os : Options) (k : ℕ) → option_type os k ≡ None → k < option_count os
    → IsNoneOption os k
without_value no_options k e within = absurd (omega (arith, within))
without_value (none_option os) zero e within = tt
without_value (option t os) zero e within = absurd cc
without_value (none_option os) (suc k) e within = without_value os k e (omega (arith, within))
without_value (option t os) (suc k) e within = without_value os k e (omega (arith, within))

-- a value of the type that a step to the option leads to suits it
pub inner_there : (t u : SszType) (k : ℕ) (v : Value) → step_type t (Chosen k) ≡ Some u
    → IsValue u v → IsInner t k (Some v)
inner_there (union os) u k v e h =
    let of = option_of os k u e in
    λ within. (of.fits_back (value_of v) h.fits, of.formed_back v h.formed)
inner_there _ u k v e h = tt

-- and where none leads there, no value does
pub no_inner_there : (t : SszType) (k : ℕ) → step_type t (Chosen k) ≡ None → IsInner t k None
no_inner_there (union os) k e = without_value os k e
no_inner_there _ k e = tt
