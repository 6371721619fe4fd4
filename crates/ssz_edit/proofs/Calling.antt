-- What a caller shows of the value that it gives.
use Rattle.std.proofs.Common.{◌≡◌, ℕ, Option, Some, None, refl, subst, option_map}
use Rattle.std.specs.Prelude.{IfSome}
use Rattle.std.specs.Option.{ForSome}
use Rattle.ssz_schema.specs.Types.{SszType}
use Rattle.ssz_schema.specs.Unfolding.{Types, type_of}

-- what holds of the type that was found at a path holds of the type that the path has
pub of_part : (types : Types) (P : SszType → Type 0) (part : Option ℕ) (at_path : Option SszType)
    → option_map (type_of types) part ≡ at_path → ForSome part (λ id. P (type_of types id))
    → IfSome at_path P
of_part types P (Some id) at_path is holds = subst (λ o. IfSome o P) is (holds id refl)
of_part types P None at_path is holds = subst (λ o. IfSome o P) is tt
