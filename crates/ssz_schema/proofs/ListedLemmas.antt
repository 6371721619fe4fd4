-- The listed names of a schema.
use Rattle.std.proofs.Common.{ℕ, ◌≡◌, ◌<◌, List, [], ◌∷◌, length, Some, Ok, Err, Vec, Global, subst}
use Rattle.std.specs.Prelude.{Result, IfOk}
use Rattle.std.specs.declared.alloc.AllocError.{AllocError}
use Rattle.std.specs.List.{AllByRecursion}
use Rattle.ssz_types.specs.Lookup.{lookup_name}
use Rattle.ssz_types.specs.NameTables.{AreFound}
use Rattle.ssz_types.specs.Unfolding.{Types}
use Rattle.ssz_schema.specs.Inside.{IsWhole}

known_among : (types : Types) → IsWhole types → (names : List (List ℕ × ℕ))
    → AllByRecursion (λ n. lookup_name types.names n.0 ≡ Some n.1) names
    → AllByRecursion (λ n. n.1 < length types.trees) names
known_among types whole [] found = tt
known_among types whole (n ∷ names) found =
    (whole.names n.0 n.1 found.0, known_among types whole names found.1)

-- each listed name of a schema is that of one of its types
pub names_known : (types : Types) → IsWhole types
    → (listed : Result (Vec (List ℕ × ℕ) Global) AllocError)
    → IfOk listed (λ names. names.items ≡ types.names)
    → IfOk listed (λ names. AreFound names.items)
    → IfOk listed (λ names. AllByRecursion (λ n. n.1 < length types.trees) names.items)
names_known types whole (Ok names) same found =
    known_among types whole names.items (subst (λ (ns : List (List ℕ × ℕ)).
    AllByRecursion (λ n. lookup_name ns n.0 ≡ Some n.1) names.items) same found)
names_known types whole (Err e) same found = tt
