-- The names of a container's fields.
use Rattle.std.proofs.Common.{◌≡◌, ℕ, List, [], ◌∷◌, map, refl, ap}
use Rattle.ssz_schema.specs.Types.{SszType}
use Rattle.ssz_schema.specs.Legal.{field_names}
use Rattle.ssz_schema.specs.Unfolding.{fields_over}

pub names_over : (trees : List SszType) (fields : List (List ℕ × ℕ))
    → field_names (fields_over trees fields) ≡ map (λ f. f.0) fields
names_over trees [] = refl
names_over trees (f ∷ fields) = ap (λ names. f.0 ∷ names) (names_over trees fields)
