-- Fields as the program keeps them, by their places.
use Rattle.std.proofs.Common.{◌≡◌, ℕ, zero, suc, List, [], ◌∷◌, refl}
use Rattle.std.specs.Prelude.{slice_get}
use Rattle.std.specs.Option.{option_map}
use Rattle.ssz_schema.specs.Types.{SszType}
use Rattle.ssz_schema.specs.Unfolding.{fields_over}
use Rattle.ssz_typed.specs.Fields.{name_at}

-- the name at a place is that of the part there
pub name-at-over : (trees : List SszType) (parts : List (List ℕ × ℕ)) (place : ℕ)
    → name_at (fields_over trees parts) place ≡ option_map (λ part. part.0) (slice_get parts place)
name-at-over trees [] place = refl
name-at-over trees (part ∷ parts) zero = refl
name-at-over trees (part ∷ parts) (suc place) = name-at-over trees parts place
