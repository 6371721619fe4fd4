-- The fields of a legal container have names.
use Rattle.std.proofs.Common.{◌≡◌, ℕ, ◌<◌, List, [], ◌∷◌, length, get_or, sym, subst}
use Rattle.std.proofs.lemmas.List.Elements.{All-from_recursion}
use Rattle.std.specs.List.{AllByRecursion}
use Rattle.ssz_schema.specs.format.Format.{Format}
use Rattle.ssz_schema.specs.Names.{IsName}
use Rattle.ssz_schema.specs.Types.{SszType}
use Rattle.ssz_schema.specs.Legal.{AreLegalFields}
use Rattle.ssz_schema.specs.Unfolding.{fields_over}
use Rattle.ssz_value.proofs.PartLemmas.{Part}

-- each field has a name
abbrev pub AreNamed : List Part → Type 0
AreNamed fields = AllByRecursion (λ part. IsName part.0) fields

pub fields_are_named : (format : Format) (trees : List SszType) (fields : List Part)
    → AreLegalFields format (fields_over trees fields) → AreNamed fields
fields_are_named format trees [] legal = tt
fields_are_named format trees (f ∷ fields) legal =
    (legal.0, fields_are_named format trees fields legal.2)

pub name_at : (fields : List Part) (i : ℕ) (f : Part) → i < length fields → f ≡ get_or fields i f
    → AreNamed fields → IsName f.0
name_at fields i f below here all =
    subst (λ (part : Part). IsName part.0) (sym here)
    (All-from_recursion (λ (part : Part). IsName part.0) fields all i f below)
