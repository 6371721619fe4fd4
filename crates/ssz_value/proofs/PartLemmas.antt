-- The parts of a container by their fields, and values one after another.
use Rattle.std.proofs.Common.{ℕ, zero, suc, ◌+◌, ◌<◌, ◌≡◌, List, [], ◌∷◌, length, get_or, drop, Option, refl, sym, ap, ◌∙◌, subst, arith, map, ◌++◌}
use Rattle.std.specs.List.{AllByRecursion}
use Rattle.std.proofs.lemmas.List.{map-append}
use Rattle.ssz_schema.specs.Types.{SszType}
use Rattle.ssz_schema.specs.Sizes.{fixed_size, part_sizes}
use Rattle.ssz_schema.specs.Unfolding.{type_tree_at, fields_over}
use Rattle.ssz_schema.proofs.WalkFields.{drop_at}
use Rattle.ssz_value.specs.declared.value.Value.{Value}
use Rattle.ssz_value.specs.Standing.{value_of}
use Rattle.ssz_value.specs.Shapes.{AreFields}

-- a field: its name, and the number of its type
abbrev pub Part : Type 0
Part = List ℕ × ℕ

-- the fixed sizes of fields
abbrev pub sizes_of : List SszType → List Part → List (Option ℕ)
sizes_of trees parts = part_sizes (fields_over trees parts)

abbrev pub size_at : List SszType → Part → Option ℕ
size_at trees part = fixed_size (type_tree_at trees part.1)

pub length-sizes_of : (trees : List SszType) (parts : List Part)
    → length (sizes_of trees parts) ≡ length parts
length-sizes_of trees [] = refl
length-sizes_of trees (p ∷ parts) = ap suc (length-sizes_of trees parts)

pub part_known : (count : ℕ) (parts : List Part) (i : ℕ) (part : Part) → i < length parts
    → part ≡ get_or parts i part → AllByRecursion (λ (p : Part). p.1 < count) parts → part.1 < count
part_known count [] i part h e all = absurd (omega arith)
part_known count (p ∷ parts) zero part h e all = subst (λ (q : Part). q.1 < count) (sym e) all.0
part_known count (p ∷ parts) (suc i) part h e all =
    part_known count parts i part (omega arith) e all.1

pub known_from : (count : ℕ) (parts : List Part) (i : ℕ)
    → AllByRecursion (λ (p : Part). p.1 < count) parts
    → AllByRecursion (λ (p : Part). p.1 < count) (drop i parts)
known_from count parts zero all = all
known_from count [] (suc i) all = all
known_from count (p ∷ parts) (suc i) all = known_from count parts i all.1

-- the sizes from the part at i on
pub sizes_from : (trees : List SszType) (parts : List Part) (i : ℕ) (part : Part) → i < length parts
    → part ≡ get_or parts i part
    → sizes_of trees (drop i parts) ≡ size_at trees part ∷ sizes_of trees (drop (i + 1) parts)
sizes_from trees parts i part h e = ap (sizes_of trees) (drop_at parts i part h e)

pub known_weaker : (id count : ℕ) (parts : List Part) → id < count
    → AllByRecursion (λ (p : Part). p.1 < id) parts
    → AllByRecursion (λ (p : Part). p.1 < count) parts
known_weaker id count [] h all = all
known_weaker id count (p ∷ parts) h all =
    (omega (arith, all.0), known_weaker id count parts h all.1)

pub field_count_is : (trees : List SszType) (fields : List Part) (parts : List Value)
    → AreFields (fields_over trees fields) parts → length fields ≡ length parts
field_count_is trees [] [] h = refl
field_count_is trees [] (v ∷ parts) h = absurd h
field_count_is trees (f ∷ fields) [] h = absurd h
field_count_is trees (f ∷ fields) (v ∷ parts) h = ap suc (field_count_is trees fields parts h.1)

pub values_push : (old new : List Value) (v : Value) → new ≡ old ++ v ∷ []
    → map value_of new ≡ map value_of old ++ value_of v ∷ []
values_push old new v e = ap (map value_of) e ∙ map-append value_of old (v ∷ [])
