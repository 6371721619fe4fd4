-- Names as a schema grows: each stays known for its type, and every known type is legal.
use Rattle.std.proofs.Common.{ℕ, ◌≡◌, ◌<◌, Bool, true, false, if◌then◌else◌, List, length, Option, Some, None, option_map, refl, ap, ◌∙◌, subst}
use Rattle.std.proofs.lemmas.List.{get_or_append_left}
use Rattle.std.proofs.lemmas.Option.{none-some, same_Some}
use Rattle.std.specs.Prelude.{bytes_eq}
use Rattle.ssz_types.specs.Types.{SszType, boolean}
use Rattle.ssz_types.specs.Legal.{IsLegal}
use Rattle.ssz_types.specs.Lookup.{lookup_name}
use Rattle.ssz_types.specs.Unfolding.{Types, type_tree_at, type_of, type_number, known_in}
use Rattle.ssz_schema.specs.Inside.{IsWhole, AreAllLegal}
use Rattle.ssz_schema.specs.Adding.{ExtendsSchema, Defines, Knows}

-- an earlier type stays
pub type_of-more : (old new : Types) (id : ℕ) → ExtendsSchema old new → id < length old.trees
    → type_of new id ≡ type_of old id
type_of-more old new id h below = ap (λ ts. type_tree_at ts id) h.trees
    ∙ get_or_append_left old.trees h.more boolean id below

known_at : (old new : Types) (o : Option ℕ) → ExtendsSchema old new
    → ((id : ℕ) → o ≡ Some id → id < length old.trees)
    → option_map (type_of new) o ≡ option_map (type_of old) o
known_at old new None h below = refl
known_at old new (Some id) h below = ap Some (type_of-more old new id h (below id refl))

-- the same names are known
pub known_in-more : (old new : Types) → IsWhole old → ExtendsSchema old new
    → known_in new ≡ known_in old
known_in-more old new whole h = λ i name. at name i
  where
    at : (name : List ℕ) → known_in new name ≡ known_in old name
    at name = ap (λ ns. option_map (type_of new) (lookup_name ns name)) h.names
        ∙ known_at old new (type_number old name) h (whole.names name)

-- a definition's name is known for its type, and every other name as before
pub knows-Defines : (name : List ℕ) (old new : Types) (id : ℕ) → IsWhole old
    → Defines name old new id → Knows name (type_of new id) old new
knows-Defines name old new id whole h = record {
  format = h.format;
  known = λ other. ap (option_map (type_of new)) (h.names other) ∙ go other (bytes_eq other name);
}
  where
    stays : (o : Option ℕ) → ((k : ℕ) → o ≡ Some k → k < length old.trees)
        → option_map (type_of new) o ≡ option_map (type_of old) o
    stays None below = refl
    stays (Some k) below =
        ap Some (ap (λ ts. type_tree_at ts k) h.trees
        ∙ get_or_append_left old.trees h.more boolean k
        (below k refl))

    go : (other : List ℕ) (same : Bool)
        → option_map (type_of new) (if same then Some id else type_number old other)
        ≡ (if same then Some (type_of new id) else known_in old other)
    go other true = refl
    go other false = stays (type_number old other) (whole.names other)

-- what is known is legal
pub known_legal : (types : Types) → IsWhole types → AreAllLegal types
    → (name : List ℕ) (t : SszType) → known_in types name ≡ Some t → IsLegal types.format t
known_legal types whole legal name t e = go (type_number types name) (whole.names name) e
  where
    go : (o : Option ℕ) → ((id : ℕ) → o ≡ Some id → id < length types.trees)
        → option_map (type_of types) o ≡ Some t → IsLegal types.format t
    go None below e = absurd (none-some t e)
    go (Some id) below e = subst (IsLegal types.format) (same_Some (type_of types id) t e)
        (legal id (below id refl))
