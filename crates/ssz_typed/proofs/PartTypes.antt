-- The types that a type of a schema is made of, by their places.
use Rattle.std.proofs.Common.{ℕ, zero, suc, ◌≡◌, ◌<◌, ◌==◌, Bool, true, false, List, [], ◌∷◌, length, get_or, Option, Some, None, option_map, cond, Vec, Global, refl, sym, ap, ◌∙◌, subst, arith}
use Rattle.std.specs.Prelude.{slice_get}
use Rattle.std.specs.List.{AllByRecursion}
use Rattle.std.specs.Option.{ForSome}
use Rattle.std.proofs.lemmas.Bool.{eqb-true}
use Rattle.std.proofs.lemmas.Option.{none-some, same_Some}
use Rattle.ssz_schema.specs.ty.Ty.{Ty}
use Rattle.ssz_schema.specs.ty.Ty.TheVariants.{Container, Union}
use Rattle.ssz_schema.specs.Types.{SszType, container, union}
use Rattle.ssz_schema.specs.Unfolding.{Types, type_tree_at, type_of, tree_over, fields_over, options_over, IsBelow, AreBelow}
use Rattle.ssz_schema.proofs.StepLemmas.{Part, option_at-type, option_at-below}
use Rattle.ssz_typed.specs.Forms.{alone_at, field_type_at, part_type}
use Rattle.ssz_typed.specs.Parts.{IsPartType}

-- the number at a place of fields
abbrev pub number_at : List Part → ℕ → Option ℕ
number_at parts place = option_map (λ part. part.1) (slice_get parts place)

-- is that of the type there
type-at-over : (trees : List SszType) (parts : List Part) (place : ℕ)
    → option_map (type_tree_at trees) (number_at parts place)
    ≡ field_type_at (fields_over trees parts) place
type-at-over trees [] place = refl
type-at-over trees (part ∷ parts) zero = refl
type-at-over trees (part ∷ parts) (suc place) = type-at-over trees parts place

-- and one of the first count types, where all are
number-below : (count : ℕ) (parts : List Part) (place : ℕ)
    → AllByRecursion (λ part. part.1 < count) parts
    → ForSome (number_at parts place) (λ id. id < count)
number-below count [] place below id e = absurd (none-some id e)
number-below count (part ∷ parts) zero below id e =
    subst (λ (n : ℕ). n < count) (same_Some part.1 id e) below.0
number-below count (part ∷ parts) (suc place) below id e =
    number-below count parts place below.1 id e

-- no place but the first is 0
never : (place : ℕ) → (suc place == 0) ≡ false
never place = by (suc place == 0) refl
  where
    by : (t : Bool) → (suc place == 0) ≡ t → (suc place == 0) ≡ false
    by true e = absurd (let zero_is = eqb-true (suc place) 0 e in omega arith)
    by false e = e

-- the type of elements stands at the first place
pub alone : (types : Types) (element place : ℕ) (answer : Option ℕ) → element < length types.trees
    → answer ≡ cond (place == 0) (Some element) None
    → (option_map (type_of types) answer ≡ alone_at (type_of types element) place)
    × ForSome answer (λ id. id < length types.trees)
alone types element zero answer below is = (
  ap (option_map (type_of types)) is,
  λ id e. subst (λ (n : ℕ). n < length types.trees) (same_Some element id (sym is ∙ e)) below,
)
alone types element (suc place) answer below is =
    let none : answer ≡ None = is ∙ ap (λ t. cond t (Some element) None) (never place) in
    (ap (option_map (type_of types)) none, λ id e. absurd (none-some id (sym none ∙ e)))

module _ (types : Types) (id place : ℕ) (ty : Ty) (answer : Option ℕ)
    (known : id < length types.trees) (form : tree_over types.trees ty ≡ type_of types id)
    (below : AreBelow id ty) where
  -- a field
  pub field-part : (parts : Vec Part Global) → ty ≡ Container parts
      → answer ≡ number_at parts.items place → IsPartType types id place answer
  field-part parts is found =
      let tree : container (fields_over types.trees parts.items) ≡ type_of types id
      = sym (ap (tree_over types.trees) is) ∙ form in
      let all : AllByRecursion (λ (p : Part). p.1 < id) parts.items
      = subst (AreBelow id) is below in
      record {
        exact = ap (option_map (type_of types)) found
            ∙ type-at-over types.trees parts.items place ∙ ap (λ t. part_type t place) tree;
        known = λ part e. (let less : part < id
            = number-below id parts.items place all part (sym found ∙ e) in omega arith);
      }

  -- an option
  pub option-part : (ids : Vec (Option ℕ) Global) → ty ≡ Union ids
      → answer ≡ get_or ids.items place None → IsPartType types id place answer
  option-part ids is found =
      let tree : union (options_over types.trees ids.items) ≡ type_of types id
      = sym (ap (tree_over types.trees) is) ∙ form in
      let all : AllByRecursion (IsBelow id) ids.items = subst (AreBelow id) is below in
      record {
        exact = ap (option_map (type_of types)) found
            ∙ option_at-type types.trees ids.items place ∙ ap (λ t. part_type t place) tree;
        known = λ part e. (let less : part < id
            = option_at-below id ids.items place all part (sym found ∙ e) in omega arith);
      }

  -- the type of elements, under its own form
  pub element-part : (element : ℕ) → element < id
      → ((n : ℕ) → alone_at (type_of types element) n ≡ part_type (type_of types id) n)
      → answer ≡ cond (place == 0) (Some element) None → IsPartType types id place answer
  element-part element less same found =
      let is = alone types element place answer (omega arith) found in
      record { exact = is.0 ∙ same place; known = is.1 }

  -- no type at all
  pub no-part : ((n : ℕ) → None ≡ part_type (type_of types id) n) → answer ≡ None
      → IsPartType types id place answer
  no-part same found = record {
    exact = ap (option_map (type_of types)) found ∙ same place;
    known = λ part e. absurd (none-some part (sym found ∙ e));
  }
