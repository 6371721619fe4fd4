-- The types of fields and options, by their numbers.
use Rattle.std.proofs.Common.{ℕ, zero, suc, ◌≡◌, ◌<◌, ◌+◌, Bool, true, false, cond, List, [], ◌∷◌, length, get_or, Option, Some, None, option_map, Vec, Global, bytes_eq, refl, sym, ap, ◌∙◌, subst, arith}
use Rattle.std.specs.List.{AllByRecursion, position_from}
use Rattle.std.specs.Option.{ForSome}
use Rattle.std.proofs.lemmas.Option.{none-some, same_Some}
use Rattle.ssz_schema.specs.declared.path.PathStep.TheVariants.{Field, Option as Chosen}
use Rattle.ssz_types.specs.declared.ty.Ty.{Ty}
use Rattle.ssz_types.specs.declared.ty.Ty.TheVariants.{Container, Union}
use Rattle.ssz_types.specs.Types.{SszType, container, union}
use Rattle.ssz_types.specs.Unfolding.{Types, type_tree_at, type_of, tree_over, fields_over, options_over, IsBelow, AreBelow}
use Rattle.ssz_schema.specs.Paths.{step_type, field_type, field_number, option_type}
use Rattle.ssz_schema.specs.Steps.{StepLeadsTo, lead_number, IsLead}

abbrev pub Part : Type 0
Part = List ℕ × ℕ

abbrev has_name : List ℕ → Part → Bool
has_name name part = bytes_eq part.0 name

-- the field of the name is number k
pub record IsFieldAt (trees : List SszType) (parts : List Part) (name : List ℕ)
    (k : ℕ) : Type 0 where
  pub below : k < length parts
  pub number : field_number (fields_over trees parts) name ≡ k
  pub type : (part : Part) → part ≡ get_or parts k part
      → field_type (fields_over trees parts) name ≡ Some (type_tree_at trees part.1)

found_from : (trees : List SszType) (parts : List Part) (name : List ℕ) (i n : ℕ)
    → position_from (has_name name) i parts ≡ Some n
    → (k : ℕ) × (n ≡ i + k) × IsFieldAt trees parts name k
found_from trees [] name i n e = absurd (none-some n e)
found_from trees (p ∷ parts) name i n e =
    go (bytes_eq p.0 name) refl (found_from trees parts name (i + 1) n) e
  where
    go : (b : Bool) → bytes_eq p.0 name ≡ b
        → (position_from (has_name name) (i + 1) parts ≡ Some n
        → (k : ℕ) × (n ≡ i + 1 + k) × IsFieldAt trees parts name k)
        → cond b (Some i) (position_from (has_name name) (i + 1) parts) ≡ Some n
        → (k : ℕ) × (n ≡ i + k) × IsFieldAt trees (p ∷ parts) name k
    go true is rest e = (
      0,
      omega (arith, same_Some i n e),
      record {
        below = omega arith;
        number = ap (λ b. cond b 0 (suc (field_number (fields_over trees parts) name))) is;
        type = λ part at. ap (λ b. cond b (Some (type_tree_at trees p.1))
            (field_type (fields_over trees parts) name)) is
            ∙ ap (λ (q : Part). Some (type_tree_at trees q.1)) (sym at);
      },
    )
    go false is rest e =
        let more = rest e in
        let here = more.2 in (
          suc more.0,
          omega (arith, more.1),
          record {
            below = omega (arith, here.below);
            number = ap (λ b. cond b 0 (suc (field_number (fields_over trees parts) name))) is
                ∙ ap suc here.number;
            type = λ part at. ap (λ b. cond b (Some (type_tree_at trees p.1))
                (field_type (fields_over trees parts) name)) is ∙ here.type part at;
          },
        )

-- the field that is found
pub found_field : (trees : List SszType) (parts : List Part) (name : List ℕ) (n : ℕ)
    → position_from (has_name name) 0 parts ≡ Some n → IsFieldAt trees parts name n
found_field trees parts name n e =
    let found = found_from trees parts name 0 n e in
    subst (IsFieldAt trees parts name) (omega (arith, found.1)) found.2

missing_from : (trees : List SszType) (parts : List Part) (name : List ℕ) (i : ℕ)
    → position_from (has_name name) i parts ≡ None
    → field_type (fields_over trees parts) name ≡ None
missing_from trees [] name i e = refl
missing_from trees (p ∷ parts) name i e =
    go (bytes_eq p.0 name) (missing_from trees parts name (i + 1)) e
  where
    go : (b : Bool) → (position_from (has_name name) (i + 1) parts ≡ None
        → field_type (fields_over trees parts) name ≡ None)
        → cond b (Some i) (position_from (has_name name) (i + 1) parts) ≡ None
        → cond b (Some (type_tree_at trees p.1)) (field_type (fields_over trees parts) name) ≡ None
    go true rest e = absurd (none-some i (sym e))
    go false rest e = rest e

-- no field has a name that is not found
pub missing_field : (trees : List SszType) (parts : List Part) (name : List ℕ)
    → position_from (has_name name) 0 parts ≡ None
    → field_type (fields_over trees parts) name ≡ None
missing_field trees parts name e = missing_from trees parts name 0 e

pub option_at-type : (trees : List SszType) (ids : List (Option ℕ)) (k : ℕ)
    → option_map (type_tree_at trees) (get_or ids k None) ≡ option_type (options_over trees ids) k
option_at-type trees [] zero = refl
option_at-type trees [] (suc k) = refl
option_at-type trees (None ∷ ids) zero = refl
option_at-type trees (Some id ∷ ids) zero = refl
option_at-type trees (None ∷ ids) (suc k) = option_at-type trees ids k
option_at-type trees (Some id ∷ ids) (suc k) = option_at-type trees ids k

pub option_at-below : (count : ℕ) (ids : List (Option ℕ)) (k : ℕ)
    → AllByRecursion (IsBelow count) ids → ForSome (get_or ids k None) (λ id. id < count)
option_at-below count [] k below id e = absurd (none-some id e)
option_at-below count (None ∷ ids) zero below id e = absurd (none-some id e)
option_at-below count (Some other ∷ ids) zero below id e =
    subst (λ (n : ℕ). n < count) (same_Some other id e) below.0
option_at-below count (o ∷ ids) (suc k) below id e = option_at-below count ids k below.1 id e

pub part_below : (count : ℕ) (parts : List Part) (k : ℕ) (part : Part)
    → AllByRecursion (λ p. p.1 < count) parts → k < length parts → part ≡ get_or parts k part
    → part.1 < count
part_below count [] k part below h e = absurd (omega arith)
part_below count (p ∷ parts) zero part below h e = subst (λ (q : Part). q.1 < count) (sym e) below.0
part_below count (p ∷ parts) (suc k) part below h e =
    part_below count parts k part below.1 (omega arith) e

-- Steps from a type of a schema, as its form tells.

pub LeadsTo-option : (types : Types) (id k : ℕ) (ty : Ty) (ids : Vec (Option ℕ) Global)
    (answer : Option ℕ) → id < length types.trees → tree_over types.trees ty ≡ type_of types id
    → AreBelow id ty → ty ≡ Union ids
    → answer ≡ get_or ids.items k None → StepLeadsTo types id (Chosen k) answer
LeadsTo-option types id k ty ids answer known form below is found =
    let tree : union (options_over types.trees ids.items) ≡ type_of types id =
    sym (ap (tree_over types.trees) is) ∙ form in
    let parts : AllByRecursion (IsBelow id) ids.items = subst (AreBelow id) is below in
    record {
      exact = ap (option_map (type_of types)) found ∙ option_at-type types.trees ids.items k
          ∙ ap (λ t. step_type t (Chosen k)) tree;
      known = λ part e. (let less : part < id =
          option_at-below id ids.items k parts part (sym found ∙ e) in omega arith);
    }

pub LeadsTo-field : (types : Types) (id k : ℕ) (ty : Ty) (parts : Vec Part Global) (part : Part)
    (name : List ℕ) → id < length types.trees → tree_over types.trees ty ≡ type_of types id
    → AreBelow id ty → ty ≡ Container parts
    → position_from (has_name name) 0 parts.items ≡ Some k → part ≡ get_or parts.items k part
    → StepLeadsTo types id (Field name) (Some part.1)
LeadsTo-field types id k ty parts part name known form below is found at =
    let tree : container (fields_over types.trees parts.items) ≡ type_of types id =
    sym (ap (tree_over types.trees) is) ∙ form in
    let all : AllByRecursion (λ (p : Part). p.1 < id) parts.items = subst (AreBelow id) is below in
    let here = found_field types.trees parts.items name k found in
    record {
      exact = sym (here.type part at) ∙ ap (λ t. step_type t (Field name)) tree;
      known = λ n e. (let less : part.1 < id = part_below id parts.items k part all here.below at in
          omega (arith, less, same_Some part.1 n e));
    }

pub LeadsTo-no_field : (types : Types) (id : ℕ) (ty : Ty) (parts : Vec Part Global) (name : List ℕ)
    → tree_over types.trees ty ≡ type_of types id → ty ≡ Container parts
    → position_from (has_name name) 0 parts.items ≡ None → StepLeadsTo types id (Field name) None
LeadsTo-no_field types id ty parts name form is missing =
    let tree : container (fields_over types.trees parts.items) ≡ type_of types id =
    sym (ap (tree_over types.trees) is) ∙ form in
    record {
      exact = sym (missing_field types.trees parts.items name missing)
          ∙ ap (λ t. step_type t (Field name)) tree;
      known = λ n e. absurd (none-some n e);
    }

-- the field of the name is the part of this number
pub IsLead-field : (types : Types) (id k : ℕ) (ty : Ty) (parts : Vec Part Global) (part : Part)
    (name : List ℕ) → id < length types.trees → tree_over types.trees ty ≡ type_of types id
    → AreBelow id ty → ty ≡ Container parts
    → position_from (has_name name) 0 parts.items ≡ Some k → part ≡ get_or parts.items k part
    → IsLead types id (Field name) (record { part = part.1; number = k })
IsLead-field types id k ty parts part name known form below is found at =
    let tree : container (fields_over types.trees parts.items) ≡ type_of types id =
    sym (ap (tree_over types.trees) is) ∙ form in
    let there = LeadsTo-field types id k ty parts part name known form below is found at in
    record {
      known = there.known part.1 refl;
      typed = sym there.exact;
      number = sym (found_field types.trees parts.items name k found).number
          ∙ ap (lead_number (Field name)) tree;
    }
