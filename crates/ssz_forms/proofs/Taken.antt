-- The numbers of the fields that are taken, one after another.
use Rattle.std.proofs.Common.{ℕ, zero, suc, ◌+◌, ◌<◌, ◌≤◌, ◌≡◌, Bool, true, false, List, [], ◌∷◌, ◌++◌, length, get_or, drop, Option, Some, None, refl, sym, ap, ap₂, ◌∙◌, cond, arith, bytes_eq, append_assoc}
use Rattle.std.specs.List.{position_from}
use Rattle.std.specs.Option.{option_and_then}
use Rattle.std.proofs.lemmas.List.{append-nil, drop_all}
use Rattle.std.proofs.lemmas.Slice.Eq.{bytes_eq-Decides}
use Rattle.ssz_schema.specs.Types.{SszType}
use Rattle.ssz_schema.specs.Unfolding.{Types, type_tree_at, fields_over}
use Rattle.ssz_schema.specs.Paths.{field_type, field_number}
use Rattle.ssz_schema.specs.Lookup.{lookup_name}
use Rattle.ssz_schema.proofs.WalkFields.{drop_at}
use Rattle.std.specs.Ordering.{is_eq, nat_cmp}
use Rattle.std.specs.Cmp.Lexicographic.{slice_cmp}
use Rattle.std.specs.Map.{lookup}
use Rattle.std.specs.BTreeMap.{BTreeMap, insert_entry}
use Rattle.std.specs.Prelude.{slice_index_or}
use Rattle.ssz_schema.proofs.NameLemmas.{Key, named, lookup-named, insert-named}
use Rattle.ssz_schema.proofs.StepLemmas.{found_field}
use Rattle.ssz_value.proofs.PartLemmas.{Part}
use Rattle.ssz_forms.specs.declared.forms.Forms.{Forms}
use Rattle.ssz_forms.specs.Answers.{AreRight}
use Rattle.ssz_forms.specs.SameType.{same_type}
use Rattle.ssz_forms.specs.Taking.{AreFieldNumbers}
use Rattle.ssz_forms.specs.Upgrades.{field_taken, all_taken}

-- the numbers of the first i fields are found
pub record TakenSoFar (types : Types) (old new : List Part) (i : ℕ) (found : List (Option ℕ))
    (forms : Forms) : Type 0 where
  pub value : found ++ all_taken (fields_over types.trees old)
      (fields_over types.trees (drop i new))
      ≡ all_taken (fields_over types.trees old) (fields_over types.trees new)
  pub right : AreRight types forms

pub TakenSoFar-start : (types : Types) (old new : List Part) (forms : Forms)
    → AreRight types forms → TakenSoFar types old new 0 [] forms
TakenSoFar-start types old new forms right = record { value = refl; right = right }

pub TakenSoFar-more : (types : Types) (old new : List Part) (i : ℕ) (found more : List (Option ℕ))
    (forms after : Forms) (part : Part) (number : Option ℕ)
    → TakenSoFar types old new i found forms → i < length new → part ≡ get_or new i part
    → number ≡ field_taken (fields_over types.trees old) part.0 (type_tree_at types.trees part.1)
    → more ≡ found ++ number ∷ [] → AreRight types after
    → TakenSoFar types old new (i + 1) more after
TakenSoFar-more types old new i found more forms after part number h below e is pushed right =
    let olds = fields_over types.trees old in
    let rest = all_taken olds (fields_over types.trees (drop (i + 1) new)) in
    let here = ap (λ ps. all_taken (fields_over types.trees old) (fields_over types.trees ps))
    (drop_at new i part below e) in
    record {
      value = ap (λ xs. xs ++ all_taken (fields_over types.trees old)
          (fields_over types.trees (drop (i + 1) new))) pushed
          ∙ append_assoc found (number ∷ []) (all_taken (fields_over types.trees old)
          (fields_over types.trees (drop (i + 1) new)))
          ∙ ap (λ x. found ++ x ∷ all_taken (fields_over types.trees old)
          (fields_over types.trees (drop (i + 1) new))) is
          ∙ sym (ap (λ xs. found ++ xs) here) ∙ h.value;
      right = right;
    }

pub TakenSoFar-end : (types : Types) (old new : List Part) (i : ℕ) (found : List (Option ℕ))
    (forms : Forms) → TakenSoFar types old new i found forms → length new ≤ i
    → found ≡ all_taken (fields_over types.trees old) (fields_over types.trees new)
TakenSoFar-end types old new i found forms h all =
    sym (append-nil found)
    ∙ sym (ap (λ ps. found ++ all_taken (fields_over types.trees old)
    (fields_over types.trees ps)) (drop_all i new all)) ∙ h.value

-- a field that is found by its name is taken where the types are the same
pub taken_where : (trees : List SszType) (old : List Part) (name : List ℕ) (t : SszType)
    (k : ℕ) (part : Part) (same : Bool)
    → position_from (λ (p : Part). bytes_eq p.0 name) 0 old ≡ Some k → part ≡ get_or old k part
    → same ≡ same_type (type_tree_at trees part.1) t
    → field_taken (fields_over trees old) name t ≡ cond same (Some k) None
taken_where trees old name t k part same found at is =
    let here = found_field trees old name k found in
    ap (option_and_then (λ u. cond (same_type u t)
    (Some (field_number (fields_over trees old) name)) None)) (here.type part at)
    ∙ ap₂ (λ b n. cond b (Some n) None) (sym is) here.number

pub taken_nowhere : (trees : List SszType) (old : List Part) (name : List ℕ) (t : SszType)
    → position_from (λ (p : Part). bytes_eq p.0 name) 0 old ≡ None
    → field_taken (fields_over trees old) name t ≡ None
taken_nowhere trees old name t missing =
    ap (option_and_then (λ u. cond (same_type u t)
    (Some (field_number (fields_over trees old) name)) None)) (missing_type old 0 missing)
  where
    missing_type : (parts : List Part) (i : ℕ)
        → position_from (λ (p : Part). bytes_eq p.0 name) i parts ≡ None
        → field_type (fields_over trees parts) name ≡ None
    missing_type [] i e = refl
    missing_type (p ∷ parts) i e = go (bytes_eq p.0 name) (missing_type parts (i + 1)) e
      where
        go : (b : Bool) → (position_from (λ (q : Part). bytes_eq q.0 name) (i + 1) parts ≡ None
            → field_type (fields_over trees parts) name ≡ None)
            → cond b (Some i) (position_from (λ (q : Part). bytes_eq q.0 name) (i + 1) parts)
            ≡ None
            → cond b (Some (type_tree_at trees p.1)) (field_type (fields_over trees parts) name)
            ≡ None
        go true rest e = cc
        go false rest e = rest e

flip : (a b : List ℕ) → bytes_eq a b ≡ bytes_eq b a
flip a b = same (bytes_eq a b) (bytes_eq b a)
    (λ e. (bytes_eq-Decides b a).1 (sym ((bytes_eq-Decides a b).0 e)))
    (λ e. (bytes_eq-Decides a b).1 (sym ((bytes_eq-Decides b a).0 e)))
  where
    same : (x y : Bool) → (x ≡ true → y ≡ true) → (y ≡ true → x ≡ true) → x ≡ y
    same true y to from = sym (to refl)
    same false true to from = from refl
    same false false to from = refl

-- one field more has its number by its name
pub numbers_more : (fields : List Part) (j i : ℕ) (part : Part) (key : Key)
    (old new : List (Key × ℕ)) → i ≡ j + 1 → j < length fields → part ≡ get_or fields j part
    → key.items ≡ part.0
    → new ≡ insert_entry (λ a b. slice_cmp nat_cmp a.items b.items) old key j
    → ((name : List ℕ) → lookup_name (named old) name
    ≡ position_from (λ (p : Part). bytes_eq p.0 name) i (drop i fields))
    → (name : List ℕ) → lookup_name (named new) name
    ≡ position_from (λ (p : Part). bytes_eq p.0 name) j (drop j fields)
numbers_more fields j i part key old new next below at is made so_far name =
    ap (λ es. lookup_name (named es) name) made
    ∙ insert-named old key j name
    ∙ ap₂ (λ b found. cond b (Some j) found)
    (ap (bytes_eq name) is ∙ flip name part.0)
    (so_far name ∙ ap (λ n. position_from (λ (p : Part). bytes_eq p.0 name) n (drop n fields)) next)
    ∙ sym (ap (position_from (λ (p : Part). bytes_eq p.0 name) j)
    (drop_at fields j part below at))

-- the number of a field in a table is its place
pub numbered_at : (fields : List Part) (numbers : BTreeMap Key ℕ) (name : List ℕ)
    (got : Option ℕ) → AreFieldNumbers fields numbers
    → got ≡ lookup (λ k. is_eq (slice_cmp nat_cmp name k.items)) numbers.entries
    → position_from (λ (p : Part). bytes_eq p.0 name) 0 fields ≡ got
numbered_at fields numbers name got are is =
    sym (are name) ∙ sym (lookup-named numbers.entries name) ∙ sym is

-- the number that is taken of the i-th field
pub taken_at : (trees : List SszType) (old new : List Part) (i : ℕ) (part : Part)
    → i < length new → part ≡ get_or new i part
    → slice_index_or (all_taken (fields_over trees old) (fields_over trees new)) i None
    ≡ field_taken (fields_over trees old) part.0 (type_tree_at trees part.1)
taken_at trees old [] i part below at = absurd (omega arith)
taken_at trees old (p ∷ new) zero part below at =
    ap (λ (q : Part). field_taken (fields_over trees old) q.0 (type_tree_at trees q.1)) (sym at)
taken_at trees old (p ∷ new) (suc i) part below at =
    taken_at trees old new i part (omega arith) at

pub taken_many : (trees : List SszType) (old new : List Part)
    → length (all_taken (fields_over trees old) (fields_over trees new)) ≡ length new
taken_many trees old [] = refl
taken_many trees old (p ∷ new) = ap suc (taken_many trees old new)
