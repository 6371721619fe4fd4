-- Defaults, part by part.
use Rattle.std.proofs.Common.{ℕ, zero, suc, ◌≡◌, ◌<◌, ◌≤◌, ◌+◌, List, [], ◌∷◌, ◌++◌, length, map, drop, get_or, slice_get, replicate, Option, Some, None, refl, sym, ap, ap₂, subst, ◌∙◌, arith, append_assoc}
use Rattle.std.specs.List.{AllByRecursion}
use Rattle.std.proofs.lemmas.List.{append-nil, drop_all, replicate_more}
use Rattle.ssz_schema.specs.Types.{SszType, union}
use Rattle.ssz_schema.specs.Unfolding.{type_tree_at, fields_over, options_over}
use Rattle.ssz_value.specs.declared.value.Value.{Value}
use Rattle.ssz_value.specs.Values.{number, chosen, chosen_none}
use Rattle.ssz_value.specs.Standing.{value_of, IsFormed, FieldsFormed, Stands}
use Rattle.ssz_value.specs.Defaults.{default_of, default_fields}
use Rattle.ssz_schema.proofs.WalkFields.{drop_at}
use Rattle.ssz_value.proofs.PartLemmas.{Part, values_push}
use Rattle.ssz_value.proofs.FormLemmas.{formed_push, fields_push}

-- so many defaults of a type
pub record Defaults (t : SszType) (count : ℕ) (vs : List Value) : Type 0 where
  pub value : map value_of vs ≡ replicate count (default_of t)
  pub formed : AllByRecursion (IsFormed t) vs

pub Defaults-more : (t : SszType) (count : ℕ) (vs ws : List Value) (v : Value) → Defaults t count vs
    → Stands t (default_of t) v → ws ≡ vs ++ v ∷ [] → Defaults t (count + 1) ws
Defaults-more t count vs ws v h s e = record {
  value = values_push vs ws v e ∙ ap₂ (λ xs x. xs ++ x ∷ []) h.value s.value
      ∙ replicate_more count (default_of t);
  formed = subst (AllByRecursion (IsFormed t)) (sym e) (formed_push t vs v h.formed s.formed);
}

pub zero_bytes : (n : ℕ) → map number (replicate n 0) ≡ replicate n (number 0)
zero_bytes zero = refl
zero_bytes (suc n) = ap (λ vs. number 0 ∷ vs) (zero_bytes n)

-- the defaults of the first i fields
pub record FieldDefaults (trees : List SszType) (fields : List Part) (i : ℕ)
    (vs : List Value) : Type 0 where
  pub value : map value_of vs ++ default_fields (fields_over trees (drop i fields))
      ≡ default_fields (fields_over trees fields)
  pub formed : FieldsFormed (fields_over trees fields) vs
  pub count : length vs ≡ i

pub FieldDefaults-more : (trees : List SszType) (fields : List Part) (i : ℕ) (vs ws : List Value)
    (part : Part) (v : Value) → FieldDefaults trees fields i vs → i < length fields
    → part ≡ get_or fields i part
    → Stands (type_tree_at trees part.1) (default_of (type_tree_at trees part.1)) v
    → ws ≡ vs ++ v ∷ []
    → FieldDefaults trees fields (i + 1) ws
FieldDefaults-more trees fields i vs ws part v h below e s is =
    let here = ap (λ fs. default_fields (fields_over trees fs)) (drop_at fields i part below e) in
    record {
      value = ap (λ xs. xs ++ default_fields (fields_over trees (drop (i + 1) fields)))
          (values_push vs ws v is)
          ∙ append_assoc (map value_of vs) (value_of v ∷ [])
          (default_fields (fields_over trees (drop (i + 1) fields)))
          ∙ ap (λ x. map value_of vs ++ x ∷ default_fields
          (fields_over trees (drop (i + 1) fields))) s.value
          ∙ sym (ap (λ xs. map value_of vs ++ xs) here) ∙ h.value;
      formed = subst (FieldsFormed (fields_over trees fields)) (sym is)
          (fields_push trees fields vs i part v h.formed h.count below e s.formed);
      count = ap length is ∙ push_length vs v ∙ ap (λ n. n + 1) h.count;
    }
  where
    push_length : (vs : List Value) (v : Value) → length (vs ++ v ∷ []) ≡ length vs + 1
    push_length [] v = refl
    push_length (w ∷ vs) v = omega (arith, push_length vs v)

pub FieldDefaults-end : (trees : List SszType) (fields : List Part) (i : ℕ) (vs : List Value)
    → FieldDefaults trees fields i vs → length fields ≤ i
    → map value_of vs ≡ default_fields (fields_over trees fields)
FieldDefaults-end trees fields i vs h all =
    sym (append-nil (map value_of vs))
    ∙ sym (ap (λ fs. map value_of vs ++ default_fields (fields_over trees fs))
    (drop_all i fields all)) ∙ h.value

pub union_default : (trees : List SszType) (ids : List (Option ℕ)) (id : ℕ)
    → Some (Some id) ≡ slice_get ids 0
    → default_of (union (options_over trees ids)) ≡ chosen 0 (default_of (type_tree_at trees id))
union_default trees [] id e = cc
union_default trees (None ∷ ids) id e = cc
union_default trees (Some other ∷ ids) id e = let same : other ≡ id =
    cc in ap (λ n. chosen 0 (default_of (type_tree_at trees n))) same

pub union_default_none : (trees : List SszType) (ids : List (Option ℕ))
    → Some None ≡ slice_get ids 0 → default_of (union (options_over trees ids)) ≡ chosen_none 0
union_default_none trees [] e = refl
union_default_none trees (None ∷ ids) e = refl
union_default_none trees (Some id ∷ ids) e = cc

pub union_default_empty : (trees : List SszType) (ids : List (Option ℕ)) → None ≡ slice_get ids 0
    → default_of (union (options_over trees ids)) ≡ chosen_none 0
union_default_empty trees [] e = refl
union_default_empty trees (None ∷ ids) e = refl
union_default_empty trees (Some id ∷ ids) e = cc
