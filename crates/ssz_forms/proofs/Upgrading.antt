-- The fields of an upgraded value, one after another.
use Rattle.std.proofs.Common.{ℕ, suc, ◌+◌, ◌<◌, ◌≤◌, ◌≡◌, Bool, true, false, List, [], ◌∷◌, ◌++◌, length, map, get_or, drop, Option, Some, None, refl, sym, ap, ap₂, ◌∙◌, cond, subst, arith, bytes_eq, append_assoc, Vec, Global}
use Rattle.std.specs.Prelude.{Result, Ok, IfOk}
use Rattle.std.specs.declared.alloc.AllocError.{AllocError}
use Rattle.std.proofs.lemmas.Result.{IfOk-weaker}
use Rattle.std.specs.Option.{option_and_then}
use Rattle.std.proofs.lemmas.List.{append-nil, drop_all}
use Rattle.std.proofs.lemmas.Option.{same_Some, slice_get_read}
use Rattle.ssz_schema.specs.Types.{SszType, Fields, container, no_fields, field}
use Rattle.ssz_schema.specs.Unfolding.{Types, type_tree_at, fields_over}
use Rattle.ssz_schema.specs.Legal.{IsLegal}
use Rattle.ssz_schema.specs.Paths.{field_type, field_number}
use Rattle.ssz_schema.proofs.WalkFields.{drop_at}
use Rattle.ssz_value.specs.declared.value.Value.{Value}
use Rattle.ssz_value.specs.declared.value.Value.TheVariants.{Seq}
use Rattle.ssz_value.specs.Values.{sequence, values, Fits}
use Rattle.ssz_value.specs.Standing.{value_of, IsValue, Stands, IsCopy}
use Rattle.ssz_value.specs.Defaults.{default_of}
use Rattle.ssz_value.specs.Shapes.{AreFields}
use Rattle.ssz_value.proofs.PartLemmas.{Part, values_push}
use Rattle.ssz_value.proofs.FitLemmas.{seq_container}
use Rattle.ssz_value.proofs.ValueLemmas.{seq_is}
use Rattle.ssz_value.proofs.SizeLaw.{default_fits}
use Rattle.ssz_value.proofs.Sequences.{items-values}
use Rattle.ssz_forms.specs.SameType.{same_type}
use Rattle.ssz_forms.specs.Taking.{IsFieldTaken, AreUpgraded, StandsUpgraded}
use Rattle.ssz_forms.specs.Upgrades.{field_taken, field_value, upgraded, upgraded_fields}
use Rattle.ssz_forms.proofs.TypesAlike.{type_alike}

-- the first i fields are made
pub record UpgradedSoFar (trees : List SszType) (old : List Part) (parts : List Value)
    (new : List Part) (i : ℕ) (made : List Value) : Type 0 where
  pub value : map value_of made ++ upgraded_fields (fields_over trees old) (map value_of parts)
      (fields_over trees (drop i new))
      ≡ upgraded_fields (fields_over trees old) (map value_of parts) (fields_over trees new)
  pub are : (rest : List Value) → AreFields (fields_over trees (drop i new)) rest
      → AreFields (fields_over trees new) (made ++ rest)

pub UpgradedSoFar-start : (trees : List SszType) (old : List Part) (parts : List Value)
    (new : List Part) → UpgradedSoFar trees old parts new 0 []
UpgradedSoFar-start trees old parts new = record { value = refl; are = λ rest all. all }

pub UpgradedSoFar-more : (trees : List SszType) (old : List Part) (parts : List Value)
    (new : List Part) (i : ℕ) (made more : List Value) (part : Part) (v : Value)
    → UpgradedSoFar trees old parts new i made → i < length new → part ≡ get_or new i part
    → value_of v ≡ field_value (map value_of parts) (type_tree_at trees part.1)
    (field_taken (fields_over trees old) part.0 (type_tree_at trees part.1))
    → IsValue (type_tree_at trees part.1) v
    → more ≡ made ++ v ∷ [] → UpgradedSoFar trees old parts new (i + 1) more
UpgradedSoFar-more trees old parts new i made more part v h below e stands fit is =
    let here = ap (λ ps. upgraded_fields (fields_over trees old) (map value_of parts)
    (fields_over trees ps)) (drop_at new i part below e) in
    record {
      value = ap (λ xs. xs ++ upgraded_fields (fields_over trees old) (map value_of parts)
          (fields_over trees (drop (i + 1) new))) (values_push made more v is)
          ∙ append_assoc (map value_of made) (value_of v ∷ [])
          (upgraded_fields (fields_over trees old) (map value_of parts)
          (fields_over trees (drop (i + 1) new)))
          ∙ ap (λ x. map value_of made ++ x ∷ upgraded_fields (fields_over trees old)
          (map value_of parts) (fields_over trees (drop (i + 1) new))) stands
          ∙ sym (ap (λ xs. map value_of made ++ xs) here) ∙ h.value;
      are = λ rest all. subst (AreFields (fields_over trees new))
          (sym (ap (λ vs. vs ++ rest) is ∙ append_assoc made (v ∷ []) rest))
          (h.are (v ∷ rest) (subst (λ (ps : List Part). AreFields (fields_over trees ps) (v ∷ rest))
          (sym (drop_at new i part below e)) (fit, all)));
    }

pub UpgradedSoFar-end : (trees : List SszType) (old : List Part) (parts : List Value)
    (new : List Part) (i : ℕ) (made : List Value) → UpgradedSoFar trees old parts new i made
    → length new ≤ i
    → AreUpgraded (fields_over trees old) (map value_of parts) (fields_over trees new) made
UpgradedSoFar-end trees old parts new i made h all = record {
  value = sym (append-nil (map value_of made))
      ∙ sym (ap (λ ps. map value_of made ++ upgraded_fields (fields_over trees old)
      (map value_of parts) (fields_over trees ps)) (drop_all i new all)) ∙ h.value;
  are = subst (AreFields (fields_over trees new)) (append-nil made)
      (h.are [] (subst (λ (ps : List Part). AreFields (fields_over trees ps) [])
      (sym (drop_all i new all)) tt));
}

-- a field that is taken is one of the values, and is one of the new field's type
pub taken_part : (old : Fields) (parts : List Value) (name : List ℕ) (t : SszType)
    → AreFields old parts → IsFieldTaken parts t (field_taken old name t)
taken_part no_fields parts name t fit = tt
taken_part (field a u fs) [] name t fit = absurd fit
taken_part (field a u fs) (v ∷ parts) name t fit =
    go (bytes_eq a name) (taken_part fs parts name t fit.1)
  where
    equal : (b : Bool) → same_type u t ≡ b → IsFieldTaken (v ∷ parts) t (cond b (Some 0) None)
    equal true same = (
      omega arith,
      λ w here. subst (λ x. IsValue t x) (same_Some v w here)
          (subst (λ x. IsValue x v) ((type_alike u).same t same) fit.0),
    )
    equal false same = tt

    later : (found : Option SszType) (k : ℕ)
        → IsFieldTaken parts t (option_and_then (λ x. cond (same_type x t) (Some k) None) found)
        → IsFieldTaken (v ∷ parts) t
        (option_and_then (λ x. cond (same_type x t) (Some (suc k)) None) found)
    later None k is = tt
    later (Some x) k is = shifted (same_type x t) is
      where
        shifted : (b : Bool) → IsFieldTaken parts t (cond b (Some k) None)
            → IsFieldTaken (v ∷ parts) t (cond b (Some (suc k)) None)
        shifted true is = (omega (arith, is.0), is.1)
        shifted false is = tt

    go : (b : Bool) → IsFieldTaken parts t (field_taken fs name t)
        → IsFieldTaken (v ∷ parts) t (option_and_then
        (λ x. cond (same_type x t) (Some (cond b 0 (suc (field_number fs name)))) None)
        (cond b (Some u) (field_type fs name)))
    go true rest = equal (same_type u t) refl
    go false rest = later (field_type fs name) (field_number fs name) rest

-- the value of the new type
pub plain_done : (s t : SszType) (old new : Fields) (value : Value)
    (parts made : Vec Value Global) → s ≡ container old → t ≡ container new
    → value ≡ Seq parts
    → AreUpgraded old (map value_of parts.items) new made.items
    → StandsUpgraded s (value_of value) t (Seq made)
plain_done s t old new value parts made is_old is_new is done = record {
  value = ap₂ (λ x y. upgraded x (value_of value) y) is_old is_new
      ∙ ap (λ v. upgraded (container old) v (container new))
      (ap value_of is ∙ seq_is parts)
      ∙ ap (λ vs. Ok (sequence (values (upgraded_fields old vs new))))
      (items-values (map value_of parts.items))
      ∙ ap (λ vs. Ok (sequence (values vs))) (sym done.value)
      ∙ ap Ok (sym (seq_is made));
  is = subst (λ x. IsValue x (Seq made)) (sym is_new) (seq_container new made done.are);
}

-- a copy of a part that is taken is one of the new field's type
pub copy_is : (parts : List Value) (t : SszType) (k : ℕ) (v : Value)
    → IsFieldTaken parts t (Some k) → v ≡ get_or parts k v → (result : Result Value AllocError)
    → IfOk result (IsCopy v) → IfOk result (IsValue t)
copy_is parts t k v is at result copied =
    let old = is.1 v (slice_get_read parts (length parts) k v refl is.0 at) in
    IfOk-weaker result (IsCopy v) (IsValue t) (λ new same. record {
      fits = subst (Fits t) (sym same.value) old.fits;
      formed = same.formed t old.formed;
    }) copied

-- a default is a value of its type
pub default_is : (types : Types) (t : SszType) → IsLegal types.format t
    → (result : Result Value AllocError) → IfOk result (Stands t (default_of t))
    → IfOk result (IsValue t)
default_is types t legal result made =
    IfOk-weaker result (Stands t (default_of t)) (IsValue t) (λ new stands. record {
      fits = subst (Fits t) (sym stands.value) (default_fits types.format t legal);
      formed = stands.formed;
    }) made
