-- When a value is one of a type, by its parts.
use Rattle.std.proofs.Common.{ℕ, zero, suc, ◌≡◌, ◌<◌, ◌≤◌, ◌+◌, Bool, true, false, List, [], ◌∷◌, length, map, drop, get_or, slice_get, Vec, Global, Option, Some, None, refl, sym, ap, subst}
use Rattle.std.specs.List.{AllByRecursion}
use Rattle.std.specs.declared.boxed.Box.{Box}
use Rattle.std.proofs.lemmas.List.{drop_all}
use Rattle.ssz_schema.specs.width.Width.TheVariants.{W8}
use Rattle.ssz_schema.specs.Types.{SszType, Fields, uint, container, vector, list, union, no_fields, field}
use Rattle.ssz_schema.specs.Unfolding.{type_tree_at, fields_over, options_over}
use Rattle.ssz_value.specs.declared.value.Value.{Value, out-Value}
use Rattle.ssz_value.specs.declared.value.Value.TheVariants.{Bytes, Seq, Union}
use Rattle.ssz_bytes.specs.Bytes.{IsBytes}
use Rattle.ssz_value.specs.Values.{SszValue, number, sequence, Fits, FitFields, FitsOption, IsNoneOption}
use Rattle.ssz_value.specs.Standing.{value_of, is_byte, AreFormed, IsFormed, FieldsFormed, IsValue}
use Rattle.ssz_value.specs.Shapes.{part_count_of, AreFields, ElementsFit, IsSequence}
use Rattle.ssz_value.proofs.ValueLemmas.{seq_is, bytes_are, chosen_is, chosen_none_is}
use Rattle.ssz_value.proofs.Sequences.{items-values}
use Rattle.ssz_schema.proofs.WalkFields.{drop_at}
use Rattle.ssz_value.proofs.PartLemmas.{Part}
use Rattle.ssz_value.proofs.FormLemmas.{seq_out, bytes_elements, none_formed, seq_formed_alike, seq_formed_fields, byte_type, bytes_are_formed, chosen_formed}

-- vectors and lists: so many parts, and each an element

vector_back : (elem : SszType) (n : ℕ) (w : SszValue) → part_count_of w ≡ n → ElementsFit elem w
    → Fits (vector elem n) w
vector_back elem n (sequence vs) e h = (e, h)
vector_back elem n _ e h = absurd h

vector_count : (elem : SszType) (n : ℕ) (w : SszValue) → Fits (vector elem n) w
    → part_count_of w ≡ n
vector_count elem n (sequence vs) h = h.0
vector_count elem n _ h = absurd h

list_back : (elem : SszType) (n : ℕ) (w : SszValue) → part_count_of w ≤ n → ElementsFit elem w
    → Fits (list elem n) w
list_back elem n (sequence vs) e h = (e, h)
list_back elem n _ e h = absurd h

list_count : (elem : SszType) (n : ℕ) (w : SszValue) → Fits (list elem n) w → part_count_of w ≤ n
list_count elem n (sequence vs) h = h.0
list_count elem n _ h = absurd h

pub vector_value : (elem : SszType) (n : ℕ) (v : Value) → part_count_of (value_of v) ≡ n
    → IsSequence elem v → IsValue (vector elem n) v
vector_value elem n v e h =
    record { fits = vector_back elem n (value_of v) e h.fit; formed = h.formed }

pub vector_parts : (elem : SszType) (n : ℕ) (v : Value) → IsValue (vector elem n) v
    → part_count_of (value_of v) ≡ n
vector_parts elem n v h = vector_count elem n (value_of v) h.fits

pub list_value : (elem : SszType) (n : ℕ) (v : Value) → part_count_of (value_of v) ≤ n
    → IsSequence elem v → IsValue (list elem n) v
list_value elem n v e h = record { fits = list_back elem n (value_of v) e h.fit; formed = h.formed }

pub list_parts : (elem : SszType) (n : ℕ) (v : Value) → IsValue (list elem n) v
    → part_count_of (value_of v) ≤ n
list_parts elem n v h = list_count elem n (value_of v) h.fits

-- sequences

fit_parts : (elem : SszType) (vs : List Value) → AllByRecursion (IsValue elem) vs
    → AllByRecursion (Fits elem) (map value_of vs)
fit_parts elem [] h = tt
fit_parts elem (v ∷ vs) h = (h.0.fits, fit_parts elem vs h.1)

formed_parts : (elem : SszType) (vs : List Value) → AllByRecursion (IsValue elem) vs
    → AllByRecursion (IsFormed elem) vs
formed_parts elem [] h = tt
formed_parts elem (v ∷ vs) h = (h.0.formed, formed_parts elem vs h.1)

pub seq_sequence : (elem : SszType) (parts : Vec Value Global) → is_byte elem ≡ false
    → AllByRecursion (IsValue elem) parts.items → IsSequence elem (Seq parts)
seq_sequence elem parts e h = record {
  fit = subst (ElementsFit elem) (sym (seq_is parts))
      (subst (AllByRecursion (Fits elem)) (sym (items-values (map value_of parts.items)))
      (fit_parts elem parts.items h));
  formed = seq_formed_alike elem 0 parts e (formed_parts elem parts.items h);
}

pub seq_no_byte : (elem : SszType) (parts : Vec Value Global) → is_byte elem ≡ true
    → IsSequence elem (Seq parts) → ⊥
seq_no_byte elem parts e h =
    let formed : AreFormed true (IsFormed elem) (out-Value (Seq parts)) =
    subst (λ (b : Bool). AreFormed b (IsFormed elem) (out-Value (Seq parts))) e h.formed in
    subst (AreFormed true (IsFormed elem)) (seq_out parts) formed

bytes_fit : (run : List ℕ) → IsBytes run → AllByRecursion (Fits (uint W8)) (map number run)
bytes_fit [] h = tt
bytes_fit (b ∷ run) h = (h zero, bytes_fit run (λ i. h (suc i)))

pub bytes_sequence : (elem : SszType) (run : List ℕ) → is_byte elem ≡ true → IsBytes run
    → IsSequence elem (Bytes run)
bytes_sequence elem run e h =
    let byte = byte_type elem e in
    subst (λ (t : SszType). IsSequence t (Bytes run)) (sym byte)
    (record {
      fit = subst (ElementsFit (uint W8)) (sym (bytes_are run))
          (subst (AllByRecursion (Fits (uint W8))) (sym (items-values (map number run)))
          (bytes_fit run h));
      formed = bytes_are_formed 0 run;
    })

pub bytes_need : (elem : SszType) (run : List ℕ) → IsSequence elem (Bytes run) → is_byte elem ≡ true
bytes_need elem run h = ap is_byte (bytes_elements elem run h)

-- containers

-- fields that are values of the program fit
pub fit_fields : (fs : Fields) (vs : List Value) → AreFields fs vs → FitFields fs (map value_of vs)
fit_fields no_fields [] h = tt
fit_fields no_fields (v ∷ vs) h = absurd h
fit_fields (field name t fs) [] h = absurd h
fit_fields (field name t fs) (v ∷ vs) h = (h.0.fits, fit_fields fs vs h.1)

formed_fields : (fs : Fields) (vs : List Value) → AreFields fs vs → FieldsFormed fs vs
formed_fields no_fields [] h = tt
formed_fields no_fields (v ∷ vs) h = absurd h
formed_fields (field name t fs) [] h = absurd h
formed_fields (field name t fs) (v ∷ vs) h = (h.0.formed, formed_fields fs vs h.1)

pub seq_container : (fs : Fields) (parts : Vec Value Global) → AreFields fs parts.items
    → IsValue (container fs) (Seq parts)
seq_container fs parts h = record {
  fits = subst (Fits (container fs)) (sym (seq_is parts))
      (subst (FitFields fs) (sym (items-values (map value_of parts.items)))
      (fit_fields fs parts.items h));
  formed = seq_formed_fields fs parts (formed_fields fs parts.items h);
}

-- unions

pub chosen_value : (trees : List SszType) (ids : List (Option ℕ)) (k id : ℕ)
    (inner : Box Value Global) → Some (Some id) ≡ slice_get ids k
    → IsValue (type_tree_at trees id) inner.value
    → IsValue (union (options_over trees ids)) (Union k (Some inner))
chosen_value trees ids k id inner e h = record {
  fits = subst (Fits (union (options_over trees ids))) (sym (chosen_is k inner)) (go ids k e);
  formed = chosen_formed trees ids k id inner e h.formed;
}
  where
    go : (ids : List (Option ℕ)) (k : ℕ) → Some (Some id) ≡ slice_get ids k
        → FitsOption (options_over trees ids) k (value_of inner.value)
    go [] k e = cc
    go (None ∷ ids) zero e = cc
    go (Some other ∷ ids) zero e = let same : id ≡ other =
        cc in subst (λ (n : ℕ). Fits (type_tree_at trees n) (value_of inner.value)) same h.fits
    go (None ∷ ids) (suc k) e = go ids k e
    go (Some other ∷ ids) (suc k) e = go ids k e

none_option_at : (trees : List SszType) (ids : List (Option ℕ)) (k : ℕ)
    → IsNoneOption (options_over trees ids) k → Some None ≡ slice_get ids k
none_option_at trees [] k h = absurd h
none_option_at trees (None ∷ ids) zero h = refl
none_option_at trees (Some id ∷ ids) zero h = absurd h
none_option_at trees (None ∷ ids) (suc k) h = none_option_at trees ids k h
none_option_at trees (Some id ∷ ids) (suc k) h = none_option_at trees ids k h

pub at_none_option : (trees : List SszType) (ids : List (Option ℕ)) (k : ℕ)
    → Some None ≡ slice_get ids k → IsNoneOption (options_over trees ids) k
at_none_option trees [] k e = cc
at_none_option trees (None ∷ ids) zero e = tt
at_none_option trees (Some id ∷ ids) zero e = cc
at_none_option trees (None ∷ ids) (suc k) e = at_none_option trees ids k e
at_none_option trees (Some id ∷ ids) (suc k) e = at_none_option trees ids k e

pub none_value : (trees : List SszType) (ids : List (Option ℕ)) (k : ℕ)
    → Some None ≡ slice_get ids k → IsValue (union (options_over trees ids)) (Union k None)
none_value trees ids k e = record {
  fits = subst (Fits (union (options_over trees ids))) (sym (chosen_none_is k))
      (at_none_option trees ids k e);
  formed = none_formed (options_over trees ids) k;
}

pub none_needs : (trees : List SszType) (ids : List (Option ℕ)) (k : ℕ)
    → IsValue (union (options_over trees ids)) (Union k None) → Some None ≡ slice_get ids k
none_needs trees ids k h =
    none_option_at trees ids k
    (subst (Fits (union (options_over trees ids))) (chosen_none_is k) h.fits)

-- the elements from i on fit exactly where all do
pub record AllFrom (t : SszType) (vs : List Value) (i : ℕ) : Type 0 where
  pub all : AllByRecursion (IsValue t) (drop i vs) → AllByRecursion (IsValue t) vs
  pub rest : AllByRecursion (IsValue t) vs → AllByRecursion (IsValue t) (drop i vs)

pub AllFrom-start : (t : SszType) (vs : List Value) → AllFrom t vs 0
AllFrom-start t vs = record { all = λ h. h; rest = λ h. h }

pub AllFrom-more : (t : SszType) (vs : List Value) (i : ℕ) (v : Value) → AllFrom t vs i
    → i < length vs → v ≡ get_or vs i v → IsValue t v → AllFrom t vs (i + 1)
AllFrom-more t vs i v h below e fit =
    let here = drop_at vs i v below e in
    record {
      all = λ rest. h.all (subst (AllByRecursion (IsValue t)) (sym here) (fit, rest));
      rest = λ all. (subst (AllByRecursion (IsValue t)) here (h.rest all)).1;
    }

pub AllFrom-this : (t : SszType) (vs : List Value) (i : ℕ) (v : Value) → AllFrom t vs i
    → i < length vs → v ≡ get_or vs i v → AllByRecursion (IsValue t) vs → IsValue t v
AllFrom-this t vs i v h below e all =
    (subst (AllByRecursion (IsValue t)) (drop_at vs i v below e) (h.rest all)).0

pub AllFrom-end : (t : SszType) (vs : List Value) (i : ℕ) → AllFrom t vs i → length vs ≤ i
    → AllByRecursion (IsValue t) vs
AllFrom-end t vs i h all = h.all (subst (AllByRecursion (IsValue t)) (sym (drop_all i vs all)) tt)

-- the same of fields
pub record FieldsFrom (trees : List SszType) (fields : List Part) (vs : List Value)
    (i : ℕ) : Type 0 where
  pub all : AreFields (fields_over trees (drop i fields)) (drop i vs)
      → AreFields (fields_over trees fields) vs
  pub rest : AreFields (fields_over trees fields) vs
      → AreFields (fields_over trees (drop i fields)) (drop i vs)

pub FieldsFrom-start : (trees : List SszType) (fields : List Part) (vs : List Value)
    → FieldsFrom trees fields vs 0
FieldsFrom-start trees fields vs = record { all = λ h. h; rest = λ h. h }

pub FieldsFrom-more : (trees : List SszType) (fields : List Part) (vs : List Value) (i : ℕ)
    (part : Part) (v : Value) → FieldsFrom trees fields vs i → i < length fields → i < length vs
    → part ≡ get_or fields i part → v ≡ get_or vs i v
    → IsValue (type_tree_at trees part.1) v → FieldsFrom trees fields vs (i + 1)
FieldsFrom-more trees fields vs i part v h below within e is fit =
    let fs = drop_at fields i part below e in
    let ws = drop_at vs i v within is in
    record {
      all = λ rest. h.all (subst (λ (ps : List Part). AreFields (fields_over trees ps) (drop i vs))
          (sym (drop_at fields i part below e))
          (subst (λ (xs : List Value).
          AreFields (fields_over trees (part ∷ drop (i + 1) fields)) xs)
          (sym (drop_at vs i v within is)) (fit, rest)));
      rest = λ all. (subst (λ (xs : List Value).
          AreFields (fields_over trees (part ∷ drop (i + 1) fields)) xs)
          (drop_at vs i v within is)
          (subst (λ (ps : List Part). AreFields (fields_over trees ps) (drop i vs))
          (drop_at fields i part below e) (h.rest all))).1;
    }

pub FieldsFrom-this : (trees : List SszType) (fields : List Part) (vs : List Value) (i : ℕ)
    (part : Part) (v : Value) → FieldsFrom trees fields vs i → i < length fields → i < length vs
    → part ≡ get_or fields i part → v ≡ get_or vs i v
    → AreFields (fields_over trees fields) vs → IsValue (type_tree_at trees part.1) v
FieldsFrom-this trees fields vs i part v h below within e is all =
    (subst (λ (xs : List Value). AreFields (fields_over trees (part ∷ drop (i + 1) fields)) xs)
    (drop_at vs i v within is)
    (subst (λ (ps : List Part). AreFields (fields_over trees ps) (drop i vs))
    (drop_at fields i part below e) (h.rest all))).0

pub FieldsFrom-end : (trees : List SszType) (fields : List Part) (vs : List Value) (i : ℕ)
    → FieldsFrom trees fields vs i → length fields ≤ i → length vs ≤ i
    → AreFields (fields_over trees fields) vs
FieldsFrom-end trees fields vs i h all every =
    h.all (subst (λ (ps : List Part). AreFields (fields_over trees ps) (drop i vs))
    (sym (drop_all i fields all))
    (subst (λ (xs : List Value). AreFields no_fields xs) (sym (drop_all i vs every)) tt))
