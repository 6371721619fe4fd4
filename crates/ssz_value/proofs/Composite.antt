-- The law at containers and unions.
use Rattle.std.proofs.Common.{ℕ, zero, suc, ◌+◌, ◌^◌, ◌<◌, ◌≡◌, ◌⊎◌, inl, inr, ltb, List, [], ◌∷◌, length, Option, Some, None, refl, sym, ap, ap₂, ◌∙◌, subst, arith, ltb-false, ltb-true, lt-ltb}
use Rattle.std.proofs.lemmas.Bool.{cond-true}
use Rattle.ssz_schema.specs.Types.{SszType, Fields, Options, container, union, no_fields, field, no_options, none_option, option}
use Rattle.ssz_schema.specs.Sizes.{fixed_size, part_sizes, total_size, option_count}
use Rattle.ssz_value.specs.Values.{SszValue, Fits, sequence, chosen, chosen_none, items, values, FitFields, FitsOption, IsNoneOption}
use Rattle.ssz_value.specs.Encoding.{serialize, joined, field_encodings, option_encoding}
use Rattle.ssz_value.specs.Faults.{first_fault, Scope, scopes, scope_bytes, fields_fault, option_fault}
use Rattle.ssz_value.specs.Reading.{value_in, fields_in, option_in}
use Rattle.ssz_value.proofs.Cut.{AreParts, passes, chosen_none_of, cut-joined, joined-cut}
use Rattle.ssz_value.proofs.Agree.{IsReadBack, IsWrittenBack, IsInput, Agrees, FieldsAgree, OptionsAgree, IsNoneRead, IsChosenRead, AreShort, AreInputs, AreShort-scopes, AreInputs-scopes, length-scopes, no_fault, no_faults, no_some}
use Rattle.ssz_value.proofs.Sequences.{items-values, values-items, length-joined, total_size-heads}

-- fields

none_known : (s : ℕ) (vs : List SszValue) (parts : List Scope) → FitFields no_fields vs
    → scope_bytes parts ≡ [] → (fields_fault no_fields s parts ≡ None) ×
    (fields_in no_fields (scope_bytes parts) ≡ vs)
none_known s [] [] fit e = (refl, refl)
none_known s [] (part ∷ parts) fit e = cc
none_known s (v ∷ vs) parts fit e = absurd fit

none_only : (s : ℕ) (parts : List Scope) → length parts ≡ 0
    → FitFields no_fields (fields_in no_fields (scope_bytes parts)) ×
    (field_encodings no_fields (fields_in no_fields (scope_bytes parts)) ≡ scope_bytes parts)
none_only s [] e = (tt, refl)
none_only s (part ∷ parts) e = absurd (omega arith)

none_sized : (vs : List SszValue) → FitFields no_fields vs
    → AreParts [] (field_encodings no_fields vs)
none_sized [] fit = tt
none_sized (v ∷ vs) fit = absurd fit

pub FieldsAgree-none : FieldsAgree no_fields
FieldsAgree-none = record {
  known = λ s vs parts fit small e. none_known s vs parts fit e;
  only = λ s parts input many e. none_only s parts many;
  sized = none_sized;
  positive = λ z many e. absurd (omega arith);
}

field_known : (name : List ℕ) (t : SszType) (fs : Fields) → Agrees t → FieldsAgree fs
    → (s : ℕ) (vs : List SszValue) (parts : List Scope) → FitFields (field name t fs) vs
    → AreShort parts → scope_bytes parts ≡ field_encodings (field name t fs) vs
    → (fields_fault (field name t fs) s parts ≡ None) ×
    (fields_in (field name t fs) (scope_bytes parts) ≡ vs)
field_known name t fs law laws s [] parts fit small e = absurd fit
field_known name t fs law laws s (v ∷ vs) [] fit small e = cc
field_known name t fs law laws s (v ∷ vs) (part ∷ parts) fit small e =
    let first : part.1 ≡ serialize t v = cc in
    let others : scope_bytes parts ≡ field_encodings fs vs = cc in
    let read = law.known (s + part.0) v fit.0
    (subst (λ (bytes : List ℕ). length bytes < 2 ^ 32) first small.0) in
    let rest = laws.known s vs parts fit.1 small.1 others in (
      no_fault _ _ (ap (first_fault t (s + part.0)) first ∙ read.faultless) rest.0,
      ap₂ ◌∷◌ (ap (value_in t) first ∙ read.value) rest.1,
    )

field_only : (name : List ℕ) (t : SszType) (fs : Fields) → Agrees t → FieldsAgree fs
    → (s : ℕ) (parts : List Scope) → AreInputs parts → length parts ≡ suc (length (part_sizes fs))
    → fields_fault (field name t fs) s parts ≡ None
    → FitFields (field name t fs) (fields_in (field name t fs) (scope_bytes parts)) ×
    (field_encodings (field name t fs) (fields_in (field name t fs) (scope_bytes parts))
    ≡ scope_bytes parts)
field_only name t fs law laws s [] input many e = absurd (omega arith)
field_only name t fs law laws s (part ∷ parts) input many e =
    let both = no_faults _ _ e in
    let first = law.only (s + part.0) part.1 input.0 both.0 in
    let rest = laws.only s parts input.1 (omega arith) both.1 in
    ((first.fits, rest.0), ap₂ ◌∷◌ first.bytes rest.1)

field_parts : (t : SszType) (fs : Fields) (size : Option ℕ)
    → ((z : ℕ) (v : SszValue) → size ≡ Some z → Fits t v → length (serialize t v) ≡ z)
    → FieldsAgree fs
    → (v : SszValue) (vs : List SszValue) → Fits t v → FitFields fs vs
    → AreParts (size ∷ part_sizes fs) (serialize t v ∷ field_encodings fs vs)
field_parts t fs (Some z) sized laws v vs fit fits = (sized z v refl fit, laws.sized vs fits)
field_parts t fs None sized laws v vs fit fits = laws.sized vs fits

field_sized : (name : List ℕ) (t : SszType) (fs : Fields) → Agrees t → FieldsAgree fs
    → (vs : List SszValue) → FitFields (field name t fs) vs
    → AreParts (part_sizes (field name t fs)) (field_encodings (field name t fs) vs)
field_sized name t fs law laws [] fit = absurd fit
field_sized name t fs law laws (v ∷ vs) fit =
    field_parts t fs (fixed_size t) law.sized laws v vs fit.0 fit.1

first_positive : (size : Option ℕ) (sizes : List (Option ℕ)) (z : ℕ)
    → ((y : ℕ) → size ≡ Some y → 0 < y) → total_size (size ∷ sizes) ≡ Some z → 0 < z
first_positive None sizes z positive e = absurd (no_some z e)
first_positive (Some y) sizes z positive e =
    omega (arith, positive y refl, total_size-heads (Some y ∷ sizes) z e)

pub FieldsAgree-field : (name : List ℕ) (t : SszType) (fs : Fields) → Agrees t → FieldsAgree fs
    → FieldsAgree (field name t fs)
FieldsAgree-field name t fs law laws = record {
  known = field_known name t fs law laws;
  only = field_only name t fs law laws;
  sized = field_sized name t fs law laws;
  positive = λ z many e. first_positive (fixed_size t) (part_sizes fs) z law.positive e;
}

-- containers

container_known : (fs : Fields) → FieldsAgree fs → (s : ℕ) (v : SszValue) → Fits (container fs) v
    → length (serialize (container fs) v) < 2 ^ 32 → IsReadBack (container fs) s v
container_known fs laws s (sequence vs) fit small =
    let b = joined (part_sizes fs) (field_encodings fs (items vs)) in
    let cuts = cut-joined (part_sizes fs) (field_encodings fs (items vs)) s
    (laws.sized (items vs) fit) small in
    let each = laws.known s (items vs) (scopes (part_sizes fs) 0 b) fit
    (AreShort-scopes (part_sizes fs) 0 b small) cuts.scopes in
    record {
      faultless = no_fault _ _ cuts.head each.0;
      value = ap (λ ws. sequence (values ws)) each.1 ∙ ap sequence (values-items vs);
    }
container_known fs laws s _ fit small = absurd fit

container_only : (fs : Fields) → FieldsAgree fs → (s : ℕ) (b : List ℕ) → IsInput b
    → first_fault (container fs) s b ≡ None → IsWrittenBack (container fs) b
container_only fs laws s b input e =
    let both = no_faults _ _ e in
    let parts = scopes (part_sizes fs) 0 b in
    let vs = fields_in fs (scope_bytes parts) in
    let each = laws.only s parts (AreInputs-scopes (part_sizes fs) 0 b input)
    (length-scopes (part_sizes fs) 0 b) both.1 in
    record {
      fits = subst (FitFields fs) (sym (items-values vs)) each.0;
      bytes = ap (λ ws. joined (part_sizes fs) (field_encodings fs ws)) (items-values vs)
          ∙ ap (joined (part_sizes fs)) each.1 ∙ joined-cut (part_sizes fs) s b input.bytes both.0;
    }

container_sized : (fs : Fields) → FieldsAgree fs → (z : ℕ) (v : SszValue)
    → fixed_size (container fs) ≡ Some z → Fits (container fs) v
    → length (serialize (container fs) v) ≡ z
container_sized fs laws z (sequence vs) e fit =
    length-joined (part_sizes fs) (field_encodings fs (items vs)) z e (laws.sized (items vs) fit)
container_sized fs laws z _ e fit = absurd fit

pub Agrees-container : (fs : Fields) → 0 < length (part_sizes fs) → FieldsAgree fs
    → Agrees (container fs)
Agrees-container fs many laws = record {
  known = container_known fs laws;
  only = container_only fs laws;
  sized = container_sized fs laws;
  positive = λ z e. laws.positive z many e;
}

-- options

pub OptionsAgree-none : OptionsAgree no_options
OptionsAgree-none = record {
  known = λ s left k v fit small. absurd fit;
  known_none = λ s left k fit. absurd fit;
  only = λ s left k b input few e. absurd (omega arith);
}

-- one option more, before those of os
IsKnown : (os : Options) (s left k : ℕ) (v : SszValue) → Type 0
IsKnown os s left k v = (left < option_count os) ×
    (option_fault os left s (option_encoding os left v) ≡ None) ×
    (option_in os left k (option_encoding os left v) ≡ chosen k v)

option_known : (t : SszType) (os : Options) → Agrees t → OptionsAgree os
    → (s left k : ℕ) (v : SszValue) → FitsOption (option t os) left v
    → length (option_encoding (option t os) left v) < 2 ^ 32 → IsKnown (option t os) s left k v
unfolding IsKnown
option_known t os law laws s zero k v fit small = let read =
    law.known s v fit small in (omega arith, read.faultless, ap (chosen k) read.value)
option_known t os law laws s (suc left) k v fit small = let rest =
    laws.known s left k v fit small in (omega (arith, rest.0), rest.1, rest.2)

none_option_known : (os : Options) → OptionsAgree os → (s left k : ℕ) (v : SszValue)
    → FitsOption (none_option os) left v → length (option_encoding (none_option os) left v) < 2 ^ 32
    → IsKnown (none_option os) s left k v
unfolding IsKnown
none_option_known os laws s zero k v fit small = absurd fit
none_option_known os laws s (suc left) k v fit small = let rest =
    laws.known s left k v fit small in (omega (arith, rest.0), rest.1, rest.2)

IsKnownNone : (os : Options) (s left k : ℕ) → Type 0
IsKnownNone os s left k =
    (left < option_count os) × (option_fault os left s [] ≡ None) ×
    (option_in os left k [] ≡ chosen_none k)

option_known_none : (t : SszType) (os : Options) → OptionsAgree os → (s left k : ℕ)
    → IsNoneOption (option t os) left → IsKnownNone (option t os) s left k
unfolding IsKnownNone
option_known_none t os laws s zero k fit = absurd fit
option_known_none t os laws s (suc left) k fit = let rest =
    laws.known_none s left k fit in (omega (arith, rest.0), rest.1, rest.2)

none_option_known_none : (os : Options) → OptionsAgree os → (s left k : ℕ)
    → IsNoneOption (none_option os) left → IsKnownNone (none_option os) s left k
unfolding IsKnownNone
none_option_known_none os laws s zero k fit = (omega arith, refl, refl)
none_option_known_none os laws s (suc left) k fit = let rest =
    laws.known_none s left k fit in (omega (arith, rest.0), rest.1, rest.2)

IsRead : (os : Options) (left k : ℕ) (b : List ℕ) → Type 0
IsRead os left k b = IsNoneRead os left k b ⊎ IsChosenRead os left k b

option_later : (t : SszType) (os : Options) (left k : ℕ) (b : List ℕ) → IsRead os left k b
    → IsRead (option t os) (suc left) k b
unfolding IsRead
option_later t os left k b (inl r) =
    inl (record { fits = r.fits; value = r.value; bytes = r.bytes })
option_later t os left k b (inr r) =
    inr (record { inner = r.inner; fits = r.fits; value = r.value; bytes = r.bytes })

none_option_later : (os : Options) (left k : ℕ) (b : List ℕ) → IsRead os left k b
    → IsRead (none_option os) (suc left) k b
unfolding IsRead
none_option_later os left k b (inl r) =
    inl (record { fits = r.fits; value = r.value; bytes = r.bytes })
none_option_later os left k b (inr r) =
    inr (record { inner = r.inner; fits = r.fits; value = r.value; bytes = r.bytes })

option_only : (t : SszType) (os : Options) → Agrees t → OptionsAgree os
    → (s left k : ℕ) (b : List ℕ) → IsInput b → left < option_count (option t os)
    → option_fault (option t os) left s b ≡ None → IsRead (option t os) left k b
unfolding IsRead
option_only t os law laws s zero k b input few e = let written =
    law.only s b input e in inr
    (record { inner = value_in t b; fits = written.fits; value = refl; bytes = written.bytes })
option_only t os law laws s (suc left) k b input few e =
    option_later t os left k b (laws.only s left k b input (omega arith) e)

none_option_only : (os : Options) → OptionsAgree os → (s left k : ℕ) (b : List ℕ) → IsInput b
    → left < option_count (none_option os) → option_fault (none_option os) left s b ≡ None
    → IsRead (none_option os) left k b
unfolding IsRead
none_option_only os laws s zero k [] input few e =
    inl (record { fits = tt; value = refl; bytes = refl })
none_option_only os laws s zero k (x ∷ b) input few e =
    absurd (omega (arith, ltb-false 0 (length (x ∷ b)) (passes _ _ _ e).0))
none_option_only os laws s (suc left) k b input few e =
    none_option_later os left k b (laws.only s left k b input (omega arith) e)

pub OptionsAgree-option : (t : SszType) (os : Options) → Agrees t → OptionsAgree os
    → OptionsAgree (option t os)
unfolding IsKnown IsKnownNone IsRead
OptionsAgree-option t os law laws = record {
  known = option_known t os law laws;
  known_none = option_known_none t os laws;
  only = option_only t os law laws;
}

pub OptionsAgree-none_option : (os : Options) → OptionsAgree os → OptionsAgree (none_option os)
unfolding IsKnown IsKnownNone IsRead
OptionsAgree-none_option os laws = record {
  known = none_option_known os laws;
  known_none = none_option_known_none os laws;
  only = none_option_only os laws;
}

-- unions

union_known : (os : Options) → OptionsAgree os → (s : ℕ) (v : SszValue) → Fits (union os) v
    → length (serialize (union os) v) < 2 ^ 32 → IsReadBack (union os) s v
union_known os laws s (chosen k v) fit small =
    let read = laws.known (s + 1) k k v fit (omega arith) in
    record {
      faultless = cond-true _ _ _ (lt-ltb k (option_count os) read.0) ∙ read.1;
      value =
          read.2;
    }
union_known os laws s (chosen_none k) fit small =
    let read = laws.known_none (s + 1) k k fit in
    record {
      faultless = cond-true _ _ _ (lt-ltb k (option_count os) read.0) ∙ read.1;
      value =
          read.2;
    }
union_known os laws s _ fit small = absurd fit

union_written : (os : Options) (k : ℕ) (b : List ℕ) → IsNoneRead os k k b ⊎ IsChosenRead os k k b
    → IsWrittenBack (union os) (k ∷ b)
union_written os k b (inl r) = record {
  fits = subst (Fits (union os)) (sym r.value) r.fits;
  bytes = ap (serialize (union os)) r.value ∙ ap (λ bytes. k ∷ bytes) (sym r.bytes);
}
union_written os k b (inr r) = record {
  fits = subst (Fits (union os)) (sym r.value) r.fits;
  bytes = ap (serialize (union os)) r.value ∙ ap (λ bytes. k ∷ bytes) r.bytes;
}

rest_is_input : (k : ℕ) (b : List ℕ) → IsInput (k ∷ b) → IsInput b
rest_is_input k b h = record { bytes = λ i. h.bytes (suc i); short = omega (arith, h.short) }

union_only : (os : Options) → OptionsAgree os → (s : ℕ) (b : List ℕ) → IsInput b
    → first_fault (union os) s b ≡ None → IsWrittenBack (union os) b
union_only os laws s [] input e = cc
union_only os laws s (k ∷ b) input e =
    let found = chosen_none_of (ltb k (option_count os)) _ _ e in
    union_written os k b (laws.only (s + 1) k k b (rest_is_input k b input)
    (ltb-true k (option_count os) found.0) found.1)

pub Agrees-union : (os : Options) → OptionsAgree os → Agrees (union os)
Agrees-union os laws = record {
  known = union_known os laws;
  only = union_only os laws;
  sized = λ z v e h. absurd (no_some z e);
  positive = λ z e. absurd (no_some z e);
}
