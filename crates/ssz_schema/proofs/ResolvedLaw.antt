-- What a walk gives is legal.
use Rattle.std.proofs.Common.{ℕ, ◌+◌, ◌^◌, ◌<◌, ◌≡◌, Bool, true, false, not, ◌||◌, cond, ltb, eqb, List, [], ◌∷◌, Option, Some, None, Result, Ok, Err, bytes_eq, IsTrue, refl, sym, ap, ◌∙◌, subst, arith, ltb-false, pos_of_ne-zero}
use Rattle.std.specs.List.{AllByRecursion, list_any, IsDistinct}
use Rattle.std.proofs.lemmas.Bool.{or_parts, eqb-false}
use Rattle.ssz_types.specs.declared.format.Format.{Format}
use Rattle.ssz_types.specs.declared.width.Width.{Width}
use Rattle.ssz_types.specs.declared.schema_fault.SchemaFault.{SchemaFault}
use Rattle.ssz_types.specs.declared.schema_fault.SchemaFault.TheVariants.{BadName, EmptyContainer, NonePlace, UnionSize, FieldTaken}
use Rattle.ssz_types.specs.Types.{SszType, Fields, Options, uint, boolean, container, vector, list, bitvector, bitlist, union, no_fields, field, no_options, none_option, option}
use Rattle.ssz_types.specs.Sizes.{field_count, option_count, nesting, type_levels, default_length}
use Rattle.ssz_types.specs.Names.{IsName, is_name}
use Rattle.ssz_types.specs.Legal.{IsLegal, AreLegalFields, AreLegalOptions, IsWithinLimits, IsNoneFirst, HasNoNone, field_names, greatest_limit, most_levels}
use Rattle.ssz_schema.specs.Forms.{TypeForm, FieldForms, OptionForms, named, uint_form, boolean_form, container_form, vector_form, list_form, bitvector_form, bitlist_form, union_form, no_field_forms, field_form, no_option_forms, none_form, option_form, option_form_count}
use Rattle.ssz_schema.specs.Walk.{◌>>=◌, within_limits, of_length, of_limit, ok_or_unknown, resolved, resolved_fields, resolved_options}

pub bind_ok : {A B : Type 0} (r : Result A SchemaFault) (f : A → Result B SchemaFault) (y : B)
    → (r >>= f) ≡ Ok y → (x : A) × (r ≡ Ok x) × (f x ≡ Ok y)
bind_ok (Ok x) f y e = (x, refl, e)
bind_ok (Err d) f y e = cc

guard_ok : {A : Type 0} (b : Bool) (d : SchemaFault) (r : Result A SchemaFault) (y : A)
    → cond b (Err d) r ≡ Ok y → (b ≡ false) × (r ≡ Ok y)
guard_ok true d r y e = cc
guard_ok false d r y e = (refl, e)

pub ok_is : {A : Type 0} (x y : A) → ◌≡◌ {A = Result A SchemaFault} (Ok x) (Ok y) → x ≡ y
ok_is x y e = cc

module _ (format : Format) where
  within_ok : (t u : SszType) → within_limits format t ≡ Ok u → (t ≡ u) × IsWithinLimits format t
  within_ok t u e =
      let nest = guard_ok (ltb 32 (nesting t)) _ _ u e in
      let level = guard_ok (ltb (most_levels format) (type_levels t)) _ _ u nest.1 in
      let long = guard_ok (ltb (2 ^ 24) (default_length t)) _ _ u level.1 in (
        ok_is t u long.1,
        record {
          nesting = ltb-false 32 (nesting t) nest.0;
          levels =
              ltb-false (most_levels format) (type_levels t) level.0;
          default_length =
              ltb-false (2 ^ 24) (default_length t) long.0;
        },
      )

  -- no name of these is one of the fields'
  abbrev pub AreApart : List (List ℕ) → Fields → Type 0
  AreApart [] fs = Unit {0}
  AreApart (n ∷ names) fs = AllByRecursion (λ y. bytes_eq n y ≡ false) (field_names fs)
      × AreApart names fs

  apart_none : (names : List (List ℕ)) → AreApart names no_fields
  apart_none [] = tt
  apart_none (n ∷ names) = (tt, apart_none names)

  apart_more : (names : List (List ℕ)) (name : List ℕ) (t : SszType) (fs : Fields)
      → list_any (λ seen. bytes_eq seen name) names ≡ false → AreApart names fs
      → AreApart names (field name t fs)
  apart_more [] name t fs e h = tt
  apart_more (n ∷ names) name t fs e h = let both = or_parts _ _ e in
      ((both.0, h.0), apart_more names name t fs both.1 h.1)

  pub record AreResolved (names : List (List ℕ)) (fs : Fields) : Type 0 where
    pub legal : AreLegalFields format fs
    pub distinct : IsDistinct bytes_eq (field_names fs)
    pub apart : AreApart names fs

  pub record AreResolvedOptions (first : Bool) (os : Options) : Type 0 where
    pub legal : AreLegalOptions format os
    pub place : cond first (IsNoneFirst os) (HasNoNone os)

  some_no_fields : (names : List (List ℕ)) → AreResolved names no_fields
  unfolding IsDistinct
  some_no_fields names = record { legal = tt; distinct = tt; apart = apart_none names }

  one_field : (names : List (List ℕ)) (name : List ℕ) (t : SszType) (fs : Fields) → IsName name
      → IsLegal format t → list_any (λ seen. bytes_eq seen name) names ≡ false
      → AreResolved (name ∷ names) fs → AreResolved names (field name t fs)
  unfolding IsDistinct
  one_field names name t fs is legal fresh h =
      record {
        legal = (is, legal, h.legal);
        distinct = (h.apart.0, h.distinct);
        apart =
            apart_more names name t fs fresh h.apart.1;
      }

  is_true : (b : Bool) → not b ≡ false → IsTrue b
  is_true true e = refl
  is_true false e = cc

  -- cases of one form, given what the parts are

  pub Legal : Result SszType SchemaFault → Type 0
  Legal r = (t : SszType) → r ≡ Ok t → IsLegal format t

  pub LegalFields : (List (List ℕ) → Result Fields SchemaFault) → Type 0
  LegalFields r = (names : List (List ℕ)) (fs : Fields) → r names ≡ Ok fs → AreResolved names fs

  pub LegalOptions : (Bool → Result Options SchemaFault) → Type 0
  LegalOptions r = (first : Bool) (os : Options) → r first ≡ Ok os → AreResolvedOptions first os

  legal_vector : (r : Result SszType SchemaFault) (n : ℕ) → Legal r
      → Legal (r >>= (λ elem. of_length format n (vector elem n)))
  unfolding Legal
  legal_vector r n h t e =
      let elem = bind_ok r (λ elem. of_length format n (vector elem n)) t e in
      let some = guard_ok (eqb n 0) _ _ t elem.2 in
      let within = within_ok (vector elem.0 n) t some.1 in
      subst (IsLegal format) within.0 (
        h elem.0 elem.1,
        pos_of_ne-zero (eqb-false n 0 some.0),
        within.1,
      )

  legal_list : (r : Result SszType SchemaFault) (n : ℕ) → Legal r
      → Legal (r >>= (λ elem. of_limit format n (list elem n)))
  unfolding Legal
  legal_list r n h t e =
      let elem = bind_ok r (λ elem. of_limit format n (list elem n)) t e in
      let few = guard_ok (ltb (greatest_limit format) n) _ _ t elem.2 in
      let within = within_ok (list elem.0 n) t few.1 in
      subst (IsLegal format) within.0 (
        h elem.0 elem.1,
        ltb-false (greatest_limit format) n few.0,
        within.1,
      )

  legal_bitvector : (n : ℕ) → Legal (of_length format n (bitvector n))
  unfolding Legal
  legal_bitvector n t e =
      let some = guard_ok (eqb n 0) _ _ t e in
      let within = within_ok (bitvector n) t some.1 in
      subst (IsLegal format) within.0 (pos_of_ne-zero (eqb-false n 0 some.0), within.1)

  legal_bitlist : (n : ℕ) → Legal (of_limit format n (bitlist n))
  unfolding Legal
  legal_bitlist n t e =
      let few = guard_ok (ltb (greatest_limit format) n) _ _ t e in
      let within = within_ok (bitlist n) t few.1 in
      subst (IsLegal format) within.0 (ltb-false (greatest_limit format) n few.0, within.1)

  abbrev field_rule : (names : List (List ℕ)) (name : List ℕ) (r : Result SszType SchemaFault)
      (rs : List (List ℕ) → Result Fields SchemaFault) → Result Fields SchemaFault
  field_rule names name r rs =
      cond (not (is_name name)) (Err BadName)
      (cond (list_any (λ seen. bytes_eq seen name) names) (Err FieldTaken)
      (r >>= (λ t. rs (name ∷ names) >>= (λ fields. Ok (field name t fields)))))

  legal_field : (name : List ℕ) (r : Result SszType SchemaFault)
      (rs : List (List ℕ) → Result Fields SchemaFault) → Legal r → LegalFields rs
      → LegalFields (λ names. field_rule names name r rs)
  unfolding Legal LegalFields
  legal_field name r rs h k names fs e =
      let is = guard_ok (not (is_name name)) _ _ fs e in
      let fresh = guard_ok (list_any (λ seen. bytes_eq seen name) names) _ _ fs is.1 in
      let t = bind_ok r (λ t. rs (name ∷ names) >>= (λ fields. Ok (field name t fields))) fs
      fresh.1 in
      let rest = bind_ok (rs (name ∷ names)) (λ fields. Ok (field name t.0 fields)) fs t.2 in
      subst (AreResolved names) (ok_is (field name t.0 rest.0) fs rest.2)
      (one_field names name t.0 rest.0 (is_true (is_name name) is.0) (h t.0 t.1) fresh.0
      (k (name ∷ names) rest.0 rest.1))

  has_field : (names : List (List ℕ)) (name : List ℕ) (r : Result SszType SchemaFault)
      (rs : List (List ℕ) → Result Fields SchemaFault) (fs : Fields)
      → field_rule names name r rs ≡ Ok fs → 0 < field_count fs
  has_field names name r rs fs e =
      let is = guard_ok (not (is_name name)) _ _ fs e in
      let fresh = guard_ok (list_any (λ seen. bytes_eq seen name) names) _ _ fs is.1 in
      let t = bind_ok r (λ t. rs (name ∷ names) >>= (λ fields. Ok (field name t fields))) fs
      fresh.1 in
      let rest = bind_ok (rs (name ∷ names)) (λ fields. Ok (field name t.0 fields)) fs t.2 in
      let is_field = ok_is (field name t.0 rest.0) fs rest.2 in
      omega (arith, ap field_count is_field)

  legal_container : (name : List ℕ) (r : Result SszType SchemaFault)
      (rs : List (List ℕ) → Result Fields SchemaFault) → Legal r → LegalFields rs
      → Legal (field_rule [] name r rs >>= (λ fields. within_limits format (container fields)))
  unfolding Legal LegalFields
  legal_container name r rs h k t e =
      let fields = bind_ok (field_rule [] name r rs)
      (λ fields. within_limits format (container fields)) t e in
      let all : AreResolved [] fields.0 =
      (let law : (names : List (List ℕ)) (fs : Fields) → field_rule names name r rs ≡ Ok fs
      → AreResolved names fs = legal_field name r rs h k in law [] fields.0 fields.1) in
      let within = within_ok (container fields.0) t fields.2 in
      subst (IsLegal format) within.0 (
        has_field [] name r rs fields.0 fields.1,
        all.legal,
        all.distinct,
        within.1,
      )

  -- options

  legal_none : (rs : Bool → Result Options SchemaFault) → LegalOptions rs
      → LegalOptions (λ first. cond first (rs false >>= (λ options. Ok (none_option options)))
      (Err NonePlace))
  unfolding LegalOptions
  legal_none rs k false os e = cc
  legal_none rs k true os e =
      let rest = bind_ok (rs false) (λ options. Ok (none_option options)) os e in
      let others = k false rest.0 rest.1 in
      subst (AreResolvedOptions true) (ok_is (none_option rest.0) os rest.2)
      (record { legal = others.legal; place = others.place })

  legal_option : (r : Result SszType SchemaFault) (rs : Bool → Result Options SchemaFault) → Legal r
      → LegalOptions rs → LegalOptions (λ first. r >>=
      (λ t. rs false >>= (λ options. Ok (option t options))))
  unfolding Legal LegalOptions
  legal_option r rs h k first os e =
      let t = bind_ok r (λ t. rs false >>= (λ options. Ok (option t options))) os e in
      let rest = bind_ok (rs false) (λ options. Ok (option t.0 options)) os t.2 in
      let others = k false rest.0 rest.1 in
      subst (AreResolvedOptions first) (ok_is (option t.0 rest.0) os rest.2)
      (record { legal = (h t.0 t.1, others.legal); place = both first t.0 rest.0 others.place })
    where
      both : (first : Bool) (t : SszType) (os : Options) → HasNoNone os
          → cond first (IsNoneFirst (option t os)) (HasNoNone (option t os))
      both true t os h = h
      both false t os h = h

  no_more_options : (first : Bool) (os : Options)
      → ◌≡◌ {A = Result Options SchemaFault} (Ok no_options) (Ok os) → AreResolvedOptions first os
  no_more_options first os e = subst (AreResolvedOptions first) (ok_is no_options os e)
      (record { legal = tt; place = start first })
    where
      start : (first : Bool) → cond first (IsNoneFirst no_options) (HasNoNone no_options)
      start true = tt
      start false = tt

  -- as many options as forms
  pub mutual_count : (known : List ℕ → Option SszType) (forms : OptionForms) (first : Bool)
      (os : Options) → resolved_options format known first forms ≡ Ok os
      → option_count os ≡ option_form_count forms
  mutual_count known no_option_forms first os e = sym (ap option_count (ok_is no_options os e))
  mutual_count known (none_form forms) false os e = cc
  mutual_count known (none_form forms) true os e =
      let rest = bind_ok (resolved_options format known false forms)
      (λ options. Ok (none_option options)) os e in
      sym (ap option_count (ok_is (none_option rest.0) os rest.2))
      ∙ ap (λ n. n + 1) (mutual_count known forms false rest.0 rest.1)
  mutual_count known (option_form f forms) first os e =
      let t = bind_ok (resolved format known f) (λ t. resolved_options format known false forms >>=
      (λ options. Ok (option t options))) os e in
      let rest = bind_ok (resolved_options format known false forms)
      (λ options. Ok (option t.0 options)) os t.2 in
      sym (ap option_count (ok_is (option t.0 rest.0) os rest.2))
      ∙ ap (λ n. n + 1) (mutual_count known forms false rest.0 rest.1)

  legal_union : (count : ℕ) (r : Result Options SchemaFault)
      → ((os : Options) → r ≡ Ok os → AreResolvedOptions true os)
      → ((os : Options) → r ≡ Ok os → option_count os ≡ count)
      → Legal (cond (eqb count 0 || ltb 128 count) (Err UnionSize) r >>=
      (λ options. within_limits format (union options)))
  unfolding Legal
  legal_union count r h n t e =
      let options = bind_ok (cond (eqb count 0 || ltb 128 count) (Err UnionSize) r)
      (λ options. within_limits format (union options)) t e in
      let sized = guard_ok (eqb count 0 || ltb 128 count) _ _ options.0 options.1 in
      let both = or_parts (eqb count 0) (ltb 128 count) sized.0 in
      let all = h options.0 sized.1 in
      let many = n options.0 sized.1 in
      let within = within_ok (union options.0) t options.2 in
      subst (IsLegal format) within.0 (
        omega (arith, many, pos_of_ne-zero (eqb-false count 0 both.0)),
        omega (arith, many, ltb-false 128 count both.1),
        all.place,
        all.legal,
        within.1,
      )

  legal_known : (o : Option SszType) → ((t : SszType) → o ≡ Some t → IsLegal format t)
      → Legal (ok_or_unknown o)
  unfolding Legal
  legal_known None h t e = cc
  legal_known (Some u) h t e = h t (cc (ok_is u t e))

  is_uint : (w : Width) → Legal (Ok (uint w))
  unfolding Legal
  is_uint w t e = subst (IsLegal format) (ok_is (uint w) t e) tt

  is_boolean : Legal (Ok boolean)
  unfolding Legal
  is_boolean t e = subst (IsLegal format) (ok_is boolean t e) tt

  is_empty : Legal (Err EmptyContainer)
  unfolding Legal
  is_empty t e = cc

  is_no_fields : LegalFields (λ names. Ok no_fields)
  unfolding LegalFields
  is_no_fields names fs e = subst (AreResolved names) (ok_is no_fields fs e) (some_no_fields names)

  is_no_options : LegalOptions (λ first. Ok no_options)
  unfolding LegalOptions
  is_no_options first os e = no_more_options first os e

  of_options_at : (known : List ℕ → Option SszType) (os : OptionForms)
      → LegalOptions (λ first. resolved_options format known first os)
      → Legal (resolved format known (union_form os))
  unfolding LegalOptions
  of_options_at known os h = legal_union (option_form_count os)
      (resolved_options format known true os) (λ options e. h true options e)
      (λ options e. mutual_count known os true options e)

  module _ (known : List ℕ → Option SszType) (legal : (name : List ℕ) (t : SszType)
      → known name ≡ Some t → IsLegal format t) where
    mutual
      pub legal_resolved : (f : TypeForm) → Legal (resolved format known f)
      legal_resolved (named name) = legal_known (known name) (legal name)
      legal_resolved (uint_form w) = is_uint w
      legal_resolved boolean_form = is_boolean
      legal_resolved (container_form no_field_forms) = is_empty
      legal_resolved (container_form (field_form name f fs)) =
          legal_container name (resolved format known f)
          (λ names. resolved_fields format known names fs) (legal_resolved f) (legal_fields fs)
      legal_resolved (vector_form f n) = legal_vector (resolved format known f) n (legal_resolved f)
      legal_resolved (list_form f n) = legal_list (resolved format known f) n (legal_resolved f)
      legal_resolved (bitvector_form n) = legal_bitvector n
      legal_resolved (bitlist_form n) = legal_bitlist n
      legal_resolved (union_form os) = of_options_at known os (legal_options os)

      pub legal_fields : (fs : FieldForms)
          → LegalFields (λ names. resolved_fields format known names fs)
      legal_fields no_field_forms = is_no_fields
      legal_fields (field_form name f fs) =
          legal_field name (resolved format known f)
          (λ names. resolved_fields format known names fs) (legal_resolved f) (legal_fields fs)

      pub legal_options : (os : OptionForms)
          → LegalOptions (λ first. resolved_options format known first os)
      legal_options no_option_forms = is_no_options
      legal_options (none_form os) = legal_none (λ first. resolved_options format known first os)
          (legal_options os)
      legal_options (option_form f os) =
          legal_option (resolved format known f) (λ first. resolved_options format known first os)
          (legal_resolved f) (legal_options os)

  -- the type that a walk gives is legal
  pub type_is_legal : (known : List ℕ → Option SszType)
      → ((name : List ℕ) (t : SszType) → known name ≡ Some t → IsLegal format t)
      → (form : TypeForm) (t : SszType) → resolved format known form ≡ Ok t → IsLegal format t
  unfolding Legal
  type_is_legal known legal form t e = legal_resolved known legal form t e

  -- the fields that a walk gives are legal, and their names differ
  pub fields_are_legal : (known : List ℕ → Option SszType)
      → ((name : List ℕ) (t : SszType) → known name ≡ Some t → IsLegal format t)
      → (fs : FieldForms) (fields : Fields)
      → resolved_fields format known [] fs ≡ Ok fields → AreResolved [] fields
  unfolding LegalFields
  fields_are_legal known legal fs fields e = legal_fields known legal fs [] fields e

  -- the options that a walk gives are legal, and None is no option but the first
  pub options_are_legal : (known : List ℕ → Option SszType)
      → ((name : List ℕ) (t : SszType) → known name ≡ Some t → IsLegal format t)
      → (os : OptionForms) (options : Options)
      → resolved_options format known true os ≡ Ok options → AreResolvedOptions true options
  unfolding LegalOptions
  options_are_legal known legal os options e = legal_options known legal os true options e
