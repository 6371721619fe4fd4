-- Each legal type, written in full, is accepted, and what is accepted is legal.
use Rattle.std.proofs.Common.{ℕ, ◌+◌, ◌^◌, ◌<◌, ◌≤◌, ◌≡◌, Bool, true, false, not, ◌||◌, cond, ltb, eqb, List, [], ◌∷◌, Option, Result, Ok, Err, bytes_eq, IsTrue, refl, ap, ap₂, ◌∙◌, arith}
use Rattle.std.specs.List.{AllByRecursion, list_any, IsDistinct}
use Rattle.std.proofs.lemmas.Bool.{cond-false, le-ltb, ne_eqb}
use Rattle.ssz_types.specs.declared.format.Format.{Format}
use Rattle.ssz_types.specs.declared.schema_fault.SchemaFault.{SchemaFault}
use Rattle.ssz_types.specs.Types.{SszType, Fields, Options, uint, boolean, container, vector, list, bitvector, bitlist, union, no_fields, field, no_options, none_option, option}
use Rattle.ssz_types.specs.Sizes.{option_count, nesting, type_levels, default_length}
use Rattle.ssz_types.specs.Names.{is_name}
use Rattle.ssz_types.specs.Legal.{IsLegal, AreLegalFields, AreLegalOptions, IsWithinLimits, IsNoneFirst, HasNoNone, field_names, greatest_limit, most_levels, is_wrong_size}
use Rattle.ssz_schema.specs.Forms.{option_form_count}
use Rattle.ssz_schema.specs.Walk.{◌>>=◌, within_limits, of_length, of_limit, resolved, resolved_fields, resolved_options}
use Rattle.ssz_schema.specs.Accepting.{form_written, fields_written, options_written, AcceptedAreLegal, LegalAreAccepted}
use Rattle.ssz_schema.proofs.ResolvedLaw.{AreApart, type_is_legal}

pub accepted_are_legal : AcceptedAreLegal
accepted_are_legal format known legal form t e = type_is_legal format known legal form t e

-- a guard that does not hold lets through
passed : {A : Type 0} (b : Bool) (d : SchemaFault) (r : Result A SchemaFault) → b ≡ false
    → cond b (Err d) r ≡ r
passed b d r e = cond-false b (Err d) r e

-- the parts first
then : {A B : Type 0} (r : Result A SchemaFault) (x : A) (f : A → Result B SchemaFault)
    → r ≡ Ok x → (r >>= f) ≡ f x
then r x f e = ap (λ s. s >>= f) e

names_pass : (b : Bool) → IsTrue b → not b ≡ false
names_pass true h = refl
names_pass false h = cc

-- as many forms as options
written-count : (os : Options) → option_form_count (options_written os) ≡ option_count os
written-count no_options = refl
written-count (none_option os) = ap (λ n. n + 1) (written-count os)
written-count (option t os) = ap (λ n. n + 1) (written-count os)

right_size : (count : ℕ) → 0 < count → count ≤ 128 → is_wrong_size count ≡ false
right_size count some few = ap₂ ◌||◌ (ne_eqb count 0 (λ none. omega arith)) (le-ltb 128 count few)

module _ (format : Format) where
  within_passes : (t : SszType) → IsWithinLimits format t → within_limits format t ≡ Ok t
  within_passes t h =
      passed (ltb 32 (nesting t)) _ _ (le-ltb 32 (nesting t) h.nesting)
      ∙ passed (ltb (most_levels format) (type_levels t)) _ _
      (le-ltb (most_levels format) (type_levels t) h.levels)
      ∙ passed (ltb (2 ^ 24) (default_length t)) _ _
      (le-ltb (2 ^ 24) (default_length t) h.default_length)

  length_passes : (n : ℕ) (t : SszType) → 0 < n → IsWithinLimits format t
      → of_length format n t ≡ Ok t
  length_passes n t some h =
      passed (eqb n 0) _ _ (ne_eqb n 0 (λ none. omega arith)) ∙ within_passes t h

  limit_passes : (limit : ℕ) (t : SszType) → limit ≤ greatest_limit format
      → IsWithinLimits format t → of_limit format limit t ≡ Ok t
  limit_passes limit t few h =
      passed (ltb (greatest_limit format) limit) _ _ (le-ltb (greatest_limit format) limit few)
      ∙ within_passes t h

  -- the first of fields that are apart from these names is none of them, and the others are apart
  fresh : (names : List (List ℕ)) (name : List ℕ) (t : SszType) (fs : Fields)
      → AreApart format names (field name t fs)
      → list_any (λ seen. bytes_eq seen name) names ≡ false
  fresh [] name t fs h = refl
  fresh (n ∷ names) name t fs h = ap₂ ◌||◌ h.0.0 (fresh names name t fs h.1)

  apart_rest : (names : List (List ℕ)) (name : List ℕ) (t : SszType) (fs : Fields)
      → AreApart format names (field name t fs) → AreApart format names fs
  apart_rest [] name t fs h = tt
  apart_rest (n ∷ names) name t fs h = (h.0.1, apart_rest names name t fs h.1)

  first_apart : (name : List ℕ) (t : SszType) (fs : Fields)
      → IsDistinct bytes_eq (field_names (field name t fs))
      → AllByRecursion (λ y. bytes_eq name y ≡ false) (field_names fs)
      × IsDistinct bytes_eq (field_names fs)
  unfolding IsDistinct
  first_apart name t fs h = (h.0, h.1)

  module _ (known : List ℕ → Option SszType) where
    mutual
      accepted : (t : SszType) → IsLegal format t → resolved format known (form_written t) ≡ Ok t
      accepted (uint w) legal = refl
      accepted boolean legal = refl
      accepted (container no_fields) legal = absurd (omega (arith, legal.0))
      accepted (container (field name t fs)) legal =
          then (resolved_fields format known [] (fields_written (field name t fs)))
          (field name t fs) (λ fields. within_limits format (container fields))
          (accepted_fields (field name t fs) [] legal.1 legal.2 tt)
          ∙ within_passes (container (field name t fs)) legal.3
      accepted (vector t n) legal =
          then (resolved format known (form_written t)) t
          (λ elem. of_length format n (vector elem n))
          (accepted t legal.0) ∙ length_passes n (vector t n) legal.1 legal.2
      accepted (list t limit) legal =
          then (resolved format known (form_written t)) t
          (λ elem. of_limit format limit (list elem limit)) (accepted t legal.0)
          ∙ limit_passes limit (list t limit) legal.1 legal.2
      accepted (bitvector n) legal = length_passes n (bitvector n) legal.0 legal.1
      accepted (bitlist limit) legal = limit_passes limit (bitlist limit) legal.0 legal.1
      accepted (union os) legal =
          let counted : is_wrong_size (option_form_count (options_written os)) ≡ false =
          ap is_wrong_size (written-count os) ∙ right_size (option_count os) legal.0 legal.1 in
          then (cond (is_wrong_size (option_form_count (options_written os))) (Err _)
          (resolved_options format known true (options_written os))) os
          (λ options. within_limits format (union options))
          (passed _ _ _ counted ∙ accepted_options os true legal.3 legal.2)
          ∙ within_passes (union os) legal.4

      accepted_fields : (fs : Fields) (names : List (List ℕ)) → AreLegalFields format fs
          → IsDistinct bytes_eq (field_names fs) → AreApart format names fs
          → resolved_fields format known names (fields_written fs) ≡ Ok fs
      accepted_fields no_fields names legal distinct apart = refl
      accepted_fields (field name t fs) names legal distinct apart =
          let first = first_apart name t fs distinct in
          passed (not (is_name name)) _ _ (names_pass (is_name name) legal.0)
          ∙ passed (list_any (λ seen. bytes_eq seen name) names) _ _
          (fresh names name t fs apart)
          ∙ then (resolved format known (form_written t)) t _ (accepted t legal.1)
          ∙ then (resolved_fields format known (name ∷ names) (fields_written fs)) fs
          (λ fields. Ok (field name t fields))
          (accepted_fields fs (name ∷ names) legal.2 first.1
          (first.0, apart_rest names name t fs apart))

      accepted_options : (os : Options) (is_first : Bool) → AreLegalOptions format os
          → cond is_first (IsNoneFirst os) (HasNoNone os)
          → resolved_options format known is_first (options_written os) ≡ Ok os
      accepted_options no_options is_first legal place = refl
      accepted_options (none_option os) false legal place = absurd place
      accepted_options (none_option os) true legal place =
          then (resolved_options format known false (options_written os)) os
          (λ options. Ok (none_option options)) (accepted_options os false legal place)
      accepted_options (option t os) is_first legal place =
          then (resolved format known (form_written t)) t _ (accepted t legal.0)
          ∙ then (resolved_options format known false (options_written os)) os
          (λ options. Ok (option t options))
          (accepted_options os false legal.1 (others is_first place))
        where
          others : (is_first : Bool)
              → cond is_first (IsNoneFirst (option t os)) (HasNoNone (option t os))
              → HasNoNone os
          others true place = place
          others false place = place

pub legal_are_accepted : LegalAreAccepted
legal_are_accepted format known t legal = accepted format known t legal
