-- That definitions are accepted of the legal types, and of no others.
use Rattle.std.specs.Prelude.{ℕ, ◌≡◌, List, Option, Some, Ok}
use Rattle.ssz_types.specs.declared.format.Format.{Format}
use Rattle.ssz_types.specs.Types.{SszType, Fields, Options, uint, boolean, container, vector, list, bitvector, bitlist, union, no_fields, field, no_options, none_option, option}
use Rattle.ssz_types.specs.Legal.{IsLegal}
use Rattle.ssz_schema.specs.Forms.{TypeForm, FieldForms, OptionForms, uint_form, boolean_form, container_form, vector_form, list_form, bitvector_form, bitlist_form, union_form, no_field_forms, field_form, no_option_forms, none_form, option_form}
use Rattle.ssz_schema.specs.Walk.{resolved}

abbrev mutual
  -- a type, written in full
  pub form_written : SszType → TypeForm
  form_written (uint w) = uint_form w
  form_written boolean = boolean_form
  form_written (container fs) = container_form (fields_written fs)
  form_written (vector t n) = vector_form (form_written t) n
  form_written (list t limit) = list_form (form_written t) limit
  form_written (bitvector n) = bitvector_form n
  form_written (bitlist limit) = bitlist_form limit
  form_written (union os) = union_form (options_written os)

  pub fields_written : Fields → FieldForms
  fields_written no_fields = no_field_forms
  fields_written (field name t fs) = field_form name (form_written t) (fields_written fs)

  pub options_written : Options → OptionForms
  options_written no_options = no_option_forms
  options_written (none_option os) = none_form (options_written os)
  options_written (option t os) = option_form (form_written t) (options_written os)

-- where names stand for legal types, a form that is accepted is one of a legal type
abbrev pub AcceptedAreLegal : Type 0
AcceptedAreLegal = (format : Format) (known : List ℕ → Option SszType)
    → ((name : List ℕ) (t : SszType) → known name ≡ Some t → IsLegal format t)
    → (form : TypeForm) (t : SszType) → resolved format known form ≡ Ok t → IsLegal format t

-- and each legal type, written in full, is accepted
abbrev pub LegalAreAccepted : Type 0
LegalAreAccepted = (format : Format) (known : List ℕ → Option SszType) (t : SszType)
    → IsLegal format t → resolved format known (form_written t) ≡ Ok t
