-- The walk of a definition: the type that it gives, or its first fault
-- (this project's order of faults).
use Rattle.std.specs.Prelude.{ℕ, nat_lt, nat_eq, not, Bool, true, false, if◌then◌else◌, List, [], ◌∷◌, Option, Some, None, is_some, Result, Ok, Err, bytes_eq}
use Rattle.std.specs.List.{list_any}
pub use Rattle.ssz_bind.specs.Results.{◌>>=◌}
use Rattle.ssz_types.specs.declared.format.Format.{Format}
use Rattle.ssz_types.specs.declared.schema_fault.SchemaFault.{SchemaFault}
use Rattle.ssz_types.specs.declared.schema_fault.SchemaFault.TheVariants.{BadName, NameTaken, UnknownName, ZeroLength, EmptyContainer, NonePlace, UnionSize, FieldTaken, LimitTooBig, Nest, Levels, Size}
use Rattle.ssz_types.specs.Types.{SszType, Fields, Options, uint, boolean, container, vector, list, bitvector, bitlist, union, no_fields, field, no_options, none_option, option}
use Rattle.ssz_types.specs.Sizes.{nesting, type_levels, default_length}
use Rattle.ssz_types.specs.Names.{is_name}
use Rattle.ssz_types.specs.Legal.{greatest_limit, most_levels, most_nesting, most_default, is_wrong_size}
use Rattle.ssz_schema.specs.Forms.{TypeForm, FieldForms, OptionForms, named, uint_form, boolean_form, container_form, vector_form, list_form, bitvector_form, bitlist_form, union_form, no_field_forms, field_form, no_option_forms, none_form, option_form, option_form_count}

abbrev pub ok_or_unknown : Option SszType → Result SszType SchemaFault
ok_or_unknown None = Err UnknownName
ok_or_unknown (Some t) = Ok t

module _ (format : Format) where
  -- the type, if it keeps the limits
  abbrev pub within_limits : SszType → Result SszType SchemaFault
  within_limits t =
      if nat_lt most_nesting (nesting t) then Err Nest
      else if nat_lt (most_levels format) (type_levels t) then Err Levels
      else if nat_lt most_default (default_length t) then Err Size
      else Ok t

  -- a vector or bitvector of n elements has some
  abbrev pub of_length : ℕ → SszType → Result SszType SchemaFault
  of_length n t = if nat_eq n 0 then Err ZeroLength else within_limits t

  -- a list or bitlist has no limit above the greatest
  abbrev pub of_limit : ℕ → SszType → Result SszType SchemaFault
  of_limit limit t =
      if nat_lt (greatest_limit format) limit then Err LimitTooBig else within_limits t

  -- known gives the type of a name
  module _ (known : List ℕ → Option SszType) where
    abbrev mutual
      -- the type that a form is, or its first fault
      pub resolved : TypeForm → Result SszType SchemaFault
      resolved (named name) = ok_or_unknown (known name)
      resolved (uint_form w) = Ok (uint w)
      resolved boolean_form = Ok boolean
      resolved (container_form no_field_forms) = Err EmptyContainer
      resolved (container_form (field_form name f fs)) = do
        fields ← resolved_fields [] (field_form name f fs)
        within_limits (container fields)
      resolved (vector_form f n) = do
        elem ← resolved f
        of_length n (vector elem n)
      resolved (list_form f limit) = do
        elem ← resolved f
        of_limit limit (list elem limit)
      resolved (bitvector_form n) = of_length n (bitvector n)
      resolved (bitlist_form limit) = of_limit limit (bitlist limit)
      resolved (union_form os) = do
        options ← (if is_wrong_size (option_form_count os) then Err UnionSize
            else resolved_options true os)
        within_limits (union options)

      -- of the fields that stand after those of these names
      pub resolved_fields : List (List ℕ) → FieldForms → Result Fields SchemaFault
      resolved_fields names no_field_forms = Ok no_fields
      resolved_fields names (field_form name f fs) =
          if not (is_name name) then Err BadName
          else if list_any (λ seen. bytes_eq seen name) names then Err FieldTaken
          else do
            t ← resolved f
            fields ← resolved_fields (name ∷ names) fs
            Ok (field name t fields)

      -- of options, with the first of the union among them or not
      pub resolved_options : Bool → OptionForms → Result Options SchemaFault
      resolved_options first no_option_forms = Ok no_options
      resolved_options first (none_form os) =
          if first then (do options ← resolved_options false os; Ok (none_option options))
          else Err NonePlace
      resolved_options first (option_form f os) = do
        t ← resolved f
        options ← resolved_options false os
        Ok (option t options)

    -- the type that a definition of this name and form gives, or its first fault
    abbrev pub defined : List ℕ → TypeForm → Result SszType SchemaFault
    defined name form =
        if not (is_name name) then Err BadName
        else if is_some (known name) then Err NameTaken
        else resolved form

    -- one field, where an earlier one has its name or none has
    abbrev pub resolved_field : Bool → List ℕ × TypeForm → Result (List ℕ × SszType) SchemaFault
    resolved_field is_repeat written =
        if not (is_name written.0) then Err BadName
        else if is_repeat then Err FieldTaken
        else (do t ← resolved written.1; Ok (written.0, t))

    -- one option, the first or another
    abbrev pub resolved_option : Bool → Option TypeForm → Result (Option SszType) SchemaFault
    resolved_option first None = if first then Ok None else Err NonePlace
    resolved_option first (Some f) = do
      t ← resolved f
      Ok (Some t)
