-- Types as they are written in a definition, where a name stands for
-- a type (this project's schema form).
use Rattle.std.specs.Prelude.{ℕ, ◌+◌, List, [], ◌∷◌, Option, Some, None}
use Rattle.ssz_types.specs.declared.width.Width.{Width}
use Rattle.ssz_types.specs.declared.expr.TypeExpr.{TypeExpr}
use Rattle.ssz_types.specs.declared.expr.TypeExpr.TheOpen.{TypeExpr-F, Named, Uint, Boolean, Container, Vector, List as ListOf, Bitvector, Bitlist, Union}
use Rattle.ssz_types.specs.declared.expr.TypeExpr.TheFolds.{fold-TypeExpr}

mutual
  -- a type as it is written
  pub data TypeForm : Type 0 where
    named : List ℕ → TypeForm
    uint_form : Width → TypeForm
    boolean_form : TypeForm
    container_form : FieldForms → TypeForm
    vector_form : TypeForm → ℕ → TypeForm
    list_form : TypeForm → ℕ → TypeForm
    bitvector_form : ℕ → TypeForm
    bitlist_form : ℕ → TypeForm
    union_form : OptionForms → TypeForm

  -- the fields of a container, each with its name
  pub data FieldForms : Type 0 where
    no_field_forms : FieldForms
    field_form : List ℕ → TypeForm → FieldForms → FieldForms

  -- the options of a union; `none_form` is None
  pub data OptionForms : Type 0 where
    no_option_forms : OptionForms
    none_form : OptionForms → OptionForms
    option_form : TypeForm → OptionForms → OptionForms

abbrev pub option_form_count : OptionForms → ℕ
option_form_count no_option_forms = 0
option_form_count (none_form os) = option_form_count os + 1
option_form_count (option_form f os) = option_form_count os + 1

-- The form that a type expression of the program stands for.

abbrev pub field_forms : List (List ℕ × TypeForm) → FieldForms
field_forms [] = no_field_forms
field_forms (f ∷ fs) = field_form f.0 f.1 (field_forms fs)

abbrev pub option_forms : List (Option TypeForm) → OptionForms
option_forms [] = no_option_forms
option_forms (None ∷ os) = none_form (option_forms os)
option_forms (Some f ∷ os) = option_form f (option_forms os)

-- one layer, with the form of each part in its place
abbrev pub form_step : TypeExpr-F TypeForm → TypeForm
form_step (Named name) = named name
form_step (Uint w) = uint_form w
form_step Boolean = boolean_form
form_step (Container fields) = container_form (field_forms fields.items)
form_step (Vector elem n) = vector_form elem.value n
form_step (ListOf elem limit) = list_form elem.value limit
form_step (Bitvector n) = bitvector_form n
form_step (Bitlist limit) = bitlist_form limit
form_step (Union options) = union_form (option_forms options.items)

abbrev pub form_of : TypeExpr → TypeForm
form_of = fold-TypeExpr TypeForm form_step

abbrev pub field_form_of : List ℕ × TypeExpr → List ℕ × TypeForm
field_form_of field = (field.0, form_of field.1)
