-- The items of a union's options are joined.
use Rattle.std.proofs.Common.{◌≡◌, List, [], ◌∷◌, ◌++◌, refl, ap, Option, Some, None, option_map}
use Rattle.std.specs.Prelude.{option_and_then}
use Rattle.serde_json.specs.Data.{Data, null, Items, no_items, item}
use Rattle.ssz_schema.specs.expr.TypeExpr.{TypeExpr}
use Rattle.ssz_schema.specs.Forms.{TypeForm, OptionForms, no_option_forms, none_form, option_form, form_of}
use Rattle.ssz_schema_json.specs.Document.{written_form, written_options}
use Rattle.ssz_schema_json.specs.Views.{options_view}
use Rattle.ssz_schema_json.proofs.Items.{Joins, join}

abbrev append : OptionForms → OptionForms → OptionForms
append no_option_forms more = more
append (none_form rest) more = none_form (append rest more)
append (option_form form rest) more = option_form form (append rest more)

first_item : (d : Data) (rest : Items)
    → written_options (item d rest)
    ≡ join append (written_options (item d no_items)) (written_options rest)
first_item null rest = refl
first_item d rest = go (written_form d)
  where
    go : (o : Option TypeForm)
        → option_and_then (λ f. option_map (option_form f) (written_options rest)) o
        ≡ join append (option_and_then (λ f. option_map (option_form f) (Some no_option_forms)) o)
        (written_options rest)
    go None = refl
    go (Some f) = refl

one_more : (done : List (Option TypeExpr)) (o : Option TypeExpr) (more : OptionForms)
    → append (options_view (done ++ o ∷ [])) more
    ≡ append (options_view done) (append (options_view (o ∷ [])) more)
one_more [] None more = refl
one_more [] (Some f) more = refl
one_more (None ∷ done) o more = ap none_form (one_more done o more)
one_more (Some f ∷ done) o more = ap (option_form (form_of f)) (one_more done o more)

none_after : (forms : OptionForms) → append forms no_option_forms ≡ forms
none_after no_option_forms = refl
none_after (none_form rest) = ap none_form (none_after rest)
none_after (option_form form rest) = ap (option_form form) (none_after rest)

-- options are read item by item
pub options : Joins written_options options_view
options = record {
  append = append;
  none_before = λ forms. refl;
  none_after = none_after;
  one_more = one_more;
  no_item = refl;
  first_item = first_item;
}
