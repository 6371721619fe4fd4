-- The items of definitions and fields are joined.
use Rattle.std.proofs.Common.{◌≡◌, ℕ, List, [], ◌∷◌, ◌++◌, refl, ap, Option, Some, None, option_map}
use Rattle.std.specs.Prelude.{option_and_then}
use Rattle.serde_json.specs.Data.{Data, string, array, Items, no_items, item}
use Rattle.ssz_schema.specs.expr.TypeExpr.{TypeExpr}
use Rattle.ssz_schema.specs.Forms.{TypeForm, FieldForms, no_field_forms, field_form, form_of}
use Rattle.ssz_schema_json.specs.Document.{written_form, written_fields}
use Rattle.ssz_schema_json.specs.Views.{fields_view}
use Rattle.ssz_schema_json.proofs.Items.{Joins, join}

abbrev append : FieldForms → FieldForms → FieldForms
append no_field_forms more = more
append (field_form name form rest) more = field_form name form (append rest more)

first_item : (d : Data) (rest : Items)
    → written_fields (item d rest)
    ≡ join append (written_fields (item d no_items)) (written_fields rest)
first_item (array (item (string name) (item form no_items))) rest = go (written_form form)
  where
    go : (o : Option TypeForm)
        → option_and_then (λ f. option_map (field_form name f) (written_fields rest)) o
        ≡ join append
        (option_and_then (λ f. option_map (field_form name f) (Some no_field_forms)) o)
        (written_fields rest)
    go None = refl
    go (Some f) = refl
first_item _ rest = refl

one_more : (done : List (List ℕ × TypeExpr)) (p : List ℕ × TypeExpr) (more : FieldForms)
    → append (fields_view (done ++ p ∷ [])) more
    ≡ append (fields_view done) (append (fields_view (p ∷ [])) more)
one_more [] p more = refl
one_more (q ∷ done) p more = ap (field_form q.0 (form_of q.1)) (one_more done p more)

none_after : (forms : FieldForms) → append forms no_field_forms ≡ forms
none_after no_field_forms = refl
none_after (field_form name form rest) = ap (field_form name form) (none_after rest)

-- fields are read item by item
pub fields : Joins written_fields fields_view
fields = record {
  append = append;
  none_before = λ forms. refl;
  none_after = none_after;
  one_more = one_more;
  no_item = refl;
  first_item = first_item;
}
