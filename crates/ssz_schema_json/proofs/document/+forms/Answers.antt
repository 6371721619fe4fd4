use Rattle.std.proofs.Common.{◌∙◌, List, [], ◌∷◌, ℕ, ap, sym, Option, Some, option_map, string_bytes, Vec, Global}
use Rattle.std.proofs.lemmas.Result.{err_from_is_err_and}
use Rattle.std.specs.Box.{box_value}
use Rattle.std.specs.Prelude.{Box}
use Rattle.serde_json.specs.Data.{item, no_items}
use Rattle.serde_json.specs.View.{view}
use Rattle.ssz_schema.specs.expr.TypeExpr.{TypeExpr}
use Rattle.ssz_schema.specs.Forms.{TypeForm, FieldForms, form_of, field_form, no_field_forms}
use Rattle.ssz_schema_json.specs.Document.{written_form, written_fields, written_options}
use Rattle.ssz_schema_json.specs.Views.{fields_view, options_view}
use Rattle.ssz_schema_json.proofs.Answering.{passed_on}
use Rattle.ssz_schema_json.proofs.Fields.{fields}
use Rattle.ssz_schema_json.proofs.Items.{reads_start, reads_more, reads_stop, reads_end}
use Rattle.ssz_schema_json.proofs.Objects.{not_one-form}
use Rattle.ssz_schema_json.proofs.Options.{options}
use Rattle.ssz_schema_json.proofs.Pairs.{not_two-field, pair-field, not_two-sized, pair-sized}
use Rattle.ssz_schema_json.proofs.document.+forms.Goals as goal

pub object_form-returns-in_default : goal.object_form-returns-in_default
object_form-returns-in_default t c = not_one-form c.args.members.entries c.in_default.ensures.none

pub fields_of-loop-item-init : goal.fields_of-loop-item-init
fields_of-loop-item-init t c =
    let gives = c.into_iter-item-iterator.ensures.into_iter_gives in
    rw c.in_ok-fields.ensures.items
    (reads_start fields _ _ gives.0 (gives.1 ∙ c.args.items.ok.0))

pub fields_of-returns-in_err-field_of : goal.fields_of-returns-in_err-field_of
fields_of-returns-in_err-field_of t c =
    let residual = c.from_residual-in_err-field_of in
    let p = err_from_is_err_and residual.result residual.ensures.1 in
    rw (p.1, p.2) (passed_on
    (λ p. fields_view (p ∷ [])) (written_fields (item (view c.in-Some.item) no_items))
    (λ (v : Vec (List ℕ × TypeExpr) Global). fields_view v.items) _
    c.in_err-field_of.field-0.0 c.in_err-field_of.ensures
    (reads_stop fields _ c.loop-item.item-iterator c.next.new.self _ _
    c.loop-item.invariant c.in-Some.ensures.steps))

pub fields_of-loop-item-preserved : goal.fields_of-loop-item-preserved
fields_of-loop-item-preserved t c =
    rw c.in_ok-push.ensures.items
    (reads_more fields _ _ _ _ _ _ c.loop-item.invariant c.in-Some.ensures.steps
    c.in_ok-field_of.ensures)

pub fields_of-returns : goal.fields_of-returns
fields_of-returns t c = reads_end fields _ _ _ c.loop-item.invariant c.in-None.ensures.steps.0

pub field_of-returns-in_default-two : goal.field_of-returns-in_default-two
field_of-returns-in_default-two t c =
    not_two-field c.args.value c.in-Array.items c.in-Array.is c.in_default-two.ensures.none

pub field_of-returns-in_err-form : goal.field_of-returns-in_err-form
field_of-returns-in_err-form t c =
    let p = err_from_is_err_and c.from_residual.result c.from_residual.ensures.1 in
    let read = pair-field c.args.value c.in-Array.items c.in-Some.name c.in-Some.form
    c.in-String.name c.in-Array.is c.in-Some.ensures.found c.in-String.is in
    let named : TypeForm → FieldForms =
    λ f. field_form (string_bytes c.in-String.name) f no_field_forms in
    rw (p.1, p.2) (passed_on
    form_of (written_form (view c.in-Some.form)) (λ p. fields_view (p ∷ [])) _
    c.in_err-form.field-0.0 c.in_err-form.ensures (λ none. read ∙ ap (option_map named) none))

pub field_of-returns : goal.field_of-returns
field_of-returns t c =
    let read = pair-field c.args.value c.in-Array.items c.in-Some.name c.in-Some.form
    c.in-String.name c.in-Array.is c.in-Some.ensures.found c.in-String.is in
    let named : TypeForm → FieldForms =
    λ f. field_form (string_bytes c.in-String.name) f no_field_forms in
    read ∙ ap (option_map named) c.in_ok-form.ensures
    ∙ ap (λ name. Some (field_form name (form_of c.in_ok-form.form) no_field_forms))
    (sym c.name_of.ensures)

pub sized_of-returns-in_default : goal.sized_of-returns-in_default
sized_of-returns-in_default t c = not_two-sized c.args.items.items c.in_default.ensures.none

pub sized_of-returns-in_err-elem : goal.sized_of-returns-in_err-elem
sized_of-returns-in_err-elem t c =
    let p = err_from_is_err_and c.from_residual.result c.from_residual.ensures.1 in
    let n = c.in-Some-as_u64.number in
    let read = pair-sized c.args.items.items c.in-Some.elem c.in-Some.number n
    c.in-Some.ensures.found c.in-Some-as_u64.ensures in
    rw (p.1, p.2) (passed_on form_of (written_form (view c.in-Some.elem))
    (λ (p : Box TypeExpr Global × ℕ). (form_of (box_value p.0), p.1)) _
    c.in_err-elem.field-0.0 c.in_err-elem.ensures
    (λ none. read ∙ ap (option_map (λ f. (f, n))) none))

pub sized_of-returns : goal.sized_of-returns
sized_of-returns t c =
    let n = c.in-Some-as_u64.number in
    let read = pair-sized c.args.items.items c.in-Some.elem c.in-Some.number n
    c.in-Some.ensures.found c.in-Some-as_u64.ensures in
    read ∙ ap (option_map (λ f. (f, n))) c.in_ok-elem.ensures
    ∙ ap (λ (e : TypeExpr). Some (form_of e, n)) (sym c.in_ok-new.ensures.ok)

pub options_of-loop-item-init : goal.options_of-loop-item-init
options_of-loop-item-init t c =
    let gives = c.into_iter-item-iterator.ensures.into_iter_gives in
    rw c.in_ok-options.ensures.items
    (reads_start options _ _ gives.0 (gives.1 ∙ c.args.items.ok.0))

pub options_of-returns-in_err-option_of : goal.options_of-returns-in_err-option_of
options_of-returns-in_err-option_of t c =
    let residual = c.from_residual-in_err-option_of in
    let p = err_from_is_err_and residual.result residual.ensures.1 in
    rw (p.1, p.2) (passed_on
    (λ o. options_view (o ∷ [])) (written_options (item (view c.in-Some.item) no_items))
    (λ (v : Vec (Option TypeExpr) Global). options_view v.items) _
    c.in_err-option_of.field-0.0 c.in_err-option_of.ensures
    (reads_stop options _ c.loop-item.item-iterator c.next.new.self _ _
    c.loop-item.invariant c.in-Some.ensures.steps))

pub options_of-loop-item-preserved : goal.options_of-loop-item-preserved
options_of-loop-item-preserved t c =
    rw c.in_ok-push.ensures.items
    (reads_more options _ _ _ _ _ _ c.loop-item.invariant c.in-Some.ensures.steps
    c.in_ok-option_of.ensures)

pub options_of-returns : goal.options_of-returns
options_of-returns t c = reads_end options _ _ _ c.loop-item.invariant c.in-None.ensures.steps.0
