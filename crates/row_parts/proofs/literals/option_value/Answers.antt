use Rattle.std.proofs.Common.{sym, ◌∙◌, ap, subst, ◌≡◌, Some, None, option_map}
use Rattle.std.proofs.lemmas.Option.{same_Some}
use Rattle.ssz_schema.specs.declared.path.PathStep.TheVariants.{Option as Chosen}
use Rattle.ssz_schema.specs.Unfolding.{type_of}
use Rattle.ssz_schema.specs.Paths.{step_type}
use Rattle.ssz_value.specs.Suiting.{IsInner}
use Rattle.row_parts.proofs.Options.{inner_there, no_inner_there}
use Rattle.row_parts.proofs.literals.option_value.Goals as goal

pub returns-in-Some-step_type : goal.returns-in-Some-step_type
returns-in-Some-step_type c = λ x is.
    (let types = c.args.schema.now in
    let typed : step_type (type_of types c.in-Some.id) (Chosen c.args.selector)
    ≡ Some (type_of types c.in-Some-step_type.option) =
    sym c.step_type.ensures.exact ∙ ap (option_map (type_of types)) c.in-Some-step_type.is in
    subst (λ id. IsInner (type_of types id) c.args.selector
    (Some c.in_ok-value_of-in-Some-step_type.field-0))
    (same_Some c.in-Some.id x (sym c.in-Some.is ∙ is))
    (inner_there (type_of types c.in-Some.id) (type_of types c.in-Some-step_type.option)
    c.args.selector c.in_ok-value_of-in-Some-step_type.field-0 typed
    c.in_ok-value_of-in-Some-step_type.ensures))

pub returns : goal.returns
returns c = λ x is.
    (let types = c.args.schema.now in
    let none : step_type (type_of types c.in-Some.id) (Chosen c.args.selector) ≡ None =
    sym c.step_type.ensures.exact ∙ ap (option_map (type_of types)) c.in-None.is in
    subst (λ id. IsInner (type_of types id) c.args.selector None)
    (same_Some c.in-Some.id x (sym c.in-Some.is ∙ is))
    (no_inner_there (type_of types c.in-Some.id) c.args.selector none))
