use Rattle.std.proofs.Common.{ℕ, List, Option, None, get_or, sym, ap, ◌∙◌, subst}
use Rattle.ssz_schema.proofs.StepLemmas.{Part}
use Rattle.ssz_schema.specs.Unfolding.{AreBelow, tree_over}
use Rattle.ssz_typed.specs.Forms.{part_type}
use Rattle.ssz_typed.proofs.PartTypes.{element-part, field-part, number_at, option-part}
use Rattle.ssz_typed.proofs.naming_parts.part_at.Goals as goal

pub returns-in-Container : goal.returns-in-Container
returns-in-Container c =
    field-part c.args.schema.now c.args.id c.args.place c.ty.result.now c.field_at.result
    c.requires c.ty.ensures.form c.ty.ensures.before c.in-Container.fields c.in-Container.is
    (c.field_at.ensures
    ∙ ap (λ (parts : List Part). number_at parts c.args.place) c.as_slice.ensures.value)

pub returns-in-Vector : goal.returns-in-Vector
returns-in-Vector c =
    let tree = sym (ap (tree_over c.args.schema.now.trees) c.in-Vector.is) ∙ c.ty.ensures.form in
    element-part c.args.schema.now c.args.id c.args.place c.ty.result.now c.element_at.result
    c.requires c.ty.ensures.form c.ty.ensures.before c.in-Vector.element
    (subst (AreBelow c.args.id) c.in-Vector.is c.ty.ensures.before)
    (λ n. ap (λ t. part_type t n) tree) c.element_at.ensures

pub returns-in-List : goal.returns-in-List
returns-in-List c =
    let tree = sym (ap (tree_over c.args.schema.now.trees) c.in-List.is) ∙ c.ty.ensures.form in
    element-part c.args.schema.now c.args.id c.args.place c.ty.result.now
    c.element_at-in-List.result c.requires c.ty.ensures.form c.ty.ensures.before c.in-List.element
    (subst (AreBelow c.args.id) c.in-List.is c.ty.ensures.before)
    (λ n. ap (λ t. part_type t n) tree) c.element_at-in-List.ensures

pub returns-in-Union : goal.returns-in-Union
returns-in-Union c =
    option-part c.args.schema.now c.args.id c.args.place c.ty.result.now c.option_at.result
    c.requires c.ty.ensures.form c.ty.ensures.before c.in-Union.options c.in-Union.is
    (c.option_at.ensures
    ∙ ap (λ (ids : List (Option ℕ)). get_or ids c.args.place None)
    c.as_slice-in-Union.ensures.value)
