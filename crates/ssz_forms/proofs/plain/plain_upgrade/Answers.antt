use Rattle.std.proofs.Common.{◌∙◌, ◌<◌, List, length, map, sym, ap, subst}
use Rattle.std.specs.List.{AllByRecursion}
use Rattle.ssz_schema.specs.Types.{container}
use Rattle.ssz_schema.specs.Unfolding.{tree_over, fields_over, type_of, AreBelow}
use Rattle.ssz_value.specs.declared.value.Value.{Value}
use Rattle.ssz_value.specs.Standing.{value_of, IsValue}
use Rattle.ssz_value.specs.Shapes.{AreFields}
use Rattle.ssz_value.proofs.FormLemmas.{seq_fields}
use Rattle.ssz_value.proofs.PartLemmas.{Part, known_weaker}
use Rattle.ssz_forms.specs.Taking.{AreUpgraded}
use Rattle.ssz_forms.proofs.Upgrading.{plain_done}
use Rattle.ssz_forms.proofs.plain.plain_upgrade.Goals as goal

pub upgraded_parts-requires-clause-parts : goal.upgraded_parts-requires-clause-parts
upgraded_parts-requires-clause-parts c =
    let trees = c.args.schema.now.trees in
    let form = sym c.ty.ensures.form ∙ ap (tree_over trees) c.in-Container.is
    ∙ ap (λ (parts : List Part). container (fields_over trees parts))
    (sym c.as_slice-3.ensures.value) in
    subst (AreFields (fields_over trees c.as_slice-3.result.now)) (sym c.as_slice-5.ensures.value)
    (seq_fields (fields_over trees c.as_slice-3.result.now) c.in-Seq.parts
    (subst (IsValue (container (fields_over trees c.as_slice-3.result.now))) c.in-Seq.is
    (subst (λ t. IsValue t c.args.value.now) form c.requires.value)))

pub returns : goal.returns
returns c =
    let trees = c.args.schema.now.trees in
    let form_old = sym c.ty.ensures.form ∙ ap (tree_over trees) c.in-Container.is
    ∙ ap (λ (parts : List Part). container (fields_over trees parts))
    (sym c.as_slice-3.ensures.value) in
    let form_new = sym c.ty-2.ensures.form ∙ ap (tree_over trees) c.in-Container-ty.is
    ∙ ap (λ (parts : List Part). container (fields_over trees parts))
    (sym c.as_slice-4.ensures.value) in
    let made = subst (λ (vs : List Value).
    AreUpgraded (fields_over trees c.as_slice-3.result.now) (map value_of vs)
    (fields_over trees c.as_slice-4.result.now) c.in_ok-made.made.items)
    c.as_slice-5.ensures.value c.in_ok-made.ensures in
    plain_done (type_of c.args.schema.now c.args.from) (type_of c.args.schema.now c.args.to)
    (fields_over trees c.as_slice-3.result.now) (fields_over trees c.as_slice-4.result.now)
    c.args.value.now c.in-Seq.parts c.in_ok-made.made form_old form_new c.in-Seq.is made

pub fields_taken-requires-clause-old : goal.fields_taken-requires-clause-old
fields_taken-requires-clause-old c =
    let known = λ (parts : List Part). AllByRecursion (λ (part : Part).
    part.1 < length c.args.schema.now.trees) parts in
    subst known (sym c.as_slice.ensures.value)
    (known_weaker c.args.from (length c.args.schema.now.trees) c.in-Container.old.items
    c.requires.from (subst (AreBelow c.args.from) c.in-Container.is c.ty.ensures.before))

pub fields_taken-requires-clause-new : goal.fields_taken-requires-clause-new
fields_taken-requires-clause-new c =
    let known = λ (parts : List Part). AllByRecursion (λ (part : Part).
    part.1 < length c.args.schema.now.trees) parts in
    subst known (sym c.as_slice-2.ensures.value)
    (known_weaker c.args.to (length c.args.schema.now.trees) c.in-Container-ty.new.items
    c.requires.to (subst (AreBelow c.args.to) c.in-Container-ty.is c.ty-2.ensures.before))

pub upgraded_parts-requires-clause-new : goal.upgraded_parts-requires-clause-new
upgraded_parts-requires-clause-new c =
    let known = λ (parts : List Part). AllByRecursion (λ (part : Part).
    part.1 < length c.args.schema.now.trees) parts in
    subst known (sym c.as_slice-4.ensures.value)
    (known_weaker c.args.to (length c.args.schema.now.trees) c.in-Container-ty.new.items
    c.requires.to (subst (AreBelow c.args.to) c.in-Container-ty.is c.ty-2.ensures.before))
