use Rattle.std.proofs.Common.{◌≤◌, ◌<◌, Some, length, refl, sym, ap, ◌∙◌, arith}
use Rattle.std.proofs.lemmas.Option.{slice_get_past, slice_get_read}
use Rattle.std.specs.Option.{option_map}
use Rattle.ssz_schema.specs.Unfolding.{tree_over}
use Rattle.ssz_typed.specs.Fields.{field_name}
use Rattle.ssz_typed.proofs.FieldNames.{name-at-over}
use Rattle.ssz_typed.proofs.naming_fields.name_at.Goals as goal

pub returns-then-place-len : goal.returns-then-place-len
returns-then-place-len c =
    let trees = c.args.schema.now.trees in
    let parts = c.in-Container.fields.items in
    let place = c.args.place in
    let len = c.len.ensures in
    let behind = c.if-place-len.true in
    let past : length parts ≤ place = omega arith in
    sym (ap (λ t. field_name t place)
    (sym c.ty.ensures.form ∙ ap (tree_over trees) c.in-Container.is)
    ∙ name-at-over trees parts place
    ∙ ap (option_map (λ part. part.0)) (slice_get_past parts place past))

pub returns-else-place-len : goal.returns-else-place-len
returns-else-place-len c =
    let trees = c.args.schema.now.trees in
    let parts = c.in-Container.fields.items in
    let place = c.args.place in
    let len = c.len.ensures in
    let before = c.if-place-len.false in
    let within : place < length parts = omega arith in
    ap Some c.as_bytes.ensures
    ∙ sym (ap (λ t. field_name t place)
    (sym c.ty.ensures.form ∙ ap (tree_over trees) c.in-Container.is)
    ∙ name-at-over trees parts place
    ∙ ap (option_map (λ part. part.0))
    (slice_get_read parts (length parts) place c.index.result.now refl within c.index.ensures))
