use Rattle.std.proofs.Common.{◌∙◌, ◌+◌, ◌≡◌, ap, ap₂, sym, subst, arith, rules, map, sum_by, Some, None, slice_get, ◌<◌}
use Rattle.std.specs.List.{AllByRecursion}
use Rattle.ssz_schema.specs.Types.{SszType, container, union}
use Rattle.ssz_schema.specs.Sizes.{fixed_size, part_length}
use Rattle.ssz_schema.specs.Unfolding.{type_of, tree_over, AreBelow, fields_over, options_over}
use Rattle.ssz_value.specs.Values.{SszValue, number}
use Rattle.ssz_value.specs.Standing.{value_of, IsValue}
use Rattle.ssz_value.specs.Sizes.{size, fields_size}
use Rattle.ssz_value.proofs.ValueLemmas.{seq_is, bytes_are}
use Rattle.ssz_value.proofs.Sequences.{items-values}
use Rattle.ssz_value.proofs.PartLemmas.{Part, field_count_is}
use Rattle.ssz_value.proofs.OptionLemmas.{option_below}
use Rattle.ssz_value.specs.Shapes.{IsSequence, AreFields, parts_of}
use Rattle.ssz_value.specs.Written.{capped}
use Rattle.ssz_value.proofs.FormLemmas.{seq_elements, bytes_elements, seq_fields, chosen_fits, union_inner, chosen_option, value_of_chosen}
use Rattle.ssz_parts.proofs.PartSizes.{fixed_part}
use Rattle.ssz_codec.proofs.LengthLemmas.{SumFrom-more, SumFrom-end, FieldSumFrom-end, sum_of_bytes, option_size_at, fixed_sum}
use Rattle.ssz_codec.proofs.measuring.+length.Goals as goal

pub sequence_len-elements_len-requires : goal.sequence_len-elements_len-requires
sequence_len-elements_len-requires t c =
    let all = seq_elements (type_of c.args.schema.now c.args.elem) c.in-Seq.parts
    (subst (IsSequence (type_of c.args.schema.now c.args.elem)) c.in-Seq.is c.requires.value) in
    let parts : AllByRecursion
    (IsValue (type_of c.args.schema.now c.args.elem)) c.as_slice.result.now =
    subst (AllByRecursion (IsValue (type_of c.args.schema.now c.args.elem)))
    (sym c.as_slice.ensures.value) all in
    search rules

pub sequence_len-returns-in-Seq : goal.sequence_len-returns-in-Seq
sequence_len-returns-in-Seq t c =
    let f = λ (v : SszValue).
    part_length (fixed_size (type_of c.args.schema.now c.args.elem))
    (size (type_of c.args.schema.now c.args.elem) v) in
    let parts : parts_of (value_of c.args.value.now) ≡ map value_of c.as_slice.result.now =
    ap (λ v. parts_of (value_of v)) c.in-Seq.is ∙ ap parts_of (seq_is c.in-Seq.parts)
    ∙ items-values (map value_of c.in-Seq.parts.items)
    ∙ ap (map value_of) (sym c.as_slice.ensures.value) in
    c.elements_len.ensures ∙ sym (ap (λ vs. capped (sum_by f vs)) parts)

pub sequence_len-returns-in-Bytes : goal.sequence_len-returns-in-Bytes
sequence_len-returns-in-Bytes t c =
    let run = c.in-Bytes.run' in
    let byte = bytes_elements (type_of c.args.schema.now c.args.elem) c.in-Bytes.run'
    (subst (IsSequence (type_of c.args.schema.now c.args.elem)) c.in-Bytes.is c.requires.value)
    in
    let parts : parts_of (value_of c.args.value.now) ≡ map number c.in-Bytes.run' =
    ap (λ v. parts_of (value_of v)) c.in-Bytes.is ∙ ap parts_of (bytes_are c.in-Bytes.run')
    ∙ items-values (map number c.in-Bytes.run') in
    let sum = ap₂ (λ ty vs. sum_by (λ (v : SszValue). part_length (fixed_size ty) (size ty v)) vs)
    byte parts ∙ sum_of_bytes c.in-Bytes.run' in
    omega (arith, c.len.ensures, c.len.type_inv, sum)

pub container_len-fields_len-requires : goal.container_len-fields_len-requires
container_len-fields_len-requires t c =
    let fs = fields_over c.args.schema.now.trees c.args.fields.now in
    let all = seq_fields (fields_over c.args.schema.now.trees c.args.fields.now) c.in-Seq.parts
    (subst (IsValue (container (fields_over c.args.schema.now.trees c.args.fields.now)))
    c.in-Seq.is c.requires.value) in
    let parts : AreFields (fields_over c.args.schema.now.trees c.args.fields.now)
    c.as_slice.result.now = subst
    (AreFields (fields_over c.args.schema.now.trees c.args.fields.now))
    (sym c.as_slice.ensures.value) all in
    search rules

pub container_len-returns-in-Seq : goal.container_len-returns-in-Seq
container_len-returns-in-Seq t c =
    let fs = fields_over c.args.schema.now.trees c.args.fields.now in
    let sum : size (container (fields_over c.args.schema.now.trees c.args.fields.now))
    (value_of c.args.value.now)
    ≡ fields_size (fields_over c.args.schema.now.trees c.args.fields.now)
    (map value_of c.as_slice.result.now) =
    ap (λ v. size (container fs) (value_of v)) c.in-Seq.is
    ∙ ap (size (container fs)) (seq_is c.in-Seq.parts)
    ∙ ap (fields_size fs) (items-values (map value_of c.in-Seq.parts.items)
    ∙ ap (map value_of) (sym c.as_slice.ensures.value)) in
    c.fields_len.ensures ∙ sym (ap capped sum)

pub chosen_len-value_len-requires : goal.chosen_len-value_len-requires
chosen_len-value_len-requires t c =
    let here : Some (Some c.in-Some-Some.option)
    ≡ slice_get c.args.options.now c.in-Union.selector =
    ap Some (sym c.in-Some-Some.field-0-is) ∙ sym c.in-Some-Some.is ∙ c.option_at.ensures in
    let inner = union_inner c.args.schema.now.trees c.args.options.now c.args.value.now
    c.in-Union.selector c.in-Union.inner c.in-Some.inner c.in-Union.is c.in-Some.is
    c.requires.value in
    let fits = chosen_fits c.args.schema.now.trees c.args.options.now c.in-Union.selector
    c.in-Some-Some.option c.in-Some.inner inner here in
    let value : IsValue (type_of c.args.schema.now c.in-Some-Some.option) c.deref.result.now =
    subst (IsValue (type_of c.args.schema.now c.in-Some-Some.option))
    (sym c.deref.ensures) fits in
    let below : c.in-Some-Some.option < c.args.id =
    option_below c.args.options.now c.in-Union.selector c.in-Some-Some.option c.args.id here
    c.requires.before in
    search rules

pub chosen_len-returns-in-Some-Some : goal.chosen_len-returns-in-Some-Some
chosen_len-returns-in-Some-Some t c =
    let os = options_over c.args.schema.now.trees c.args.options.now in
    let here : Some (Some c.in-Some-Some.option)
    ≡ slice_get c.args.options.now c.in-Union.selector =
    ap Some (sym c.in-Some-Some.field-0-is) ∙ sym c.in-Some-Some.is ∙ c.option_at.ensures in
    let value = value_of_chosen c.args.value.now c.in-Union.selector c.in-Union.inner
    c.in-Some.inner c.in-Union.is c.in-Some.is in
    let sum : size (union (options_over c.args.schema.now.trees c.args.options.now))
    (value_of c.args.value.now)
    ≡ 1 + size (type_of c.args.schema.now c.in-Some-Some.option) (value_of c.deref.result.now) =
    ap (size (union os)) value
    ∙ ap (λ n. 1 + n) (option_size_at c.args.schema.now.trees c.args.options.now
    c.in-Union.selector c.in-Some-Some.option (value_of c.in-Some.inner.value) here
    ∙ ap (λ v. size (type_of c.args.schema.now c.in-Some-Some.option) (value_of v))
    (sym c.deref.ensures)) in
    omega (arith, c.saturating_add.ensures, c.value_len.ensures, sum)

pub chosen_len-returns-in-Some-None : goal.chosen_len-returns-in-Some-None
chosen_len-returns-in-Some-None t c =
    let inner = union_inner c.args.schema.now.trees c.args.options.now c.args.value.now
    c.in-Union.selector c.in-Union.inner c.in-Some.inner c.in-Union.is c.in-Some.is
    c.requires.value in
    let some = chosen_option c.args.schema.now.trees c.args.options.now c.in-Union.selector
    c.in-Some.inner inner in
    let is : Some (Some some.0) ≡ Some None =
    some.1 ∙ sym c.option_at.ensures ∙ c.in-Some-None.is ∙ ap Some c.in-Some-None.field-0-is in
    cc

pub chosen_len-returns-in-None-option_at : goal.chosen_len-returns-in-None-option_at
chosen_len-returns-in-None-option_at t c =
    let inner = union_inner c.args.schema.now.trees c.args.options.now c.args.value.now
    c.in-Union.selector c.in-Union.inner c.in-Some.inner c.in-Union.is c.in-Some.is
    c.requires.value in
    let some = chosen_option c.args.schema.now.trees c.args.options.now c.in-Union.selector
    c.in-Some.inner inner in
    let is : Some (Some some.0) ≡ None =
    some.1 ∙ sym c.option_at.ensures ∙ c.in-None-option_at.is in
    cc

pub part_len-returns-in-Some : goal.part_len-returns-in-Some
part_len-returns-in-Some t c =
    let fixed : fixed_size (type_of c.args.schema.now c.args.id) ≡ Some c.in-Some.size =
    sym c.fixed_size.ensures.exact ∙ c.in-Some.is in
    let part = fixed_part c.args.schema.now.format (type_of c.args.schema.now c.args.id)
    c.in-Some.size
    (value_of c.args.part.now) c.ty-legal.ensures.legal fixed c.requires.value.fits in
    let small = c.fixed_size.ensures.in_range c.in-Some.size c.in-Some.is in
    omega (arith, part, small.few)

pub elements_len-returns-in-Some : goal.elements_len-returns-in-Some
elements_len-returns-in-Some t c =
    let fixed : fixed_size (type_of c.args.schema.now c.args.elem) ≡ Some c.in-Some.size =
    sym c.fixed_size.ensures.exact ∙ c.in-Some.is in
    let sum = fixed_sum c.args.schema.now.format (type_of c.args.schema.now c.args.elem)
    c.in-Some.size
    c.args.parts.now c.ty-legal.ensures.legal fixed c.requires.parts in
    c.saturating_mul.ensures ∙ sym (ap capped sum)

pub elements_len-loop-part-preserved : goal.elements_len-loop-part-preserved
elements_len-loop-part-preserved t c =
    SumFrom-more (λ v. part_length (fixed_size (type_of c.args.schema.now c.args.elem))
    (size (type_of c.args.schema.now c.args.elem) v)) c.args.parts.now c.loop-part.part-index
    c.loop-part.total c.saturating_add-total.result c.part-item.result c.loop-part.invariant
    c.loop-part-test.true c.part-item.is
    (c.saturating_add-total.ensures
    ∙ ap (λ n. capped (c.loop-part.total + n)) c.part_len.ensures)

pub elements_len-returns : goal.elements_len-returns
elements_len-returns t c =
    SumFrom-end (λ v. part_length (fixed_size (type_of c.args.schema.now c.args.elem))
    (size (type_of c.args.schema.now c.args.elem) v)) c.args.parts.now c.loop-part.part-index
    c.loop-part.total c.loop-part.invariant c.loop-part-test.false

pub fields_len-bounds-parts-i : goal.fields_len-bounds-parts-i
fields_len-bounds-parts-i t c =
    let even = field_count_is c.args.schema.now.trees c.args.fields.now c.args.parts.now
    c.requires.parts in
    omega (arith, even)

pub fields_len-returns : goal.fields_len-returns
fields_len-returns t c =
    FieldSumFrom-end c.args.schema.now.trees c.args.fields.now c.args.parts.now c.loop-i.i
    c.loop-i.total c.loop-i.invariant c.loop-i-test.false

pub value_len-container_len-requires : goal.value_len-container_len-requires
value_len-container_len-requires t c =
    let before : AllByRecursion (λ (part : Part). part.1 < c.args.id)
    c.as_slice-in-Container.result.now =
    subst (AllByRecursion (λ (part : Part). part.1 < c.args.id))
    (sym c.as_slice-in-Container.ensures.value)
    (subst (AreBelow c.args.id) c.in-Container.is c.ty.ensures.before) in
    let form : type_of c.args.schema.now c.args.id
    ≡ container (fields_over c.args.schema.now.trees c.as_slice-in-Container.result.now) =
    sym c.ty.ensures.form ∙ ap (tree_over c.args.schema.now.trees) c.in-Container.is
    ∙ ap (λ fs. container (fields_over c.args.schema.now.trees fs))
    (sym c.as_slice-in-Container.ensures.value) in
    let value : IsValue
    (container (fields_over c.args.schema.now.trees c.as_slice-in-Container.result.now))
    c.args.value.now = subst (λ (ty : SszType). IsValue ty c.args.value.now) form
    c.requires.value in
    search rules
