use Rattle.std.proofs.Common.{◌∙◌, ◌+◌, ◌≡◌, ap, sym, subst, arith, rules, lit<, length, decimal, Some, None, slice_get, ◌<◌}
use Rattle.std.proofs.lemmas.Bool.{eqb-false}
use Rattle.std.specs.List.{AllByRecursion}
use Rattle.serde_json.specs.Written.{compact_text}
use Rattle.ssz_schema.specs.Types.{container, union}
use Rattle.ssz_schema.specs.Unfolding.{type_of, type_tree_at, tree_over, fields_over, options_over}
use Rattle.ssz_value.specs.Values.{chosen, chosen_none}
use Rattle.ssz_value.specs.declared.value.Value.TheVariants.{Union}
use Rattle.ssz_value.specs.Standing.{value_of, is_byte, IsValue}
use Rattle.ssz_value.specs.Shapes.{IsSequence, AreFields, parts_of}
use Rattle.ssz_value.proofs.ValueLemmas.{chosen_none_is}
use Rattle.ssz_value.proofs.PartLemmas.{field_count_is, part_known}
use Rattle.ssz_value.proofs.FormLemmas.{seq_elements, seq_fields, chosen_fits, union_inner, chosen_option, value_of_chosen}
use Rattle.ssz_value.proofs.OptionLemmas.{option_below}
use Rattle.ssz_json_text.specs.Strings.{hex_text}
use Rattle.ssz_json_text.specs.Text.{json, json_of, sequence_json}
use Rattle.ssz_value.specs.Written.{capped}
use Rattle.ssz_json_text.proofs.Plain.{hex_plain, length-quoted_plain, length-hex_text}
use Rattle.ssz_json_text.proofs.Forms.{seq_json, bytes_json, container_json, chosen_length, none_length}
use Rattle.ssz_json_text.proofs.Lengths.{elements_length, fields_length, SumFrom-end, FieldSumFrom-more, FieldSumFrom-end}
use Rattle.ssz_json_text.proofs.Names.{fields_are_named, name_at}
use Rattle.ssz_json_text.proofs.Pieces.{value_at_field}
use Rattle.ssz_json_text.proofs.measuring.+length.Goals as goal

pub text_len-returns-in-Uint : goal.text_len-returns-in-Uint
text_len-returns-in-Uint t c =
    c.number_len.ensures c.in-Uint.field-0
    ∙ ap (λ ty. capped (length (json ty (value_of c.args.value.now))))
    (ap (tree_over c.args.schema.now.trees) (sym c.in-Uint.is) ∙ c.ty.ensures.form)

pub sequence_len-elements_len-requires : goal.sequence_len-elements_len-requires
sequence_len-elements_len-requires t c =
    let all = seq_elements (type_of c.args.schema.now c.args.elem) c.in-Seq.parts
    (subst (IsSequence (type_of c.args.schema.now c.args.elem)) c.in-Seq.is c.requires.value) in
    let parts : AllByRecursion
    (IsValue (type_of c.args.schema.now c.args.elem)) c.as_slice.result.now =
    subst (AllByRecursion (IsValue (type_of c.args.schema.now c.args.elem)))
    (sym c.as_slice.ensures.value) all in
    search rules

pub sequence_len-returns-in-Seq : goal.sequence_len-returns-in-Seq
sequence_len-returns-in-Seq t c =
    c.elements_len.ensures
    ∙ sym (ap (λ d. capped (length (compact_text d)))
    (seq_json (type_of c.args.schema.now c.args.elem) c.args.value.now c.in-Seq.parts
    c.as_slice.result.now c.in-Seq.is c.requires.value c.as_slice.ensures.value))

pub sequence_len-returns-in-Bytes : goal.sequence_len-returns-in-Bytes
sequence_len-returns-in-Bytes t c =
    let run = c.in-Bytes.run' in
    let size : length (compact_text (sequence_json
    (is_byte (type_of c.args.schema.now c.args.elem))
    (json_of (type_of c.args.schema.now c.args.elem)) (parts_of (value_of c.args.value.now))))
    ≡ length (hex_text c.in-Bytes.run') + 2 =
    ap (λ d. length (compact_text d)) (bytes_json (type_of c.args.schema.now c.args.elem)
    c.args.value.now run c.in-Bytes.is c.requires.value)
    ∙ length-quoted_plain (hex_text run) (hex_plain run c.as_slice-in-Bytes.ensures.bytes) in
    omega (
      arith,
      size,
      length-hex_text run,
      c.saturating_add.ensures,
      c.saturating_mul.ensures,
      ap length c.as_slice-in-Bytes.ensures.value,
    )

pub elements_len-returns : goal.elements_len-returns
elements_len-returns t c =
    let other = eqb-false (length c.args.parts.now) 0
    (sym c.is_empty.ensures ∙ c.if-is_empty.false) in
    let some : 0 < length c.args.parts.now = omega arith in
    SumFrom-end (type_of c.args.schema.now c.args.elem) c.args.parts.now c.loop-part.part-index
    c.loop-part.total c.loop-part.invariant (omega arith)
    ∙ sym (ap capped (elements_length (type_of c.args.schema.now c.args.elem) c.args.parts.now
    some))

pub chosen_len-text_len-requires : goal.chosen_len-text_len-requires
chosen_len-text_len-requires t c =
    let here : Some (Some c.in-Some-Some.option)
    ≡ slice_get c.args.options.now c.in-Union.selector =
    ap Some (sym c.in-Some-Some.field-0-is) ∙ sym c.in-Some-Some.is ∙ c.option_at.ensures in
    let inner = union_inner c.args.schema.now.trees c.args.options.now c.args.value.now
    c.in-Union.selector c.in-Union.inner c.in-Some.inner c.in-Union.is c.in-Some.is
    c.requires.value in
    let fits = chosen_fits c.args.schema.now.trees c.args.options.now c.in-Union.selector
    c.in-Some-Some.option c.in-Some.inner inner here in
    let value : IsValue (type_of c.args.schema.now c.in-Some-Some.option) c.deref.result.now =
    subst (IsValue (type_of c.args.schema.now c.in-Some-Some.option))
    (sym c.deref.ensures) fits in
    let below : c.in-Some-Some.option < c.args.id =
    option_below c.args.options.now c.in-Union.selector c.in-Some-Some.option c.args.id here
    c.requires.before in
    search rules

pub chosen_len-returns-in-Some-Some : goal.chosen_len-returns-in-Some-Some
chosen_len-returns-in-Some-Some t c =
    let here : Some (Some c.in-Some-Some.option)
    ≡ slice_get c.args.options.now c.in-Union.selector =
    ap Some (sym c.in-Some-Some.field-0-is) ∙ sym c.in-Some-Some.is ∙ c.option_at.ensures in
    let value = value_of_chosen c.args.value.now c.in-Union.selector c.in-Union.inner
    c.in-Some.inner c.in-Union.is c.in-Some.is in
    let size : length (json (union (options_over c.args.schema.now.trees c.args.options.now))
    (value_of c.args.value.now))
    ≡ length (decimal c.in-Union.selector)
    + length (json (type_of c.args.schema.now c.in-Some-Some.option) (value_of c.deref.result.now))
    + 3 =
    chosen_length c.args.schema.now.trees c.args.options.now c.args.value.now
    c.in-Union.selector c.in-Some-Some.option (value_of c.deref.result.now)
    (value ∙ ap (λ v. chosen c.in-Union.selector (value_of v)) (sym c.deref.ensures)) here in
    omega (
      arith,
      size,
      c.saturating_add.ensures,
      c.text_len.ensures,
      ap (λ n. length (decimal n)) c.from.ensures,
      c.decimal_len-head.ensures.count,
      c.decimal_len-head.ensures.few,
    )

pub chosen_len-returns-in-Some-None : goal.chosen_len-returns-in-Some-None
chosen_len-returns-in-Some-None t c =
    let inner = union_inner c.args.schema.now.trees c.args.options.now c.args.value.now
    c.in-Union.selector c.in-Union.inner c.in-Some.inner c.in-Union.is c.in-Some.is
    c.requires.value in
    let some = chosen_option c.args.schema.now.trees c.args.options.now c.in-Union.selector
    c.in-Some.inner inner in
    let is : Some (Some some.0) ≡ Some None =
    some.1 ∙ sym c.option_at.ensures ∙ c.in-Some-None.is ∙ ap Some c.in-Some-None.field-0-is in
    cc

pub chosen_len-returns-in-None-option_at : goal.chosen_len-returns-in-None-option_at
chosen_len-returns-in-None-option_at t c =
    let inner = union_inner c.args.schema.now.trees c.args.options.now c.args.value.now
    c.in-Union.selector c.in-Union.inner c.in-Some.inner c.in-Union.is c.in-Some.is
    c.requires.value in
    let some = chosen_option c.args.schema.now.trees c.args.options.now c.in-Union.selector
    c.in-Some.inner inner in
    let is : Some (Some some.0) ≡ None =
    some.1 ∙ sym c.option_at.ensures ∙ c.in-None-option_at.is in
    cc

pub chosen_len-returns-in-None : goal.chosen_len-returns-in-None
chosen_len-returns-in-None t c =
    let k = c.in-Union.selector in
    let value : value_of c.args.value.now ≡ chosen_none c.in-Union.selector =
    ap value_of (c.in-Union.is ∙ ap (Union k) c.in-None.is) ∙ chosen_none_is k in
    let size = none_length c.args.schema.now.trees c.args.options.now c.args.value.now k value in
    omega (
      arith,
      size,
      ap (λ n. length (decimal n)) c.from.ensures,
      c.decimal_len-head.ensures.count,
      c.decimal_len-head.ensures.few,
    )

pub container_len-fields_len-requires : goal.container_len-fields_len-requires
container_len-fields_len-requires t c =
    let all = seq_fields (fields_over c.args.schema.now.trees c.args.fields.now) c.in-Seq.parts
    (subst (IsValue (container (fields_over c.args.schema.now.trees c.args.fields.now)))
    c.in-Seq.is c.requires.value) in
    let parts : AreFields (fields_over c.args.schema.now.trees c.args.fields.now)
    c.as_slice.result.now = subst
    (AreFields (fields_over c.args.schema.now.trees c.args.fields.now))
    (sym c.as_slice.ensures.value) all in
    search rules

pub container_len-returns-in-Seq : goal.container_len-returns-in-Seq
container_len-returns-in-Seq t c =
    c.fields_len.ensures
    ∙ sym (ap (λ d. capped (length (compact_text d)))
    (container_json (fields_over c.args.schema.now.trees c.args.fields.now) c.args.value.now
    c.in-Seq.parts c.as_slice.result.now c.in-Seq.is c.as_slice.ensures.value))

pub fields_len-loop-i-init : goal.fields_len-loop-i-init
fields_len-loop-i-init t c = record { all = omega arith; small = lit< tt }

pub fields_len-bounds-parts-i : goal.fields_len-bounds-parts-i
fields_len-bounds-parts-i t c =
    let below = c.loop-i-test.true in
    let same = field_count_is c.args.schema.now.trees c.args.fields.now c.args.parts.now
    c.requires.parts in
    omega arith

pub fields_len-text_len-text-requires : goal.fields_len-text_len-text-requires
fields_len-text_len-text-requires t c =
    let within = field_count_is c.args.schema.now.trees c.args.fields.now c.args.parts.now
    c.requires.parts in
    let value : IsValue (type_tree_at c.args.schema.now.trees c.index-fields-i.result.1)
    c.index-parts-i.result =
    value_at_field c.args.schema.now.trees c.args.fields.now c.args.parts.now c.loop-i.i
    c.index-fields-i.result c.index-parts-i.result c.requires.parts c.loop-i-test.true
    (omega arith) c.index-fields-i.is c.index-parts-i.is in
    let below : c.index-fields-i.result.1 < c.args.id =
    part_known c.args.id c.args.fields.now c.loop-i.i c.index-fields-i.result c.loop-i-test.true
    c.index-fields-i.is c.requires.before in
    search rules

pub fields_len-loop-i-preserved : goal.fields_len-loop-i-preserved
fields_len-loop-i-preserved t c =
    let within = field_count_is c.args.schema.now.trees c.args.fields.now c.args.parts.now
    c.requires.parts in
    let named = name_at c.args.fields.now c.loop-i.i c.index-fields-i.result c.loop-i-test.true
    c.index-fields-i.is (fields_are_named c.args.schema.now.format c.args.schema.now.trees
    c.args.fields.now c.requires.legal.1) in
    FieldSumFrom-more c.args.schema.now.trees c.args.fields.now c.args.parts.now c.loop-i.i
    c.loop-i.total c.saturating_add-total.result (length c.as_bytes.result.now)
    c.text_len-text.result c.index-fields-i.result
    c.index-parts-i.result c.loop-i.invariant named
    c.loop-i-test.true (omega arith) c.index-fields-i.is c.index-parts-i.is
    (ap length c.as_bytes.ensures) c.text_len-text.ensures (omega arith)

pub fields_len-returns : goal.fields_len-returns
fields_len-returns t c =
    FieldSumFrom-end c.args.schema.now.trees c.args.fields.now c.args.parts.now c.loop-i.i
    c.loop-i.total c.loop-i.invariant (omega arith)
    ∙ sym (ap capped (fields_length c.args.schema.now.format
    (fields_over c.args.schema.now.trees c.args.fields.now) c.args.parts.now c.requires.legal
    c.requires.parts))
