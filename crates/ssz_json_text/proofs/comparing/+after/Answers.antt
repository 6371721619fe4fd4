use Rattle.std.proofs.Common.{◌∙◌, ◌++◌, ap, sym, subst, arith, rules, length, map, false, ◌<◌, ◌≤◌, [], ◌∷◌}
use Rattle.std.specs.List.{AllByRecursion}
use Rattle.std.proofs.lemmas.List.Elements.{All-from_recursion}
use Rattle.json.specs.Print.{quoted}
use Rattle.serde_json.specs.Data.{array, object, string}
use Rattle.serde_json.specs.View.{items_of}
use Rattle.serde_json.specs.Written.{compact_text, members_text}
use Rattle.ssz_schema.specs.Names.{IsName}
use Rattle.ssz_schema.specs.Types.{container}
use Rattle.ssz_schema.specs.Unfolding.{type_of, type_tree_at, fields_over}
use Rattle.ssz_value.specs.Standing.{value_of, IsValue}
use Rattle.ssz_value.specs.Shapes.{IsSequence, AreFields}
use Rattle.ssz_value.proofs.PartLemmas.{Part, field_count_is, part_known}
use Rattle.ssz_value.proofs.FormLemmas.{seq_elements, seq_fields}
use Rattle.ssz_json_text.specs.Strings.{hex_text}
use Rattle.ssz_json_text.specs.Text.{json, json_of, members_json}
use Rattle.ssz_json_text.specs.Order.{in_order}
use Rattle.ssz_json_text.proofs.NameOrder.{members_in_order, order_length}
use Rattle.ssz_json_text.proofs.Names.{fields_are_named}
use Rattle.ssz_json_text.proofs.Forms.{seq_json, bytes_json, container_json}
use Rattle.ssz_json_text.proofs.Pieces.{members_of_fields, part_json, part_json_at, value_at_field}
use Rattle.ssz_json_text.proofs.Passing.{elements_passed, entry_passed, entries_passed, passed}
use Rattle.ssz_json_text.proofs.comparing.+after.Goals as goal

pub after_sequence-after_elements-requires : goal.after_sequence-after_elements-requires
after_sequence-after_elements-requires t c =
    let all = seq_elements (type_of c.args.schema.now c.args.elem) c.in-Seq.parts
    (subst (IsSequence (type_of c.args.schema.now c.args.elem)) c.in-Seq.is c.requires.value) in
    let parts : AllByRecursion
    (IsValue (type_of c.args.schema.now c.args.elem)) c.as_slice.result.now =
    subst (AllByRecursion (IsValue (type_of c.args.schema.now c.args.elem)))
    (sym c.as_slice.ensures.value) all in
    search rules

pub after_row-after_fields-requires : goal.after_row-after_fields-requires
after_row-after_fields-requires t c =
    let all = seq_fields (fields_over c.args.schema.now.trees c.args.row.now.fields.now)
    c.in-Seq.parts
    (subst (IsValue (container (fields_over c.args.schema.now.trees c.args.row.now.fields.now)))
    c.in-Seq.is c.requires.value) in
    let parts : AreFields (fields_over c.args.schema.now.trees c.args.row.now.fields.now)
    c.as_slice.result.now = subst
    (AreFields (fields_over c.args.schema.now.trees c.args.row.now.fields.now))
    (sym c.as_slice.ensures.value) all in
    search rules

pub after_elements-returns : goal.after_elements-returns
after_elements-returns t c =
    passed c.after-2.result c.loop-i.rest.now c.args.bytes.now (93 ∷ [])
    (compact_text (array (items_of (map (json_of (type_of c.args.schema.now c.args.elem))
    (map value_of c.args.parts.now)))))
    (λ z e. c.loop-i.invariant z (elements_passed (type_of c.args.schema.now c.args.elem)
    c.args.parts.now c.loop-i.i c.loop-i.rest.now z c.loop-i-test.false e)) c.after-2.ensures

pub after_fields-loop-i-init : goal.after_fields-loop-i-init
after_fields-loop-i-init t c =
    let trees = c.args.schema.now.trees in
    let fields = c.args.row.now.fields.now in
    let part = part_json trees fields c.args.parts.now in
    let same = field_count_is trees fields c.args.parts.now c.requires.parts in
    λ z h. c.in_ok-rest.ensures ∙ ap (λ s. 123 ∷ s) (h ∙ ap (λ ms. members_text false ms ++ z)
    (members_in_order part fields ∙ members_of_fields trees fields c.args.parts.now same))

pub after_fields-after_key-requires : goal.after_fields-after_key-requires
after_fields-after_key-requires t c =
    let fields = c.args.row.now.fields.now in
    let field = c.member_at-number.ensures.field in
    subst IsName (sym field.1) (All-from_recursion (λ (part : Part). IsName part.0) fields
    (fields_are_named c.args.schema.now.format c.args.schema.now.trees fields c.requires.legal.1)
    c.member_at-number.result.1 ([], 0) field.0)

pub after_fields-bounds-parts-number : goal.after_fields-bounds-parts-number
after_fields-bounds-parts-number t c =
    let below : c.member_at-number.result.1 < length c.args.row.now.fields.now =
    c.member_at-number.ensures.field.0 in
    let same = field_count_is c.args.schema.now.trees c.args.row.now.fields.now c.args.parts.now
    c.requires.parts in
    omega arith

pub after_fields-after_value-requires : goal.after_fields-after_value-requires
after_fields-after_value-requires t c =
    let fields = c.args.row.now.fields.now in
    let within : c.member_at-number.result.1 < length c.args.row.now.fields.now =
    c.member_at-number.ensures.field.0 in
    let same = field_count_is c.args.schema.now.trees fields c.args.parts.now c.requires.parts in
    let value : IsValue (type_tree_at c.args.schema.now.trees c.index-row-number.result.1)
    c.index-parts-number.result =
    value_at_field c.args.schema.now.trees fields c.args.parts.now c.member_at-number.result.1
    c.index-row-number.result c.index-parts-number.result c.requires.parts within (omega arith)
    c.index-row-number.is c.index-parts-number.is in
    let below : c.index-row-number.result.1 < c.args.id =
    part_known c.args.id fields c.member_at-number.result.1 c.index-row-number.result within
    c.index-row-number.is c.requires.before in
    search rules

pub after_fields-loop-i-preserved : goal.after_fields-loop-i-preserved
after_fields-loop-i-preserved t c =
    let trees = c.args.schema.now.trees in
    let fields = c.args.row.now.fields.now in
    let part = part_json trees fields c.args.parts.now in
    let within : c.member_at-number.result.1 < length c.args.row.now.fields.now =
    c.member_at-number.ensures.field.0 in
    let same = field_count_is trees fields c.args.parts.now c.requires.parts in
    let json_is = part_json_at trees fields c.args.parts.now c.member_at-number.result.1
    c.index-row-number.result c.index-parts-number.result within (omega arith)
    c.index-row-number.is c.index-parts-number.is in
    let below : c.loop-i.i < length (in_order c.args.row.now.fields.now) =
    omega (
      arith,
      c.loop-i-test.true,
      order_length fields c.args.row.now.order.now c.requires.ordered,
    ) in
    let rest = c.in_ok-rest-3.rest.now in
    λ z h. c.loop-i.invariant z (entry_passed part (in_order fields) c.loop-i.i
    (c.member_at-number.result.0.now, c.member_at-number.result.1) c.loop-i.rest.now c.in_ok-rest-2.rest.now c.in_ok-rest-3.rest.now z
    below c.member_at-number.ensures.here c.in_ok-rest-2.ensures
    (c.in_ok-rest-3.ensures
    ∙ ap (λ (f : Part). json (type_tree_at trees f.1) (value_of c.index-parts-number.result)
    ++ rest)
    (sym c.index-row-number.is)
    ∙ ap (λ d. compact_text d ++ rest) (sym json_is)) h)

pub after_fields-returns : goal.after_fields-returns
after_fields-returns t c =
    let part = part_json c.args.schema.now.trees c.args.row.now.fields.now c.args.parts.now in
    let fields = c.args.row.now.fields.now in
    let all : length (in_order c.args.row.now.fields.now) ≤ c.loop-i.i =
    omega (
      arith,
      c.loop-i-test.false,
      order_length fields c.args.row.now.order.now c.requires.ordered,
    ) in
    passed c.after-2.result c.loop-i.rest.now c.args.bytes.now (125 ∷ [])
    (compact_text (object (members_json
    (fields_over c.args.schema.now.trees c.args.row.now.fields.now)
    (map value_of c.args.parts.now))))
    (λ z e. c.loop-i.invariant z (entries_passed part (in_order fields) c.loop-i.i
    c.loop-i.rest.now z all e)) c.after-2.ensures

pub after_row-returns-in-Seq : goal.after_row-returns-in-Seq
after_row-returns-in-Seq t c =
    let fs = fields_over c.args.schema.now.trees c.args.row.now.fields.now in
    passed c.after_fields.result c.args.bytes.now c.args.bytes.now
    (compact_text (object (members_json fs (map value_of c.as_slice.result.now)))) _
    (λ z e. e ∙ ap (λ d. compact_text d ++ z) (sym (container_json fs c.args.value.now
    c.in-Seq.parts c.as_slice.result.now c.in-Seq.is c.as_slice.ensures.value)))
    c.after_fields.ensures

pub after_sequence-returns-in-Seq : goal.after_sequence-returns-in-Seq
after_sequence-returns-in-Seq t c =
    let elem = type_of c.args.schema.now c.args.elem in
    passed c.after_elements.result c.args.bytes.now c.args.bytes.now
    (compact_text (array (items_of (map (json_of elem) (map value_of c.as_slice.result.now))))) _
    (λ z e. e ∙ ap (λ d. compact_text d ++ z) (sym (seq_json elem c.args.value.now
    c.in-Seq.parts c.as_slice.result.now c.in-Seq.is c.requires.value c.as_slice.ensures.value)))
    c.after_elements.ensures

pub after_sequence-returns-in_ok-put_hex-in-Bytes :
    goal.after_sequence-returns-in_ok-put_hex-in-Bytes
after_sequence-returns-in_ok-put_hex-in-Bytes t c =
    let elem = type_of c.args.schema.now c.args.elem in
    let run = c.in-Bytes.run' in
    let text = c.as_slice-in-Bytes-2.ensures.value ∙ c.in_ok-put_hex-in-Bytes.ensures.text
    ∙ ap (λ s. s ++ quoted (hex_text c.as_slice-in-Bytes.result.now)) c.clear.ensures.items
    ∙ ap (λ bs. compact_text (string (hex_text bs))) c.as_slice-in-Bytes.ensures.value
    ∙ sym (ap compact_text (bytes_json elem c.args.value.now run c.in-Bytes.is
    c.requires.value)) in
    passed c.after.result c.args.bytes.now c.args.bytes.now c.as_slice-in-Bytes-2.result.now _
    (λ z e. e ∙ ap (λ s. s ++ z) text) c.after.ensures
