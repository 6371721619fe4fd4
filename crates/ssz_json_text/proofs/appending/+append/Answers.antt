use Rattle.std.proofs.Common.{◌∙◌, ◌≡◌, ◌++◌, ap, ap₂, sym, subst, arith, rules, length, decimal, Some, None, slice_get, ◌<◌, ◌≤◌, [], ◌∷◌, append_assoc, refl, false}
use Rattle.std.specs.List.{AllByRecursion}
use Rattle.std.proofs.lemmas.List.Elements.{All-from_recursion}
use Rattle.std.proofs.lemmas.Result.{on_ok_weaker}
use Rattle.serde_json.specs.Data.{string}
use Rattle.serde_json.specs.Written.{compact_text, members_text}
use Rattle.ssz_schema.specs.Types.{container}
use Rattle.ssz_schema.specs.Names.{IsName}
use Rattle.ssz_schema.specs.Unfolding.{type_of, type_tree_at, tree_over, fields_over}
use Rattle.ssz_value.specs.Values.{chosen, chosen_none}
use Rattle.ssz_value.specs.declared.value.Value.TheVariants.{Union}
use Rattle.ssz_value.specs.Standing.{value_of, IsValue}
use Rattle.ssz_value.specs.Shapes.{IsSequence, AreFields}
use Rattle.ssz_value.proofs.ValueLemmas.{chosen_none_is}
use Rattle.ssz_value.proofs.PartLemmas.{Part, field_count_is, part_known}
use Rattle.ssz_value.proofs.FormLemmas.{seq_elements, seq_fields, chosen_fits, union_inner, chosen_option, value_of_chosen}
use Rattle.ssz_value.proofs.OptionLemmas.{option_below}
use Rattle.ssz_json_text.specs.Strings.{hex_text}
use Rattle.ssz_json_text.specs.Text.{json}
use Rattle.ssz_json_text.proofs.Keeping.{joined, keeps_trans}
use Rattle.ssz_json_text.specs.Order.{in_order}
use Rattle.ssz_json_text.proofs.NameOrder.{members_in_order, order_length}
use Rattle.ssz_json_text.proofs.Names.{fields_are_named}
use Rattle.ssz_json_text.proofs.Forms.{seq_json, bytes_json, container_json, chosen_text, none_text}
use Rattle.ssz_json_text.proofs.Pieces.{elements_left, elements_more, elements_end, entries_more, entries_end, members_of_fields, part_json, part_json_at, value_at_field}
use Rattle.ssz_json_text.proofs.appending.+append.Goals as goal

pub append_value-returns-in-Uint-clause-text : goal.append_value-returns-in-Uint-clause-text
append_value-returns-in-Uint-clause-text t c =
    on_ok_weaker c.put_number.result
    (λ e. e ∙ ap (λ ty. c.args.out.now.items ++ json ty (value_of c.args.value.now))
    (ap (tree_over c.args.schema.now.trees) (sym c.in-Uint.is) ∙ c.ty.ensures.form))
    (c.put_number.ensures.text c.in-Uint.field-0)

pub append_sequence-append_elements-requires : goal.append_sequence-append_elements-requires
append_sequence-append_elements-requires t c =
    let all = seq_elements (type_of c.args.schema.now c.args.elem) c.in-Seq.parts
    (subst (IsSequence (type_of c.args.schema.now c.args.elem)) c.in-Seq.is c.requires.value) in
    let parts : AllByRecursion
    (IsValue (type_of c.args.schema.now c.args.elem)) c.as_slice.result.now =
    subst (AllByRecursion (IsValue (type_of c.args.schema.now c.args.elem)))
    (sym c.as_slice.ensures.value) all in
    search rules

pub append_sequence-returns-in-Seq-clause-text : goal.append_sequence-returns-in-Seq-clause-text
append_sequence-returns-in-Seq-clause-text t c =
    on_ok_weaker c.append_elements.result
    (λ e. e ∙ sym (ap (λ d. c.args.out.now.items ++ compact_text d)
    (seq_json (type_of c.args.schema.now c.args.elem) c.args.value.now c.in-Seq.parts
    c.as_slice.result.now c.in-Seq.is c.requires.value c.as_slice.ensures.value)))
    c.append_elements.ensures.text

pub append_sequence-returns-in-Bytes-clause-text :
    goal.append_sequence-returns-in-Bytes-clause-text
append_sequence-returns-in-Bytes-clause-text t c =
    let run = c.in-Bytes.run' in
    on_ok_weaker c.put_hex.result
    (λ e. e ∙ ap (λ bs. c.args.out.now.items ++ compact_text (string (hex_text bs)))
    c.as_slice-in-Bytes.ensures.value
    ∙ sym (ap (λ d. c.args.out.now.items ++ compact_text d)
    (bytes_json (type_of c.args.schema.now c.args.elem)
    c.args.value.now run c.in-Bytes.is c.requires.value)))
    c.put_hex.ensures.text

pub append_chosen-append_value-requires : goal.append_chosen-append_value-requires
append_chosen-append_value-requires t c =
    let here : Some (Some c.in-Some-Some.option)
    ≡ slice_get c.args.options.now c.in-Union.selector =
    ap Some (sym c.in-Some-Some.field-0-is) ∙ sym c.in-Some-Some.is ∙ c.option_at.ensures in
    let inner = union_inner c.args.schema.now.trees c.args.options.now c.args.value.now
    c.in-Union.selector c.in-Union.inner c.in-Some.inner c.in-Union.is c.in-Some.is
    c.requires.value in
    let fits = chosen_fits c.args.schema.now.trees c.args.options.now c.in-Union.selector
    c.in-Some-Some.option c.in-Some.inner inner here in
    let value : IsValue (type_of c.args.schema.now c.in-Some-Some.option) c.deref.result.now =
    subst (IsValue (type_of c.args.schema.now c.in-Some-Some.option))
    (sym c.deref.ensures) fits in
    let below : c.in-Some-Some.option < c.args.id =
    option_below c.args.options.now c.in-Union.selector c.in-Some-Some.option c.args.id here
    c.requires.before in
    search rules

pub append_chosen-unreachable-requires : goal.append_chosen-unreachable-requires
append_chosen-unreachable-requires t c =
    let inner = union_inner c.args.schema.now.trees c.args.options.now c.args.value.now
    c.in-Union.selector c.in-Union.inner c.in-Some.inner c.in-Union.is c.in-Some.is
    c.requires.value in
    let some = chosen_option c.args.schema.now.trees c.args.options.now c.in-Union.selector
    c.in-Some.inner inner in
    let is : Some (Some some.0) ≡ Some None =
    some.1 ∙ sym c.option_at.ensures ∙ c.in-Some-None.is ∙ ap Some c.in-Some-None.field-0-is in
    cc

pub append_chosen-unreachable-requires-in-None-option_at :
    goal.append_chosen-unreachable-requires-in-None-option_at
append_chosen-unreachable-requires-in-None-option_at t c =
    let inner = union_inner c.args.schema.now.trees c.args.options.now c.args.value.now
    c.in-Union.selector c.in-Union.inner c.in-Some.inner c.in-Union.is c.in-Some.is
    c.requires.value in
    let some = chosen_option c.args.schema.now.trees c.args.options.now c.in-Union.selector
    c.in-Some.inner inner in
    let is : Some (Some some.0) ≡ None =
    some.1 ∙ sym c.option_at.ensures ∙ c.in-None-option_at.is in
    cc

pub append_chosen-returns-in_ok-append_value-in-Some-Some-clause-text :
    goal.append_chosen-returns-in_ok-append_value-in-Some-Some-clause-text
append_chosen-returns-in_ok-append_value-in-Some-Some-clause-text t c =
    let k = c.in-Union.selector in
    let here : Some (Some c.in-Some-Some.option)
    ≡ slice_get c.args.options.now c.in-Union.selector =
    ap Some (sym c.in-Some-Some.field-0-is) ∙ sym c.in-Some-Some.is ∙ c.option_at.ensures in
    let value = value_of_chosen c.args.value.now c.in-Union.selector c.in-Union.inner
    c.in-Some.inner c.in-Union.is c.in-Some.is
    ∙ ap (λ v. chosen c.in-Union.selector (value_of v)) (sym c.deref.ensures) in
    let text = chosen_text c.args.schema.now.trees c.args.options.now c.args.value.now
    k c.in-Some-Some.option (value_of c.deref.result.now) value here in
    let inner = json (type_of c.args.schema.now c.in-Some-Some.option)
    (value_of c.deref.result.now) in
    on_ok_weaker c.put-in-Some-Some-2.result
    (λ e. joined c.put_decimal.new.out.items c.put-in-Some-Some.new.out.items
    c.append_value.new.out.items c.put-in-Some-Some-2.new.out.items (44 ∷ []) inner (93 ∷ [])
    c.in_ok-put-in-Some-Some.ensures.text c.in_ok-append_value-in-Some-Some.ensures.text e
    ∙ joined c.args.out.now.items c.put.new.out.items c.put_decimal.new.out.items _
    (91 ∷ []) (decimal k) (44 ∷ (inner ++ 93 ∷ []))
    c.in_ok-put-in-Union.ensures.text
    (c.in_ok-put_decimal-in-Union.ensures.text
    ∙ ap (λ n. c.put.new.out.items ++ decimal n) c.from.ensures) refl
    ∙ ap (λ s. c.args.out.now.items ++ s) (sym text))
    c.put-in-Some-Some-2.ensures.text

pub append_chosen-returns-in-None-clause-text : goal.append_chosen-returns-in-None-clause-text
append_chosen-returns-in-None-clause-text t c =
    let k = c.in-Union.selector in
    let value : value_of c.args.value.now ≡ chosen_none c.in-Union.selector =
    ap value_of (c.in-Union.is ∙ ap (Union k) c.in-None.is) ∙ chosen_none_is k in
    let text = none_text c.args.schema.now.trees c.args.options.now c.args.value.now k value in
    on_ok_weaker c.put-in-None.result
    (λ e. joined c.args.out.now.items c.put.new.out.items c.put_decimal.new.out.items
    c.put-in-None.new.out.items (91 ∷ []) (decimal k)
    (44 ∷ 110 ∷ 117 ∷ 108 ∷ 108 ∷ 93 ∷ []) c.in_ok-put-in-Union.ensures.text
    (c.in_ok-put_decimal-in-Union.ensures.text
    ∙ ap (λ n. c.put.new.out.items ++ decimal n) c.from.ensures) e
    ∙ ap (λ s. c.args.out.now.items ++ s) (sym text))
    c.put-in-None.ensures.text

pub append_row-append_fields-requires : goal.append_row-append_fields-requires
append_row-append_fields-requires t c =
    let all = seq_fields (fields_over c.args.schema.now.trees c.args.row.now.fields.now)
    c.in-Seq.parts
    (subst (IsValue (container (fields_over c.args.schema.now.trees c.args.row.now.fields.now)))
    c.in-Seq.is c.requires.value) in
    let parts : AreFields (fields_over c.args.schema.now.trees c.args.row.now.fields.now)
    c.as_slice.result.now = subst
    (AreFields (fields_over c.args.schema.now.trees c.args.row.now.fields.now))
    (sym c.as_slice.ensures.value) all in
    search rules

pub append_row-returns-in-Seq-clause-text : goal.append_row-returns-in-Seq-clause-text
append_row-returns-in-Seq-clause-text t c =
    on_ok_weaker c.append_fields.result
    (λ e. e ∙ sym (ap (λ d. c.args.out.now.items ++ compact_text d)
    (container_json (fields_over c.args.schema.now.trees c.args.row.now.fields.now) c.args.value.now
    c.in-Seq.parts c.as_slice.result.now c.in-Seq.is c.as_slice.ensures.value)))
    c.append_fields.ensures.text

pub append_fields-loop-i-init : goal.append_fields-loop-i-init
append_fields-loop-i-init t c =
    let trees = c.args.schema.now.trees in
    let fields = c.args.row.now.fields.now in
    let part = part_json trees c.args.row.now.fields.now c.args.parts.now in
    let same = field_count_is trees fields c.args.parts.now c.requires.parts in
    record {
      text = ap₂ (λ s ms. s ++ members_text false ms) c.in_ok-put.ensures.text
          (members_in_order part fields ∙ members_of_fields trees fields c.args.parts.now same)
          ∙ append_assoc c.args.out.now.items (123 ∷ []) _;
      front = c.in_ok-put.ensures.front;
    }

pub append_fields-put_key-requires : goal.append_fields-put_key-requires
append_fields-put_key-requires t c =
    let fields = c.args.row.now.fields.now in
    let field = c.member_at-number.ensures.field in
    subst IsName (sym field.1) (All-from_recursion (λ (part : Part). IsName part.0) fields
    (fields_are_named c.args.schema.now.format c.args.schema.now.trees fields c.requires.legal.1)
    c.member_at-number.result.1 ([], 0) field.0)

pub append_fields-bounds-parts-number : goal.append_fields-bounds-parts-number
append_fields-bounds-parts-number t c =
    let below : c.member_at-number.result.1 < length c.args.row.now.fields.now =
    c.member_at-number.ensures.field.0 in
    let same = field_count_is c.args.schema.now.trees c.args.row.now.fields.now c.args.parts.now
    c.requires.parts in
    omega arith

pub append_fields-append_value-requires : goal.append_fields-append_value-requires
append_fields-append_value-requires t c =
    let fields = c.args.row.now.fields.now in
    let within : c.member_at-number.result.1 < length c.args.row.now.fields.now =
    c.member_at-number.ensures.field.0 in
    let same = field_count_is c.args.schema.now.trees fields c.args.parts.now c.requires.parts in
    let value : IsValue (type_tree_at c.args.schema.now.trees c.index-row-number.result.1)
    c.index-parts-number.result =
    value_at_field c.args.schema.now.trees fields c.args.parts.now c.member_at-number.result.1
    c.index-row-number.result c.index-parts-number.result c.requires.parts within (omega arith)
    c.index-row-number.is c.index-parts-number.is in
    let below : c.index-row-number.result.1 < c.args.id =
    part_known c.args.id fields c.member_at-number.result.1 c.index-row-number.result within
    c.index-row-number.is c.requires.before in
    search rules

pub append_fields-loop-i-preserved : goal.append_fields-loop-i-preserved
append_fields-loop-i-preserved t c =
    let trees = c.args.schema.now.trees in
    let fields = c.args.row.now.fields.now in
    let part = part_json trees fields c.args.parts.now in
    let within : c.member_at-number.result.1 < length c.args.row.now.fields.now =
    c.member_at-number.ensures.field.0 in
    let same = field_count_is trees fields c.args.parts.now c.requires.parts in
    let json_is = part_json_at trees fields c.args.parts.now c.member_at-number.result.1
    c.index-row-number.result c.index-parts-number.result within (omega arith)
    c.index-row-number.is c.index-parts-number.is in
    let below : c.loop-i.i < length (in_order c.args.row.now.fields.now) =
    omega (
      arith,
      c.loop-i-test.true,
      order_length fields c.args.row.now.order.now c.requires.ordered,
    ) in
    record {
      text = entries_more part (in_order fields) c.loop-i.i
          (c.member_at-number.result.0.now, c.member_at-number.result.1)
          c.loop-i.out.items c.put_comma.new.out.items c.put_key.new.out.items
          c.append_value.new.out.items _ below c.member_at-number.ensures.here
          c.loop-i.invariant.text c.in_ok-put_comma.ensures.text c.in_ok-put_key.ensures.text
          (c.in_ok-append_value.ensures.text
          ∙ ap (λ (f : Part). c.put_key.new.out.items
          ++ json (type_tree_at trees f.1) (value_of c.index-parts-number.result))
          (sym c.index-row-number.is)
          ∙ ap (λ d. c.put_key.new.out.items ++ compact_text d) (sym json_is));
      front = keeps_trans (keeps_trans (keeps_trans c.loop-i.invariant.front
          c.in_ok-put_comma.ensures.front) c.in_ok-put_key.ensures.front)
          c.in_ok-append_value.ensures.front;
    }

pub append_fields-returns-clause-text : goal.append_fields-returns-clause-text
append_fields-returns-clause-text t c =
    let part = part_json c.args.schema.now.trees c.args.row.now.fields.now c.args.parts.now in
    let fields = c.args.row.now.fields.now in
    let all : length (in_order c.args.row.now.fields.now) ≤ c.loop-i.i =
    omega (
      arith,
      c.loop-i-test.false,
      order_length fields c.args.row.now.order.now c.requires.ordered,
    ) in
    on_ok_weaker c.put-2.result
    (λ e. entries_end part (in_order fields) c.loop-i.i
    c.loop-i.out.items c.put-2.new.out.items _ all c.loop-i.invariant.text e)
    c.put-2.ensures.text

pub append_chosen-returns-in_err-put_decimal-in-Union-clause-front :
    goal.append_chosen-returns-in_err-put_decimal-in-Union-clause-front
append_chosen-returns-in_err-put_decimal-in-Union-clause-front t c =
    keeps_trans c.put.ensures.front c.put_decimal.ensures.front

pub append_chosen-returns-in_err-put-in-Some-Some-clause-front :
    goal.append_chosen-returns-in_err-put-in-Some-Some-clause-front
append_chosen-returns-in_err-put-in-Some-Some-clause-front t c =
    keeps_trans (keeps_trans c.put.ensures.front c.put_decimal.ensures.front)
    c.put-in-Some-Some.ensures.front

pub append_chosen-returns-in_err-append_value-in-Some-Some-clause-front :
    goal.append_chosen-returns-in_err-append_value-in-Some-Some-clause-front
append_chosen-returns-in_err-append_value-in-Some-Some-clause-front t c =
    keeps_trans (keeps_trans (keeps_trans c.put.ensures.front c.put_decimal.ensures.front)
    c.put-in-Some-Some.ensures.front) c.append_value.ensures.front

pub append_chosen-returns-in_ok-append_value-in-Some-Some-clause-front :
    goal.append_chosen-returns-in_ok-append_value-in-Some-Some-clause-front
append_chosen-returns-in_ok-append_value-in-Some-Some-clause-front t c =
    keeps_trans (keeps_trans (keeps_trans (keeps_trans c.put.ensures.front
    c.put_decimal.ensures.front) c.put-in-Some-Some.ensures.front)
    c.append_value.ensures.front) c.put-in-Some-Some-2.ensures.front

pub append_chosen-returns-in-None-clause-front :
    goal.append_chosen-returns-in-None-clause-front
append_chosen-returns-in-None-clause-front t c =
    keeps_trans (keeps_trans c.put.ensures.front c.put_decimal.ensures.front)
    c.put-in-None.ensures.front

pub append_elements-returns-in_err-put_comma-clause-front :
    goal.append_elements-returns-in_err-put_comma-clause-front
append_elements-returns-in_err-put_comma-clause-front t c =
    keeps_trans c.loop-i.invariant.front c.put_comma.ensures.front

pub append_elements-returns-in_err-append_value-clause-front :
    goal.append_elements-returns-in_err-append_value-clause-front
append_elements-returns-in_err-append_value-clause-front t c =
    keeps_trans (keeps_trans c.loop-i.invariant.front c.put_comma.ensures.front)
    c.append_value.ensures.front

pub append_elements-returns-clause-front : goal.append_elements-returns-clause-front
append_elements-returns-clause-front t c =
    keeps_trans c.loop-i.invariant.front c.put-2.ensures.front

pub append_elements-loop-i-init : goal.append_elements-loop-i-init
append_elements-loop-i-init t c = record {
  text = ap (λ s. s ++ elements_left (type_of c.args.schema.now c.args.elem) c.args.parts.now 0)
      c.in_ok-put.ensures.text ∙ append_assoc c.args.out.now.items (91 ∷ []) _;
  front = c.in_ok-put.ensures.front;
}

pub append_elements-loop-i-preserved : goal.append_elements-loop-i-preserved
append_elements-loop-i-preserved t c = record {
  text = elements_more (type_of c.args.schema.now c.args.elem) c.args.parts.now c.loop-i.i
      c.index-parts-i.result c.loop-i.out.items c.put_comma.new.out.items
      c.append_value.new.out.items _ c.loop-i-test.true c.index-parts-i.is
      c.loop-i.invariant.text c.in_ok-put_comma.ensures.text c.in_ok-append_value.ensures.text;
  front = keeps_trans (keeps_trans c.loop-i.invariant.front c.in_ok-put_comma.ensures.front)
      c.in_ok-append_value.ensures.front;
}

pub append_elements-returns-clause-text : goal.append_elements-returns-clause-text
append_elements-returns-clause-text t c =
    on_ok_weaker c.put-2.result
    (λ e. elements_end (type_of c.args.schema.now c.args.elem) c.args.parts.now c.loop-i.i
    c.loop-i.out.items c.put-2.new.out.items _ c.loop-i-test.false c.loop-i.invariant.text e)
    c.put-2.ensures.text
