use Rattle.std.proofs.Common.{◌∙◌, ◌+◌, ◌-◌, ◌*◌, ◌^◌, ◌++◌, ◌≡◌, ◌≤◌, ◌<◌, ap, sym, subst, arith, rules, List, ℕ, length, map, take, drop, set, replicate, Some, None, slice_get}
use Rattle.std.proofs.lemmas.List.{length-set}
use Rattle.std.specs.List.{AllByRecursion}
use Rattle.ssz_schema.specs.Types.{SszType, container}
use Rattle.ssz_schema.specs.Sizes.{fixed_size, head_size, part_sizes}
use Rattle.ssz_schema.specs.Legal.{IsLegal}
use Rattle.ssz_schema.specs.Unfolding.{type_of, tree_over, AreBelow, fields_over, options_over, type_tree_at}
use Rattle.ssz_value.specs.declared.value.Value.{Value}
use Rattle.ssz_value.specs.declared.value.Value.TheVariants.{Union}
use Rattle.ssz_value.specs.Values.{SszValue, number}
use Rattle.ssz_value.specs.Standing.{value_of, IsValue}
use Rattle.ssz_bytes.specs.Bytes.{le_bytes}
use Rattle.ssz_value.specs.Encoding.{serialize, joined, joined_alike, bodies, heads_length, field_encodings}
use Rattle.ssz_value.proofs.ExactLaw.{agrees}
use Rattle.ssz_value.proofs.ValueLemmas.{seq_is, bytes_are, chosen_none_is}
use Rattle.ssz_value.proofs.Sequences.{items-values}
use Rattle.ssz_value.proofs.OptionLemmas.{option_below}
use Rattle.ssz_value.proofs.PartLemmas.{part_known, known_weaker, field_count_is}
use Rattle.ssz_value.specs.Shapes.{IsSequence, AreFields, parts_of}
use Rattle.ssz_codec.specs.Writing.{WritesEncoding}
use Rattle.ssz_value.proofs.FormLemmas.{seq_elements, bytes_elements, seq_fields, chosen_fits, union_inner, chosen_option, value_of_chosen, element_at, vector_sequence, list_sequence}
use Rattle.ssz_codec.proofs.WritingLemmas.{ElementsLeft-room, ElementsLeft-more, FieldsLeft-room, FieldsLeft-more, FieldsLeft-value, FieldsLeft-within, joined_writes}
use Rattle.ssz_parts.proofs.PartSizes.{heads_alike}
use Rattle.ssz_codec.proofs.RoomLemmas.{puts_fixed, puts_variable, room_behind, joined_elements, elements_length, fields_length}
use Rattle.ssz_codec.proofs.EncodingLemmas.{chosen_bytes, chosen_writes, none_writes, run_bytes, vector_enc, list_enc}
use Rattle.ssz_codec.proofs.encoding.+write.Goals as goal

pub put_part-write_value-len-requires : goal.put_part-write_value-len-requires
put_part-write_value-len-requires t c =
    let ty = type_of c.args.schema.now c.args.id in
    let size : fixed_size (type_of c.args.schema.now c.args.id) ≡ Some c.in-Some.field-0 =
    sym c.fixed_size.ensures.exact ∙ c.in-Some.is in
    let sized = (agrees c.args.schema.now.format
    (type_of c.args.schema.now c.args.id) c.ty-legal.ensures.legal).sized c.in-Some.field-0
    (value_of c.args.part.now) size c.requires.value.fits in
    let head : head_size (fixed_size (type_of c.args.schema.now c.args.id)) ≡ c.in-Some.field-0 =
    ap head_size size in
    let behind = room_behind c.args.front.now c.args.at.0 in
    let room : length (serialize (type_of c.args.schema.now c.args.id)
    (value_of c.args.part.now)) ≤ length
    (take (length c.args.front.now - c.args.at.0) (drop c.args.at.0 c.args.front.now)) =
    omega (arith, c.requires.place, head, sized, behind) in
    let short : length (take (length c.args.front.now - c.args.at.0)
    (drop c.args.at.0 c.args.front.now)) < 2 ^ 32 = omega (arith, c.requires.short, behind) in
    search rules

pub put_part-returns-in-Some : goal.put_part-returns-in-Some
put_part-returns-in-Some t c =
    let size : fixed_size (type_of c.args.schema.now c.args.id) ≡ Some c.in-Some.field-0 =
    sym c.fixed_size.ensures.exact ∙ c.in-Some.is in
    let sized = (agrees c.args.schema.now.format
    (type_of c.args.schema.now c.args.id) c.ty-legal.ensures.legal).sized c.in-Some.field-0
    (value_of c.args.part.now) size c.requires.value.fits in
    puts_fixed (fixed_size (type_of c.args.schema.now c.args.id)) c.in-Some.field-0
    c.write_value-len.result
    (serialize (type_of c.args.schema.now c.args.id) (value_of c.args.part.now)) c.args.at
    c.args.front.now c.args.back.now c.write_value-len.new.room _
    size sized c.write_value-len.ensures (omega (arith, c.requires.place))

pub put_part-returns-in-None : goal.put_part-returns-in-None
put_part-returns-in-None t c =
    let size : fixed_size (type_of c.args.schema.now c.args.id) ≡ None =
    sym c.fixed_size.ensures.exact ∙ c.in-None.is in
    let head : head_size (fixed_size (type_of c.args.schema.now c.args.id)) ≡ 4 =
    ap head_size size in
    let offset : c.put_uint.new.bytes ≡ le_bytes 4 (length c.args.front.now + c.args.at.1) =
    c.put_uint.ensures in
    puts_variable (fixed_size (type_of c.args.schema.now c.args.id))
    c.write_value-len-in-None.result
    (serialize (type_of c.args.schema.now c.args.id) (value_of c.args.part.now)) c.args.at
    c.args.front.now c.args.back.now c.put_uint.new.bytes _ c.write_value-len-in-None.new.room _
    size offset c.write_value-len-in-None.ensures (omega (arith, c.requires.place))
    (omega (arith, c.requires.end))

pub put_elements-put_part-at-requires : goal.put_elements-put_part-at-requires
put_elements-put_part-at-requires t c =
    let value = element_at (type_of c.args.schema.now c.args.elem) c.args.parts.now
    c.loop-part.part-index c.part-item.result c.requires.parts c.loop-part-test.true
    c.part-item.is in
    let room = ElementsLeft-room
    (type_of c.args.schema.now c.args.elem) c.args.parts.now c.loop-part.part-index
    c.part-item.result c.loop-part.at c.loop-part.front c.loop-part.back c.loop-part.invariant
    c.loop-part-test.true c.part-item.is in
    let place = room.place in
    let end = room.end in
    let short : length c.loop-part.front + length c.loop-part.back < 2 ^ 32 =
    omega (arith, c.requires.short, c.loop-part.auto.front, c.loop-part.auto.back) in
    search rules

pub put_elements-loop-part-preserved : goal.put_elements-loop-part-preserved
put_elements-loop-part-preserved t c =
    ElementsLeft-more (type_of c.args.schema.now c.args.elem) c.args.parts.now
    c.loop-part.part-index c.part-item.result c.loop-part.at c.put_part-at.result
    c.loop-part.front c.loop-part.back c.put_part-at.new.front c.put_part-at.new.back
    c.loop-part.invariant c.loop-part-test.true c.part-item.is c.put_part-at.ensures
    c.put_part-at.auto.front c.put_part-at.auto.back

pub put_fields-put_part-at-requires : goal.put_fields-put_part-at-requires
put_fields-put_part-at-requires t c =
    let within = FieldsLeft-within c.args.schema.now.trees c.args.fields.now c.args.parts.now
    c.requires.parts c.loop-i.i c.loop-i-test.true in
    let value : IsValue (type_tree_at c.args.schema.now.trees c.index-fields-i.result.1)
    c.index-parts-i.result =
    FieldsLeft-value c.args.schema.now.trees c.args.fields.now c.args.parts.now c.loop-i.i
    c.index-fields-i.result c.index-parts-i.result c.loop-i.at c.loop-i.front c.loop-i.back
    c.loop-i.invariant c.loop-i-test.true within c.index-fields-i.is c.index-parts-i.is in
    let room = FieldsLeft-room c.args.schema.now.trees c.args.fields.now c.args.parts.now c.loop-i.i
    c.index-fields-i.result c.index-parts-i.result c.loop-i.at c.loop-i.front c.loop-i.back
    c.loop-i.invariant c.loop-i-test.true within c.index-fields-i.is c.index-parts-i.is in
    let place = room.place in
    let end = room.end in
    let below : c.index-fields-i.result.1 < c.args.id =
    part_known c.args.id c.args.fields.now c.loop-i.i c.index-fields-i.result c.loop-i-test.true
    c.index-fields-i.is c.requires.before in
    let short : length c.loop-i.front + length c.loop-i.back < 2 ^ 32 =
    omega (arith, c.requires.short, c.loop-i.auto.front, c.loop-i.auto.back) in
    search rules

pub put_fields-loop-i-preserved : goal.put_fields-loop-i-preserved
put_fields-loop-i-preserved t c =
    let within = FieldsLeft-within c.args.schema.now.trees c.args.fields.now c.args.parts.now
    c.requires.parts c.loop-i.i c.loop-i-test.true in
    FieldsLeft-more c.args.schema.now.trees c.args.fields.now c.args.parts.now c.loop-i.i
    c.index-fields-i.result c.index-parts-i.result c.loop-i.at c.put_part-at.result
    c.loop-i.front c.loop-i.back c.put_part-at.new.front c.put_part-at.new.back
    c.loop-i.invariant c.loop-i-test.true within c.index-fields-i.is c.index-parts-i.is
    c.put_part-at.ensures c.put_part-at.auto.front c.put_part-at.auto.back

pub write_elements-overflow_mul-heads : goal.write_elements-overflow_mul-heads
write_elements-overflow_mul-heads t c =
    let size = elements_length c.args.schema.now.format
    (type_of c.args.schema.now c.args.elem) c.args.parts.now c.ty-legal.ensures.legal
    c.requires.parts in
    let product = ap (λ n. length c.args.parts.now * n) (c.head_len.ensures
    ∙ ap head_size c.fixed_size.ensures.exact) in
    omega (arith, size, product, c.requires.room, c.requires.short)

pub write_elements-split_at_mut-front-requires : goal.write_elements-split_at_mut-front-requires
write_elements-split_at_mut-front-requires t c =
    let size = elements_length c.args.schema.now.format
    (type_of c.args.schema.now c.args.elem) c.args.parts.now c.ty-legal.ensures.legal
    c.requires.parts in
    let product = ap (λ n. length c.args.parts.now * n) (c.head_len.ensures
    ∙ ap head_size c.fixed_size.ensures.exact) in
    omega (arith, size, product, c.requires.room)

pub write_elements-put_elements-requires : goal.write_elements-put_elements-requires
write_elements-put_elements-requires t c =
    let ty = type_of c.args.schema.now c.args.elem in
    let size = elements_length c.args.schema.now.format
    (type_of c.args.schema.now c.args.elem) c.args.parts.now c.ty-legal.ensures.legal
    c.requires.parts in
    let product = ap (λ n. length c.args.parts.now * n) (c.head_len.ensures
    ∙ ap head_size c.fixed_size.ensures.exact) in
    let front : length c.split_at_mut-front.result.0.now
    ≡ heads_length (replicate (length c.args.parts.now)
    (fixed_size (type_of c.args.schema.now c.args.elem))) =
    c.split_at_mut-front.ensures.front_len ∙ product
    ∙ sym (heads_alike (length c.args.parts.now) (fixed_size ty)) in
    let back : length (bodies
    (replicate (length c.args.parts.now) (fixed_size (type_of c.args.schema.now c.args.elem)))
    (map (serialize (type_of c.args.schema.now c.args.elem))
    (map value_of c.args.parts.now))) ≤ length c.split_at_mut-front.result.1.now =
    omega (arith, size, product, c.requires.room, c.split_at_mut-front.ensures.back_len) in
    let short : length c.split_at_mut-front.result.0.now + length
    c.split_at_mut-front.result.1.now < 2 ^ 32 =
    omega (
      arith,
      c.requires.short,
      c.split_at_mut-front.ensures.back_len,
      c.split_at_mut-front.ensures.front_len,
    ) in
    search rules

pub write_elements-returns : goal.write_elements-returns
write_elements-returns t c =
    let product = ap (λ n. length c.args.parts.now * n) (c.head_len.ensures
    ∙ ap head_size c.fixed_size.ensures.exact) in
    let alike = heads_alike (length c.args.parts.now)
    (fixed_size (type_of c.args.schema.now c.args.elem)) in
    subst (λ (bytes : List ℕ).
    WritesEncoding bytes (length c.args.parts.now * c.head_len.result + c.put_elements.result)
    (c.put_elements.new.front ++ c.put_elements.new.back))
    (sym (joined_elements (type_of c.args.schema.now c.args.elem) c.args.parts.now))
    (joined_writes _ _ c.put_elements.result _ c.put_elements.new.front c.put_elements.new.back
    c.put_elements.ensures
    (omega (
      arith,
      c.put_elements.auto.front,
      c.split_at_mut-front.ensures.front_len,
      product,
      alike,
    ))
    (omega (arith, c.put_elements.auto.front, c.split_at_mut-front.ensures.front_len)))

pub
    write_fields-container_heads_len-heads-requires-clause-short :
    goal.write_fields-container_heads_len-heads-requires-clause-short
write_fields-container_heads_len-heads-requires-clause-short t c =
    let size = fields_length c.args.schema.now.format
    (fields_over c.args.schema.now.trees c.args.fields.now) c.args.parts.now c.requires.legal.1
    c.requires.parts in
    omega (arith, size, c.requires.room, c.requires.short)

pub write_fields-split_at_mut-front-requires : goal.write_fields-split_at_mut-front-requires
write_fields-split_at_mut-front-requires t c =
    let size = fields_length c.args.schema.now.format
    (fields_over c.args.schema.now.trees c.args.fields.now) c.args.parts.now c.requires.legal.1
    c.requires.parts in
    omega (arith, size, c.requires.room, c.container_heads_len-heads.ensures)

pub write_fields-put_fields-requires : goal.write_fields-put_fields-requires
write_fields-put_fields-requires t c =
    let size = fields_length c.args.schema.now.format
    (fields_over c.args.schema.now.trees c.args.fields.now) c.args.parts.now c.requires.legal.1
    c.requires.parts in
    let front : length c.split_at_mut-front.result.0.now
    ≡ heads_length (part_sizes (fields_over c.args.schema.now.trees c.args.fields.now)) =
    c.split_at_mut-front.ensures.front_len ∙ c.container_heads_len-heads.ensures in
    let back : length (bodies (part_sizes (fields_over c.args.schema.now.trees c.args.fields.now))
    (field_encodings (fields_over c.args.schema.now.trees c.args.fields.now)
    (map value_of c.args.parts.now))) ≤ length c.split_at_mut-front.result.1.now =
    omega (
      arith,
      size,
      c.container_heads_len-heads.ensures,
      c.requires.room,
      c.split_at_mut-front.ensures.back_len,
    ) in
    let short : length c.split_at_mut-front.result.0.now + length
    c.split_at_mut-front.result.1.now < 2 ^ 32 =
    omega (
      arith,
      c.requires.short,
      c.split_at_mut-front.ensures.back_len,
      c.split_at_mut-front.ensures.front_len,
    ) in
    search rules

pub write_fields-returns : goal.write_fields-returns
write_fields-returns t c =
    joined_writes _ _ c.put_fields.result _ c.put_fields.new.front c.put_fields.new.back
    c.put_fields.ensures
    (omega (
      arith,
      c.put_fields.auto.front,
      c.split_at_mut-front.ensures.front_len,
      c.container_heads_len-heads.ensures,
    ))
    (omega (arith, c.put_fields.auto.front, c.split_at_mut-front.ensures.front_len))

pub write_chosen-write_value-requires : goal.write_chosen-write_value-requires
write_chosen-write_value-requires t c =
    let here : Some (Some c.in-Some-Some.option)
    ≡ slice_get c.args.options.now c.in-Union.selector =
    ap Some (sym c.in-Some-Some.field-0-is) ∙ sym c.in-Some-Some.is ∙ c.option_at.ensures in
    let inner = union_inner c.args.schema.now.trees c.args.options.now c.args.value.now
    c.in-Union.selector c.in-Union.inner c.in-Some.inner c.in-Union.is c.in-Some.is
    c.requires.value in
    let fits = chosen_fits c.args.schema.now.trees c.args.options.now c.in-Union.selector
    c.in-Some-Some.option c.in-Some.inner inner here in
    let value : IsValue (type_of c.args.schema.now c.in-Some-Some.option) c.deref.result.now =
    subst (IsValue (type_of c.args.schema.now c.in-Some-Some.option))
    (sym c.deref.ensures) fits in
    let below : c.in-Some-Some.option < c.args.id =
    option_below c.args.options.now c.in-Union.selector c.in-Some-Some.option c.args.id here
    c.requires.before in
    let bytes = chosen_bytes c.args.schema.now.trees c.args.options.now c.in-Union.selector
    c.in-Some-Some.option (value_of c.args.value.now) (value_of c.in-Some.inner.value)
    (value_of_chosen c.args.value.now c.in-Union.selector c.in-Union.inner c.in-Some.inner
    c.in-Union.is c.in-Some.is) here in
    let same = ap (λ v. length
    (serialize (type_of c.args.schema.now c.in-Some-Some.option) (value_of v)))
    c.deref.ensures in
    let behind = room_behind (set c.args.room.now 0 c.in-Union.selector) 1 in
    let size = length-set c.args.room.now 0 c.in-Union.selector in
    let room : length (serialize (type_of c.args.schema.now c.in-Some-Some.option)
    (value_of c.deref.result.now)) ≤ length
    (take (length (set c.args.room.now 0 c.in-Union.selector) - 1)
    (drop 1 (set c.args.room.now 0 c.in-Union.selector))) =
    omega (arith, c.requires.room, ap length bytes, same, behind, size) in
    let short : length (take (length (set c.args.room.now 0 c.in-Union.selector) - 1)
    (drop 1 (set c.args.room.now 0 c.in-Union.selector))) < 2 ^ 32 =
    omega (arith, c.requires.short, behind, size) in
    search rules

pub write_chosen-returns-in-Some-Some : goal.write_chosen-returns-in-Some-Some
write_chosen-returns-in-Some-Some t c =
    let here : Some (Some c.in-Some-Some.option)
    ≡ slice_get c.args.options.now c.in-Union.selector =
    ap Some (sym c.in-Some-Some.field-0-is) ∙ sym c.in-Some-Some.is ∙ c.option_at.ensures in
    let bytes = chosen_bytes c.args.schema.now.trees c.args.options.now c.in-Union.selector
    c.in-Some-Some.option (value_of c.args.value.now) (value_of c.in-Some.inner.value)
    (value_of_chosen c.args.value.now c.in-Union.selector c.in-Union.inner c.in-Some.inner
    c.in-Union.is c.in-Some.is) here in
    let inner = subst (λ (v : Value).
    WritesEncoding (serialize (type_of c.args.schema.now c.in-Some-Some.option) (value_of v))
    c.write_value.result c.write_value.new.room) c.deref.ensures c.write_value.ensures in
    chosen_writes _ (serialize (type_of c.args.schema.now c.in-Some-Some.option)
    (value_of c.in-Some.inner.value)) c.args.room.now c.write_value.new.room _
    c.in-Union.selector c.write_value.result bytes
    (omega (arith, c.requires.room, ap length bytes)) inner

pub write_chosen-returns-in-Some-None : goal.write_chosen-returns-in-Some-None
write_chosen-returns-in-Some-None t c =
    let inner = union_inner c.args.schema.now.trees c.args.options.now c.args.value.now
    c.in-Union.selector c.in-Union.inner c.in-Some.inner c.in-Union.is c.in-Some.is
    c.requires.value in
    let some = chosen_option c.args.schema.now.trees c.args.options.now c.in-Union.selector
    c.in-Some.inner inner in
    let is : Some (Some some.0) ≡ Some None =
    some.1 ∙ sym c.option_at.ensures ∙ c.in-Some-None.is ∙ ap Some c.in-Some-None.field-0-is in
    absurd cc

pub write_chosen-returns-in-None-option_at : goal.write_chosen-returns-in-None-option_at
write_chosen-returns-in-None-option_at t c =
    let inner = union_inner c.args.schema.now.trees c.args.options.now c.args.value.now
    c.in-Union.selector c.in-Union.inner c.in-Some.inner c.in-Union.is c.in-Some.is
    c.requires.value in
    let some = chosen_option c.args.schema.now.trees c.args.options.now c.in-Union.selector
    c.in-Some.inner inner in
    let is : Some (Some some.0) ≡ None =
    some.1 ∙ sym c.option_at.ensures ∙ c.in-None-option_at.is in
    absurd cc

pub write_chosen-returns-in-None : goal.write_chosen-returns-in-None
write_chosen-returns-in-None t c =
    none_writes (options_over c.args.schema.now.trees c.args.options.now)
    (value_of c.args.value.now) c.in-Union.selector c.args.room.now
    (ap value_of (c.in-Union.is ∙ ap (Union c.in-Union.selector) c.in-None.is)
    ∙ chosen_none_is c.in-Union.selector) c.requires.room

pub write_container-write_fields-requires : goal.write_container-write_fields-requires
write_container-write_fields-requires t c =
    let fs = fields_over c.args.schema.now.trees c.args.fields.now in
    let all = seq_fields (fields_over c.args.schema.now.trees c.args.fields.now) c.in-Seq.parts
    (subst (IsValue (container (fields_over c.args.schema.now.trees c.args.fields.now)))
    c.in-Seq.is c.requires.value) in
    let parts : AreFields (fields_over c.args.schema.now.trees c.args.fields.now)
    c.as_slice.result.now = subst
    (AreFields (fields_over c.args.schema.now.trees c.args.fields.now))
    (sym c.as_slice.ensures.value) all in
    let bytes = ap (λ v. serialize (container fs) (value_of v)) c.in-Seq.is
    ∙ ap (serialize (container fs)) (seq_is c.in-Seq.parts)
    ∙ ap (λ vs. joined (part_sizes fs) (field_encodings fs vs))
    (items-values (map value_of c.in-Seq.parts.items)
    ∙ ap (map value_of) (sym c.as_slice.ensures.value)) in
    let room : length (joined (part_sizes (fields_over c.args.schema.now.trees c.args.fields.now))
    (field_encodings (fields_over c.args.schema.now.trees c.args.fields.now)
    (map value_of c.as_slice.result.now))) ≤ length c.args.room.now =
    omega (arith, c.requires.room, ap length bytes) in
    search rules

pub write_container-returns-in-Seq : goal.write_container-returns-in-Seq
write_container-returns-in-Seq t c =
    let fs = fields_over c.args.schema.now.trees c.args.fields.now in
    let bytes = ap (λ v. serialize (container fs) (value_of v)) c.in-Seq.is
    ∙ ap (serialize (container fs)) (seq_is c.in-Seq.parts)
    ∙ ap (λ vs. joined (part_sizes fs) (field_encodings fs vs))
    (items-values (map value_of c.in-Seq.parts.items)
    ∙ ap (map value_of) (sym c.as_slice.ensures.value)) in
    subst (λ (bytes : List ℕ). WritesEncoding bytes c.write_fields.result c.write_fields.new.room)
    (sym bytes) c.write_fields.ensures

pub write_sequence-write_elements-requires : goal.write_sequence-write_elements-requires
write_sequence-write_elements-requires t c =
    let ty = type_of c.args.schema.now c.args.elem in
    let all = seq_elements (type_of c.args.schema.now c.args.elem) c.in-Seq.parts
    (subst (IsSequence (type_of c.args.schema.now c.args.elem)) c.in-Seq.is c.requires.value) in
    let parts : AllByRecursion
    (IsValue (type_of c.args.schema.now c.args.elem)) c.as_slice.result.now =
    subst (AllByRecursion (IsValue (type_of c.args.schema.now c.args.elem)))
    (sym c.as_slice.ensures.value) all in
    let same : parts_of (value_of c.args.value.now) ≡ map value_of c.as_slice.result.now =
    ap (λ v. parts_of (value_of v)) c.in-Seq.is ∙ ap parts_of (seq_is c.in-Seq.parts)
    ∙ items-values (map value_of c.in-Seq.parts.items)
    ∙ ap (map value_of) (sym c.as_slice.ensures.value) in
    let size = ap (λ vs. length (joined_alike (fixed_size ty) (map (serialize ty) vs))) same in
    let room : length (joined_alike (fixed_size (type_of c.args.schema.now c.args.elem))
    (map (serialize (type_of c.args.schema.now c.args.elem))
    (map value_of c.as_slice.result.now))) ≤ length c.args.room.now =
    omega (arith, c.requires.room, size) in
    search rules

pub write_sequence-returns-in-Seq : goal.write_sequence-returns-in-Seq
write_sequence-returns-in-Seq t c =
    let ty = type_of c.args.schema.now c.args.elem in
    let same : parts_of (value_of c.args.value.now) ≡ map value_of c.as_slice.result.now =
    ap (λ v. parts_of (value_of v)) c.in-Seq.is ∙ ap parts_of (seq_is c.in-Seq.parts)
    ∙ items-values (map value_of c.in-Seq.parts.items)
    ∙ ap (map value_of) (sym c.as_slice.ensures.value) in
    subst (λ (vs : List SszValue).
    WritesEncoding (joined_alike (fixed_size (type_of c.args.schema.now c.args.elem))
    (map (serialize (type_of c.args.schema.now c.args.elem)) vs)) c.write_elements.result
    c.write_elements.new.room) (sym same) c.write_elements.ensures

pub write_sequence-write_bytes-requires : goal.write_sequence-write_bytes-requires
write_sequence-write_bytes-requires t c =
    let byte = bytes_elements (type_of c.args.schema.now c.args.elem) c.in-Bytes.run'
    (subst (IsSequence (type_of c.args.schema.now c.args.elem)) c.in-Bytes.is c.requires.value)
    in
    let whole = ap value_of c.in-Bytes.is ∙ bytes_are c.in-Bytes.run' in
    let bytes = run_bytes (type_of c.args.schema.now c.args.elem)
    (value_of c.args.value.now) c.in-Bytes.run' byte (ap parts_of whole
    ∙ items-values (map number c.in-Bytes.run')) c.requires.value.fit whole in
    omega (arith, c.requires.room, ap length bytes, ap length c.as_slice-in-Bytes.ensures.value)

pub write_sequence-returns-in-Bytes : goal.write_sequence-returns-in-Bytes
write_sequence-returns-in-Bytes t c =
    let byte = bytes_elements (type_of c.args.schema.now c.args.elem) c.in-Bytes.run'
    (subst (IsSequence (type_of c.args.schema.now c.args.elem)) c.in-Bytes.is c.requires.value)
    in
    let whole = ap value_of c.in-Bytes.is ∙ bytes_are c.in-Bytes.run' in
    let bytes = run_bytes (type_of c.args.schema.now c.args.elem)
    (value_of c.args.value.now) c.in-Bytes.run' byte (ap parts_of whole
    ∙ items-values (map number c.in-Bytes.run')) c.requires.value.fit whole in
    subst (λ (bytes : List ℕ). WritesEncoding bytes c.write_bytes.result c.write_bytes.new.room)
    (c.as_slice-in-Bytes.ensures.value ∙ sym bytes) c.write_bytes.ensures

pub write_value-write_sequence-requires : goal.write_value-write_sequence-requires
write_value-write_sequence-requires t c =
    let is = sym c.ty.ensures.form ∙ ap (tree_over c.args.schema.now.trees) c.in-Vector.is in
    let elem = type_tree_at c.args.schema.now.trees c.in-Vector.elem in
    let value : IsSequence (type_of c.args.schema.now c.in-Vector.elem) c.args.value.now =
    vector_sequence (type_tree_at c.args.schema.now.trees c.in-Vector.elem) c.in-Vector.field-1
    c.args.value.now (subst (λ (ty : SszType). IsValue ty c.args.value.now) is c.requires.value)
    in
    let size = ap (λ ty. length (serialize ty (value_of c.args.value.now))) is
    ∙ ap length (vector_enc (type_tree_at c.args.schema.now.trees c.in-Vector.elem)
    c.in-Vector.field-1 (value_of c.args.value.now)) in
    let room : length (joined_alike (fixed_size (type_of c.args.schema.now c.in-Vector.elem))
    (map (serialize (type_of c.args.schema.now c.in-Vector.elem))
    (parts_of (value_of c.args.value.now)))) ≤ length c.args.room.now =
    omega (arith, c.requires.room, size) in
    search rules

pub write_value-write_sequence-requires-in-List : goal.write_value-write_sequence-requires-in-List
write_value-write_sequence-requires-in-List t c =
    let is = sym c.ty.ensures.form ∙ ap (tree_over c.args.schema.now.trees) c.in-List.is in
    let value : IsSequence (type_of c.args.schema.now c.in-List.elem) c.args.value.now =
    list_sequence (type_tree_at c.args.schema.now.trees c.in-List.elem) c.in-List.field-1
    c.args.value.now (subst (λ (ty : SszType). IsValue ty c.args.value.now) is c.requires.value)
    in
    let size = ap (λ ty. length (serialize ty (value_of c.args.value.now))) is
    ∙ ap length (list_enc (type_tree_at c.args.schema.now.trees c.in-List.elem) c.in-List.field-1
    (value_of c.args.value.now)) in
    let room : length (joined_alike (fixed_size (type_of c.args.schema.now c.in-List.elem))
    (map (serialize (type_of c.args.schema.now c.in-List.elem))
    (parts_of (value_of c.args.value.now)))) ≤ length c.args.room.now =
    omega (arith, c.requires.room, size) in
    search rules

pub write_value-returns-in-Vector : goal.write_value-returns-in-Vector
write_value-returns-in-Vector t c =
    let is = sym c.ty.ensures.form ∙ ap (tree_over c.args.schema.now.trees) c.in-Vector.is in
    let bytes = ap (λ ty. serialize ty (value_of c.args.value.now)) is
    ∙ vector_enc (type_tree_at c.args.schema.now.trees c.in-Vector.elem) c.in-Vector.field-1
    (value_of c.args.value.now) in
    subst (λ (bytes : List ℕ).
    WritesEncoding bytes c.write_sequence.result c.write_sequence.new.room)
    (sym bytes) c.write_sequence.ensures

pub write_value-returns-in-List : goal.write_value-returns-in-List
write_value-returns-in-List t c =
    let is = sym c.ty.ensures.form ∙ ap (tree_over c.args.schema.now.trees) c.in-List.is in
    let bytes = ap (λ ty. serialize ty (value_of c.args.value.now)) is
    ∙ list_enc (type_tree_at c.args.schema.now.trees c.in-List.elem) c.in-List.field-1
    (value_of c.args.value.now) in
    subst (λ (bytes : List ℕ).
    WritesEncoding bytes c.write_sequence-in-List.result c.write_sequence-in-List.new.room)
    (sym bytes) c.write_sequence-in-List.ensures

pub write_value-write_container-requires : goal.write_value-write_container-requires
write_value-write_container-requires t c =
    let P : List (List ℕ × ℕ) → Type 0 =
    AllByRecursion (λ (part : List ℕ × ℕ). part.1 < c.args.id) in
    let all : P c.in-Container.fields.items =
    subst (AreBelow c.args.id) c.in-Container.is c.ty.ensures.before in
    let known : P c.as_slice-in-Container.result.now =
    subst P (sym c.as_slice-in-Container.ensures.value) all in
    let is : type_of c.args.schema.now c.args.id
    ≡ container (fields_over c.args.schema.now.trees c.as_slice-in-Container.result.now) =
    sym c.ty.ensures.form ∙ ap (tree_over c.args.schema.now.trees) c.in-Container.is
    ∙ ap (λ fs. container (fields_over c.args.schema.now.trees fs))
    (sym c.as_slice-in-Container.ensures.value) in
    let legal = subst (IsLegal c.args.schema.now.format) is c.ty.ensures.legal in
    let value = subst (λ (ty : SszType). IsValue ty c.args.value.now) is c.requires.value in
    let room : length (serialize (container
    (fields_over c.args.schema.now.trees c.as_slice-in-Container.result.now))
    (value_of c.args.value.now)) ≤ length c.args.room.now =
    omega (
      arith,
      c.requires.room,
      ap (λ ty. length (serialize ty (value_of c.args.value.now))) is,
    ) in
    search rules

pub write_fields-container_heads_len-heads-requires-clause-known :
    goal.write_fields-container_heads_len-heads-requires-clause-known
write_fields-container_heads_len-heads-requires-clause-known t c =
    known_weaker c.args.id (length c.args.schema.now.trees) c.args.fields.now c.requires.known
    c.requires.before

pub put_fields-bounds-parts-i : goal.put_fields-bounds-parts-i
put_fields-bounds-parts-i t c =
    let even = field_count_is c.args.schema.now.trees c.args.fields.now c.args.parts.now
    c.requires.parts in
    omega (arith, even)
