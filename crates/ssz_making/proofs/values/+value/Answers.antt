use Rattle.std.proofs.Common.{rules, ◌≡◌, ◌∙◌, ◌+◌, ◌/◌, ◌<◌, ◌≤◌, ◌^◌, ◌++◌, ◌∷◌, length, map, take, slice_get, List, [], Bool, Some, None, ℕ, refl, sym, ap, subst, arith}
use Rattle.std.specs.List.{AllByRecursion}
use Rattle.std.proofs.lemmas.List.{length-map}
use Rattle.ssz_schema.specs.Types.{SszType, container}
use Rattle.ssz_schema.specs.Sizes.{basic_size, element_chunks}
use Rattle.ssz_schema.specs.Unfolding.{type_of, type_tree_at, tree_over, fields_over, AreBelow}
use Rattle.ssz_value.specs.declared.value.Value.{Value}
use Rattle.ssz_value.specs.declared.value.Value.TheVariants.{Bytes, Union}
use Rattle.ssz_value.specs.Values.{SszValue, chosen, chosen_none}
use Rattle.ssz_value.specs.Standing.{value_of, IsValue}
use Rattle.ssz_value.specs.Shapes.{IsSequence, AreFields, parts_of, part_count_of}
use Rattle.ssz_value.specs.Trees.{number_chunk}
use Rattle.ssz_value.proofs.FormLemmas.{vector_sequence, list_sequence, seq_fields, element_at, chosen_fits, union_inner, value_of_chosen}
use Rattle.ssz_value.proofs.PartLemmas.{Part as FieldPart, part_known, field_count_is}
use Rattle.ssz_value.proofs.ValueLemmas.{chosen_none_is}
use Rattle.ssz_packing.proofs.Arms.{container_room}
use Rattle.ssz_packing.proofs.Bounds.{basic_divides}
use Rattle.ssz_packing.proofs.Options.{below_at}
use Rattle.ssz_packing.proofs.ValueArms.{HasValues-seq, HasBitValues-bitvector, HasBitList-bitlist, HasVector-vector, HasList-list, HasByteValues-bytes, parts_of_seq, field_value}
use Rattle.ssz_packing.proofs.Lists.{take-map-next}
use Rattle.std.specs.Prelude.{IsSome}
use Rattle.std.proofs.Common.{◌-◌, drop, length-drop}
use Rattle.std.proofs.Math.Seq.{take-add}
use Rattle.std.proofs.lemmas.List.{take_all, length-take-le}
use Rattle.ssz_making.specs.Nodes.{new_nodes}
use Rattle.ssz_making.specs.Parts.{MadePart, whole_of, joined_leaf, part_of_value, none_part, elements_part, field_parts}
use Rattle.ssz_making.proofs.Alike.{values_alike}
use Rattle.ssz_making.proofs.BytesForms.{same_nodes}
use Rattle.ssz_making.proofs.Placing.{IsAt, IsAt-map, split-at}
use Rattle.ssz_making.proofs.ValueForms.{basic_value, bitvector_value, bitlist_value, vector_value, list_value, container_value, length-field_values, field-value-at, chosen_value, none_value, packed_values, composite_values, byte_values, has_type}
use Rattle.ssz_making.proofs.values.+value.Goals as goal

-- parts in their full tree
-- values of one type
value-at : (t : SszType) (vs : List Value) (i : ℕ) (v : Value) → i < length vs
    → take (i + 1) (map value_of vs) ≡ take i (map value_of vs) ++ value_of v ∷ []
    → IsAt (map (part_of_value t) (map value_of vs)) i (part_of_value t (value_of v))
value-at t vs i v below more = IsAt-map (part_of_value t) (map value_of vs) i (value_of v)
    (omega (arith, below, length-map vs value_of)) more

many_values : (t : SszType) (vs : List Value)
    → length (map (part_of_value t) (map value_of vs)) ≡ length vs
many_values t vs = length-map (map value_of vs) (part_of_value t) ∙ length-map vs value_of

pub values_made-value_part-out-requires : goal.values_made-value_part-out-requires
values_made-value_part-out-requires g t c κs within =
    let ty = type_of c.args.schema.now c.args.elem in
    let all = map (part_of_value ty) (map value_of c.args.parts.now) in
    let many : length all ≡ length c.args.parts.now = many_values ty c.args.parts.now in
    let value : IsValue ty c.index-parts-i.result =
    element_at ty c.args.parts.now c.elements.i c.index-parts-i.result c.requires.values
    c.elements-test.true c.index-parts-i.is in
    let at = value-at ty c.args.parts.now c.elements.i c.index-parts-i.result
    c.elements-test.true (take-map-next value_of c.args.parts.now c.elements.i
    c.index-parts-i.result c.elements-test.true c.index-parts-i.is) in
    let split = split-at all c.elements.i _ at in
    let space = subst (λ ps. g.M.Maker.room c.args.maker.now (whole_of c.args.depth ps).nodes)
    (sym split) c.requires.room in
    let room : g.M.Maker.room c.elements.maker (new_nodes ty (value_of c.index-parts-i.result)) =
    g.met.M.Maker.room_next _ _ c.args.depth (length c.args.parts.now) (take c.elements.i all)
    (drop (c.elements.i + 1) all) (part_of_value ty (value_of c.index-parts-i.result)) _
    c.elements.invariant space in
    search rules

pub values_made-push-requires : goal.values_made-push-requires
values_made-push-requires g t c =
    let ty = type_of c.args.schema.now c.args.elem in
    let all = map (part_of_value ty) (map value_of c.args.parts.now) in
    let many : length all ≡ length c.args.parts.now = many_values ty c.args.parts.now in
    let at = value-at ty c.args.parts.now c.elements.i c.index-parts-i.result
    c.elements-test.true (take-map-next value_of c.args.parts.now c.elements.i
    c.index-parts-i.result c.elements-test.true c.index-parts-i.is) in
    let split = split-at all c.elements.i _ at in
    let space = subst (λ ps. g.M.Maker.room c.args.maker.now (whole_of c.args.depth ps).nodes)
    (sym split) c.requires.room in
    record {
      start = c.args.maker.now;
      middle = c.elements.maker;
      depth = c.args.depth;
      before = take c.elements.i all;
      one = _;
      rest = drop (c.elements.i + 1) all;
      pushed = subst (λ k. g.M.Maker.gathered c.args.maker.now c.elements.maker c.args.depth k
          (take c.elements.i all) c.elements.rows)
          (sym (ap (λ (ps : List MadePart). length ps) split ∙ many)) c.elements.invariant;
      is = c.value_part-out.ensures;
      few = subst (λ (ps : List MadePart). length ps ≤ 2 ^ c.args.depth) (sym split)
          (omega (arith, many, c.requires.few));
      space = space;
    }

pub values_made-elements-preserved : goal.values_made-elements-preserved
values_made-elements-preserved g t c =
    let ty = type_of c.args.schema.now c.args.elem in
    let all = map (part_of_value ty) (map value_of c.args.parts.now) in
    let many : length all ≡ length c.args.parts.now = many_values ty c.args.parts.now in
    let value : IsValue ty c.index-parts-i.result =
    element_at ty c.args.parts.now c.elements.i c.index-parts-i.result c.requires.values
    c.elements-test.true c.index-parts-i.is in
    let at = value-at ty c.args.parts.now c.elements.i c.index-parts-i.result
    c.elements-test.true (take-map-next value_of c.args.parts.now c.elements.i
    c.index-parts-i.result c.elements-test.true c.index-parts-i.is) in
    let more : List MadePart = take c.repeats.result (drop (c.elements.i + 1) all) in
    let long : length (take c.repeats.result (drop (c.elements.i + 1) all))
    ≡ c.repeats.result = length-take-le c.repeats.result (drop (c.elements.i + 1) all)
    (omega (
      arith,
      many,
      length-drop (c.elements.i + 1) all,
      c.repeats.ensures.at_most,
      c.elements-test.true,
    )) in
    let one = subst (λ ps. g.M.Maker.gathered c.args.maker.now c.push.new.self c.args.depth
    (length c.args.parts.now) ps c.push.new.rows) (sym at.more)
    (c.push.ensures _ _ _ _ _ _ c.elements.invariant c.value_part-out.ensures) in
    subst (λ ps. g.M.Maker.gathered c.args.maker.now c.repeats.new.maker c.args.depth
    (length c.args.parts.now) ps c.repeats.new.rows)
    (sym (take-add (c.elements.i + 1) c.repeats.result all))
    (c.repeats.ensures.pushed _ _ _ _ _ _ more _ c.value_part-out.ensures
    (λ some. values_alike ty c.args.parts.now c.elements.i c.repeats.result
    c.index-parts-i.result c.requires.values value
    (subst IsSome c.fixed_size-size.ensures.exact some)) long one)

pub values_made-finish-requires : goal.values_made-finish-requires
values_made-finish-requires g t c =
    let ty = type_of c.args.schema.now c.args.elem in
    let all = map (part_of_value ty) (map value_of c.args.parts.now) in
    let many : length all ≡ length c.args.parts.now = many_values ty c.args.parts.now in
    let whole_row : take c.elements.i all ≡ all = take_all c.elements.i all (omega (arith, many)) in
    let last = subst (λ k. g.M.Maker.gathered c.args.maker.now c.elements.maker c.args.depth k all
    c.elements.rows) (sym many)
    (subst (λ ps. g.M.Maker.gathered c.args.maker.now c.elements.maker c.args.depth
    (length c.args.parts.now) ps c.elements.rows) whole_row c.elements.invariant) in
    record {
      start = c.args.maker.now;
      depth = c.args.depth;
      parts = all;
      pushed = last;
      few = omega (arith, many, c.requires.few);
      space = c.requires.room;
    }

pub values_made-returns : goal.values_made-returns
values_made-returns g t c =
    let ty = type_of c.args.schema.now c.args.elem in
    let all = map (part_of_value ty) (map value_of c.args.parts.now) in
    let many : length all ≡ length c.args.parts.now = many_values ty c.args.parts.now in
    let whole_row : take c.elements.i all ≡ all = take_all c.elements.i all (omega (arith, many)) in
    let last = subst (λ k. g.M.Maker.gathered c.args.maker.now c.elements.maker c.args.depth k all
    c.elements.rows) (sym many)
    (subst (λ ps. g.M.Maker.gathered c.args.maker.now c.elements.maker c.args.depth
    (length c.args.parts.now) ps c.elements.rows) whole_row c.elements.invariant) in
    c.finish.ensures _ _ _ last

-- fields

many_fields : (trees : List SszType) (fields : List FieldPart) (vs : List Value)
    → AreFields (fields_over trees fields) vs
    → length (field_parts (fields_over trees fields) (map value_of vs)) ≡ length fields
many_fields trees fields vs are =
    let count : length (map value_of vs) ≡ length fields = omega (
      arith,
      field_count_is trees fields vs are,
      length-map vs value_of,
    ) in
    length-field_values trees fields (map value_of vs) count

pub field_values_made-bounds-parts-i : goal.field_values_made-bounds-parts-i
field_values_made-bounds-parts-i g t c = omega (
  arith,
  c.loop-i-test.true,
  field_count_is c.args.schema.now.trees c.args.fields.now c.args.parts.now c.requires.values,
)

pub field_values_made-value_part-out-requires : goal.field_values_made-value_part-out-requires
field_values_made-value_part-out-requires g t c κs within =
    let before : c.index-fields-i.result.1 < c.args.id =
    part_known c.args.id c.args.fields.now c.loop-i.i c.index-fields-i.result c.loop-i-test.true
    c.index-fields-i.is c.requires.before in
    let value : IsValue (type_tree_at c.args.schema.now.trees c.index-fields-i.result.1)
    c.index-parts-i.result =
    field_value c.args.schema.now.trees c.args.fields.now c.args.parts.now c.loop-i.i
    c.index-fields-i.result c.index-parts-i.result c.requires.values c.loop-i-test.true
    c.index-fields-i.is c.index-parts-i.is in
    let at = field-value-at c.args.schema.now.trees c.args.fields.now c.args.parts.now c.loop-i.i
    c.index-fields-i.result c.index-parts-i.result (sym (field_count_is c.args.schema.now.trees
    c.args.fields.now c.args.parts.now c.requires.values)) c.loop-i-test.true c.index-fields-i.is
    c.index-parts-i.is in
    let all = field_parts (fields_over c.args.schema.now.trees c.args.fields.now)
    (map value_of c.args.parts.now) in
    let many : length all ≡ length c.args.fields.now = many_fields c.args.schema.now.trees
    c.args.fields.now c.args.parts.now c.requires.values in
    let split = split-at all c.loop-i.i _ at in
    let space = subst (λ ps. g.M.Maker.room c.args.maker.now (whole_of c.args.depth ps).nodes)
    (sym split) c.requires.room in
    let room : g.M.Maker.room c.loop-i.maker (new_nodes (type_tree_at c.args.schema.now.trees
    c.index-fields-i.result.1) (value_of c.index-parts-i.result)) =
    g.met.M.Maker.room_next _ _ c.args.depth (length c.args.fields.now) (take c.loop-i.i all)
    (drop (c.loop-i.i + 1) all) (part_of_value (type_tree_at c.args.schema.now.trees
    c.index-fields-i.result.1) (value_of c.index-parts-i.result)) _ c.loop-i.invariant space in
    search rules

pub field_values_made-push-requires : goal.field_values_made-push-requires
field_values_made-push-requires g t c =
    let at = field-value-at c.args.schema.now.trees c.args.fields.now c.args.parts.now c.loop-i.i
    c.index-fields-i.result c.index-parts-i.result (sym (field_count_is c.args.schema.now.trees
    c.args.fields.now c.args.parts.now c.requires.values)) c.loop-i-test.true c.index-fields-i.is
    c.index-parts-i.is in
    let all = field_parts (fields_over c.args.schema.now.trees c.args.fields.now)
    (map value_of c.args.parts.now) in
    let many : length all ≡ length c.args.fields.now = many_fields c.args.schema.now.trees
    c.args.fields.now c.args.parts.now c.requires.values in
    let split = split-at all c.loop-i.i _ at in
    let space = subst (λ ps. g.M.Maker.room c.args.maker.now (whole_of c.args.depth ps).nodes)
    (sym split) c.requires.room in
    record {
      start = c.args.maker.now;
      middle = c.loop-i.maker;
      depth = c.args.depth;
      before = take c.loop-i.i all;
      one = _;
      rest = drop (c.loop-i.i + 1) all;
      pushed = subst (λ k. g.M.Maker.gathered c.args.maker.now c.loop-i.maker c.args.depth k
          (take c.loop-i.i all) c.loop-i.rows)
          (sym (ap (λ (ps : List MadePart). length ps) split ∙ many)) c.loop-i.invariant;
      is = c.value_part-out.ensures;
      few = subst (λ (ps : List MadePart). length ps ≤ 2 ^ c.args.depth) (sym split)
          (omega (arith, many, c.requires.few));
      space = space;
    }

pub field_values_made-loop-i-preserved : goal.field_values_made-loop-i-preserved
field_values_made-loop-i-preserved g t c =
    let at = field-value-at c.args.schema.now.trees c.args.fields.now c.args.parts.now c.loop-i.i
    c.index-fields-i.result c.index-parts-i.result (sym (field_count_is c.args.schema.now.trees
    c.args.fields.now c.args.parts.now c.requires.values)) c.loop-i-test.true c.index-fields-i.is
    c.index-parts-i.is in
    subst (λ ps. g.M.Maker.gathered c.args.maker.now c.push.new.self c.args.depth
    (length c.args.fields.now) ps c.push.new.rows) (sym at.more)
    (c.push.ensures _ _ _ _ _ _ c.loop-i.invariant c.value_part-out.ensures)

pub field_values_made-finish-requires : goal.field_values_made-finish-requires
field_values_made-finish-requires g t c =
    let all = field_parts (fields_over c.args.schema.now.trees c.args.fields.now)
    (map value_of c.args.parts.now) in
    let many : length all ≡ length c.args.fields.now = many_fields c.args.schema.now.trees
    c.args.fields.now c.args.parts.now c.requires.values in
    let whole_row : take c.loop-i.i all ≡ all = take_all c.loop-i.i all (omega (arith, many)) in
    let last = subst (λ k. g.M.Maker.gathered c.args.maker.now c.loop-i.maker c.args.depth k all
    c.loop-i.rows) (sym many)
    (subst (λ ps. g.M.Maker.gathered c.args.maker.now c.loop-i.maker c.args.depth
    (length c.args.fields.now) ps c.loop-i.rows) whole_row c.loop-i.invariant) in
    record {
      start = c.args.maker.now;
      depth = c.args.depth;
      parts = all;
      pushed = last;
      few = omega (arith, many, c.requires.few);
      space = c.requires.room;
    }

pub field_values_made-returns : goal.field_values_made-returns
field_values_made-returns g t c =
    let all = field_parts (fields_over c.args.schema.now.trees c.args.fields.now)
    (map value_of c.args.parts.now) in
    let many : length all ≡ length c.args.fields.now = many_fields c.args.schema.now.trees
    c.args.fields.now c.args.parts.now c.requires.values in
    let whole_row : take c.loop-i.i all ≡ all = take_all c.loop-i.i all (omega (arith, many)) in
    let last = subst (λ k. g.M.Maker.gathered c.args.maker.now c.loop-i.maker c.args.depth k all
    c.loop-i.rows) (sym many)
    (subst (λ ps. g.M.Maker.gathered c.args.maker.now c.loop-i.maker c.args.depth
    (length c.args.fields.now) ps c.loop-i.rows) whole_row c.loop-i.invariant) in
    c.finish.ensures _ _ _ last

-- a container

pub container_made-field_values_made-requires : goal.container_made-field_values_made-requires
container_made-field_values_made-requires g t c κs within =
    let fs = fields_over c.args.schema.now.trees c.args.fields.now in
    let fields : AreFields fs c.in-Seq.parts.items =
    seq_fields fs c.in-Seq.parts (subst (IsValue
    (container (fields_over c.args.schema.now.trees c.args.fields.now)))
    c.in-Seq.is c.requires.value) in
    let values : AreFields fs c.as_slice.result.now =
    subst (AreFields fs) (sym c.as_slice.ensures.value) fields in
    let parts : map value_of c.as_slice.result.now ≡ parts_of (value_of c.args.value.now) =
    ap (map value_of) c.as_slice.ensures.value ∙ sym
    (ap (λ (v : Value). parts_of (value_of v)) c.in-Seq.is ∙ parts_of_seq c.in-Seq.parts) in
    let room : g.M.Maker.room c.args.maker.now (whole_of c.args.depth (field_parts fs
    (map value_of c.as_slice.result.now))).nodes =
    subst (λ (vs : List SszValue).
    g.M.Maker.room c.args.maker.now (whole_of c.args.depth (field_parts
    (fields_over c.args.schema.now.trees c.args.fields.now) vs)).nodes)
    (sym parts) c.requires.room in
    search rules

pub container_made-returns-in-Seq : goal.container_made-returns-in-Seq
container_made-returns-in-Seq g t c =
    let parts : map value_of c.as_slice.result.now ≡ parts_of (value_of c.args.value.now) =
    ap (map value_of) c.as_slice.ensures.value ∙ sym
    (ap (λ (v : Value). parts_of (value_of v)) c.in-Seq.is ∙ parts_of_seq c.in-Seq.parts) in
    subst (λ part. g.M.Maker.made c.args.maker.now c.field_values_made.new.maker part
    c.field_values_made.result) (ap (λ (vs : List SszValue). whole_of c.args.depth
    (field_parts (fields_over c.args.schema.now.trees c.args.fields.now) vs)) parts)
    c.field_values_made.ensures

-- a sequence

pub sequence_made-packed-requires-clause-few :
    goal.sequence_made-packed-requires-clause-few
sequence_made-packed-requires-clause-few g t c =
    let held : IsSequence (type_of c.args.schema.now c.args.elem) (Bytes c.in-Bytes.run') =
    subst (IsSequence (type_of c.args.schema.now c.args.elem)) c.in-Bytes.is c.requires.value in
    let h = HasByteValues-bytes (λ l r. l) (type_of c.args.schema.now c.args.elem) c.args.depth
    c.in-Bytes.run' held in
    let chunks : (length c.as_slice.result.now + 31) / 32
    ≡ element_chunks (basic_size (type_of c.args.schema.now c.args.elem))
    (part_count_of (value_of c.args.value.now)) =
    ap (λ (bs : List ℕ). (length bs + 31) / 32) c.as_slice.ensures.value ∙ h.chunks
    ∙ ap (λ (v : Value). element_chunks (basic_size (type_of c.args.schema.now c.args.elem))
    (part_count_of (value_of v))) (sym c.in-Bytes.is) in
    subst (λ n. n ≤ 2 ^ c.args.depth) (sym chunks) c.requires.few

pub sequence_made-packed-requires-clause-room : goal.sequence_made-packed-requires-clause-room
sequence_made-packed-requires-clause-room g t c =
    let made = byte_values (type_of c.args.schema.now c.args.elem) c.args.depth c.in-Bytes.run'
    c.as_slice.result.now c.args.value.now c.in-Bytes.is c.as_slice.ensures.value
    c.requires.value in
    subst (g.M.Maker.room c.args.maker.now) (sym (same_nodes _ _ made)) c.requires.room

pub sequence_made-returns-in-Bytes : goal.sequence_made-returns-in-Bytes
sequence_made-returns-in-Bytes g t c =
    subst (λ part. g.M.Maker.made c.args.maker.now c.packed.new.self part
    c.packed.result) (byte_values (type_of c.args.schema.now c.args.elem) c.args.depth
    c.in-Bytes.run' c.as_slice.result.now c.args.value.now c.in-Bytes.is
    c.as_slice.ensures.value c.requires.value) c.packed.ensures

pub sequence_made-packed_values-requires-clause-size :
    goal.sequence_made-packed_values-requires-clause-size
sequence_made-packed_values-requires-clause-size g t c =
    basic_divides (type_of c.args.schema.now c.args.elem) c.in-Some.size
    (sym c.basic_size.ensures.exact ∙ c.in-Some.is)

pub sequence_made-packed_values-requires-clause-basic :
    goal.sequence_made-packed_values-requires-clause-basic
sequence_made-packed_values-requires-clause-basic g t c =
    let h = packed_values (type_of c.args.schema.now c.args.elem) c.args.depth c.in-Some.size
    c.in-Seq.parts c.as_slice-in-Some.result.now c.args.value.now c.in-Seq.is
    c.as_slice-in-Some.ensures.value c.requires.value
    (sym c.basic_size.ensures.exact ∙ c.in-Some.is) in
    record {
      type = type_of c.args.schema.now c.args.elem;
      sized = sym c.basic_size.ensures.exact ∙ c.in-Some.is;
      fit = h.fits;
    }

pub sequence_made-packed_values-requires-clause-few :
    goal.sequence_made-packed_values-requires-clause-few
sequence_made-packed_values-requires-clause-few g t c =
    let h = packed_values (type_of c.args.schema.now c.args.elem) c.args.depth c.in-Some.size
    c.in-Seq.parts c.as_slice-in-Some.result.now c.args.value.now c.in-Seq.is
    c.as_slice-in-Some.ensures.value c.requires.value
    (sym c.basic_size.ensures.exact ∙ c.in-Some.is) in
    subst (λ n. n ≤ 2 ^ c.args.depth) (sym h.chunks) c.requires.few

pub sequence_made-packed_values-requires-clause-room :
    goal.sequence_made-packed_values-requires-clause-room
sequence_made-packed_values-requires-clause-room g t c =
    let h = packed_values (type_of c.args.schema.now c.args.elem) c.args.depth c.in-Some.size
    c.in-Seq.parts c.as_slice-in-Some.result.now c.args.value.now c.in-Seq.is
    c.as_slice-in-Some.ensures.value c.requires.value
    (sym c.basic_size.ensures.exact ∙ c.in-Some.is) in
    subst (g.M.Maker.room c.args.maker.now) h.nodes c.requires.room

pub sequence_made-returns-in-Some : goal.sequence_made-returns-in-Some
sequence_made-returns-in-Some g t c =
    let h = packed_values (type_of c.args.schema.now c.args.elem) c.args.depth c.in-Some.size
    c.in-Seq.parts c.as_slice-in-Some.result.now c.args.value.now c.in-Seq.is
    c.as_slice-in-Some.ensures.value c.requires.value
    (sym c.basic_size.ensures.exact ∙ c.in-Some.is) in
    subst (λ part. g.M.Maker.made c.args.maker.now c.packed_values.new.self part
    c.packed_values.result) h.same
    (c.packed_values.ensures (type_of c.args.schema.now c.args.elem)
    (sym c.basic_size.ensures.exact ∙ c.in-Some.is) h.fits)

pub sequence_made-values_made-requires : goal.sequence_made-values_made-requires
sequence_made-values_made-requires g t c κs within =
    let ty = type_of c.args.schema.now c.args.elem in
    let h = HasValues-seq (λ l r. l) (type_of c.args.schema.now c.args.elem) c.args.depth
    c.in-Seq.parts
    (subst (IsSequence (type_of c.args.schema.now c.args.elem)) c.in-Seq.is c.requires.value)
    (sym c.basic_size.ensures.exact ∙ c.in-None.is) in
    let are : AllByRecursion (IsValue (type_of c.args.schema.now c.args.elem))
    c.as_slice-in-None.result.now =
    subst (AllByRecursion (IsValue (type_of c.args.schema.now c.args.elem)))
    (sym c.as_slice-in-None.ensures.value) h.are in
    let count : length c.as_slice-in-None.result.now
    ≡ element_chunks (basic_size (type_of c.args.schema.now c.args.elem))
    (part_count_of (value_of c.args.value.now)) =
    ap (λ (vs : List Value). length vs) c.as_slice-in-None.ensures.value ∙ h.count
    ∙ ap (λ (v : Value). element_chunks (basic_size (type_of c.args.schema.now c.args.elem))
    (part_count_of (value_of v))) (sym c.in-Seq.is) in
    let few : length c.as_slice-in-None.result.now ≤ 2 ^ c.args.depth =
    subst (λ n. n ≤ 2 ^ c.args.depth) (sym count) c.requires.few in
    let made = composite_values (type_of c.args.schema.now c.args.elem) c.args.depth
    c.in-Seq.parts c.as_slice-in-None.result.now c.args.value.now c.in-Seq.is
    c.as_slice-in-None.ensures.value (sym c.basic_size.ensures.exact ∙ c.in-None.is) in
    let room : g.M.Maker.room c.args.maker.now (whole_of c.args.depth (map (part_of_value (type_of
    c.args.schema.now c.args.elem))
    (map value_of c.as_slice-in-None.result.now))).nodes =
    subst (g.M.Maker.room c.args.maker.now) (sym (same_nodes _ _ made)) c.requires.room in
    search rules

pub sequence_made-returns-in-None : goal.sequence_made-returns-in-None
sequence_made-returns-in-None g t c =
    subst (λ part. g.M.Maker.made c.args.maker.now c.values_made.new.maker part
    c.values_made.result) (composite_values (type_of c.args.schema.now c.args.elem) c.args.depth
    c.in-Seq.parts c.as_slice-in-None.result.now c.args.value.now c.in-Seq.is
    c.as_slice-in-None.ensures.value (sym c.basic_size.ensures.exact ∙ c.in-None.is))
    c.values_made.ensures

pub value_part-returns-in-Uint : goal.value_part-returns-in-Uint
value_part-returns-in-Uint g t c =
    let basic : basic_size (type_of c.args.schema.now c.args.id) ≡ Some _ =
    ap basic_size (sym c.ty.ensures.form
    ∙ ap (tree_over c.args.schema.now.trees) c.in-Uint.is) in
    subst (λ part. g.M.Maker.made c.args.maker.now c.leaf.new.self part
    c.leaf.result) (basic_value (type_of c.args.schema.now c.args.id) _
    (value_of c.args.value.now) c.basic_chunk.result.0 basic
    (c.basic_chunk.ensures (type_of c.args.schema.now c.args.id) _ basic c.requires.value.fits))
    c.leaf.ensures

pub value_part-returns-in-Boolean : goal.value_part-returns-in-Boolean
value_part-returns-in-Boolean g t c =
    let basic : basic_size (type_of c.args.schema.now c.args.id) ≡ Some 1 =
    ap basic_size (sym c.ty.ensures.form
    ∙ ap (tree_over c.args.schema.now.trees) c.in-Boolean.is) in
    subst (λ part. g.M.Maker.made c.args.maker.now c.leaf-in-Boolean.new.self part
    c.leaf-in-Boolean.result) (basic_value (type_of c.args.schema.now c.args.id) 1
    (value_of c.args.value.now) c.basic_chunk-in-Boolean.result.0 basic
    (c.basic_chunk-in-Boolean.ensures (type_of c.args.schema.now c.args.id) 1 basic
    c.requires.value.fits))
    c.leaf-in-Boolean.ensures

pub value_part-bit_values-requires-clause-few :
    goal.value_part-bit_values-requires-clause-few
value_part-bit_values-requires-clause-few g t c =
    let form = sym c.ty.ensures.form ∙ ap (tree_over c.args.schema.now.trees) c.in-Bitvector.is in
    let h = HasBitValues-bitvector (λ l r. l) c.args.schema.now.format
    (type_of c.args.schema.now c.args.id) c.in-Bitvector.field-0 c.depth.result
    (value_of c.args.value.now) form c.ty.ensures.legal c.requires.value.fits
    c.depth.ensures.exact in
    subst (λ (bs : List Bool). (length bs + 255) / 256 ≤ 2 ^ c.depth.result) (sym c.bits_of.ensures)
    h.few

pub value_part-bit_values-requires-clause-depth :
    goal.value_part-bit_values-requires-clause-depth
value_part-bit_values-requires-clause-depth g t c =
    let form = sym c.ty.ensures.form ∙ ap (tree_over c.args.schema.now.trees) c.in-Bitvector.is in
    (HasBitValues-bitvector (λ l r. l) c.args.schema.now.format
    (type_of c.args.schema.now c.args.id) c.in-Bitvector.field-0 c.depth.result
    (value_of c.args.value.now) form c.ty.ensures.legal c.requires.value.fits
    c.depth.ensures.exact).shallow

pub value_part-bit_values-requires-clause-room : goal.value_part-bit_values-requires-clause-room
value_part-bit_values-requires-clause-room g t c =
    let form = sym c.ty.ensures.form ∙ ap (tree_over c.args.schema.now.trees) c.in-Bitvector.is in
    let made = bitvector_value (type_of c.args.schema.now c.args.id) c.in-Bitvector.field-0
    c.depth.result (value_of c.args.value.now) c.bits_of.result.now form
    c.requires.value.fits c.depth.ensures.exact c.bits_of.ensures in
    subst (g.M.Maker.room c.args.maker.now) (sym (same_nodes _ _ made)) c.requires.room

pub value_part-returns-in-Bitvector : goal.value_part-returns-in-Bitvector
value_part-returns-in-Bitvector g t c =
    let form = sym c.ty.ensures.form ∙ ap (tree_over c.args.schema.now.trees) c.in-Bitvector.is in
    let made = bitvector_value (type_of c.args.schema.now c.args.id) c.in-Bitvector.field-0
    c.depth.result (value_of c.args.value.now) c.bits_of.result.now form
    c.requires.value.fits c.depth.ensures.exact c.bits_of.ensures in
    subst (λ part. g.M.Maker.made c.args.maker.now c.bit_values.new.self part c.bit_values.result)
    made
    c.bit_values.ensures

pub value_part-bit_values-content-requires-clause-few :
    goal.value_part-bit_values-content-requires-clause-few
value_part-bit_values-content-requires-clause-few g t c =
    let form = sym c.ty.ensures.form ∙ ap (tree_over c.args.schema.now.trees) c.in-Bitlist.is in
    let h = HasBitList-bitlist (λ l r. l) c.args.schema.now.format
    (type_of c.args.schema.now c.args.id) c.in-Bitlist.field-0 c.depth-in-Bitlist.result
    (value_of c.args.value.now) form c.ty.ensures.legal c.requires.value.fits
    c.depth-in-Bitlist.ensures.exact in
    subst (λ (bs : List Bool). (length bs + 255) / 256 ≤ 2 ^ c.depth-in-Bitlist.result)
    (sym c.bits_of-bits.ensures) h.few

pub value_part-bit_values-content-requires-clause-depth :
    goal.value_part-bit_values-content-requires-clause-depth
value_part-bit_values-content-requires-clause-depth g t c =
    let form = sym c.ty.ensures.form ∙ ap (tree_over c.args.schema.now.trees) c.in-Bitlist.is in
    (HasBitList-bitlist (λ l r. l) c.args.schema.now.format
    (type_of c.args.schema.now c.args.id) c.in-Bitlist.field-0 c.depth-in-Bitlist.result
    (value_of c.args.value.now) form c.ty.ensures.legal c.requires.value.fits
    c.depth-in-Bitlist.ensures.exact).shallow

pub value_part-bit_values-content-requires-clause-room :
    goal.value_part-bit_values-content-requires-clause-room
value_part-bit_values-content-requires-clause-room g t c =
    let form = sym c.ty.ensures.form ∙ ap (tree_over c.args.schema.now.trees) c.in-Bitlist.is in
    let made = bitlist_value (type_of c.args.schema.now c.args.id) c.in-Bitlist.field-0
    c.depth-in-Bitlist.result (value_of c.args.value.now) c.bits_of-bits.result.now _
    form c.requires.value.fits c.depth-in-Bitlist.ensures.exact c.bits_of-bits.ensures
    refl in
    g.met.M.Maker.room_less c.args.maker.now _ _ (omega (arith, same_nodes _ _ made))
    c.requires.room

pub value_part-join-requires : goal.value_part-join-requires
value_part-join-requires g t c =
    let form = sym c.ty.ensures.form ∙ ap (tree_over c.args.schema.now.trees) c.in-Bitlist.is in
    let made = bitlist_value (type_of c.args.schema.now c.args.id) c.in-Bitlist.field-0
    c.depth-in-Bitlist.result (value_of c.args.value.now) c.bits_of-bits.result.now _
    form c.requires.value.fits c.depth-in-Bitlist.ensures.exact c.bits_of-bits.ensures
    refl in
    record {
      start = c.args.maker.now;
      one = _;
      is = c.bit_values-content.ensures;
      space = subst (g.M.Maker.room c.args.maker.now) (sym (same_nodes _ _ made)) c.requires.room;
    }

pub value_part-returns-in-Bitlist : goal.value_part-returns-in-Bitlist
value_part-returns-in-Bitlist g t c =
    let form = sym c.ty.ensures.form ∙ ap (tree_over c.args.schema.now.trees) c.in-Bitlist.is in
    let made = bitlist_value (type_of c.args.schema.now c.args.id) c.in-Bitlist.field-0
    c.depth-in-Bitlist.result (value_of c.args.value.now) c.bits_of-bits.result.now
    c.number_chunk-len.result.0
    form c.requires.value.fits c.depth-in-Bitlist.ensures.exact c.bits_of-bits.ensures
    c.number_chunk-len.ensures in
    subst (λ part. g.M.Maker.made c.args.maker.now c.join.new.self part c.join.result) made
    (c.join.ensures _ _ c.bit_values-content.ensures)

pub value_part-sequence_made-requires : goal.value_part-sequence_made-requires
value_part-sequence_made-requires g t c κs within =
    let form = sym c.ty.ensures.form ∙ ap (tree_over c.args.schema.now.trees) c.in-Vector.is in
    let ty = type_tree_at c.args.schema.now.trees c.in-Vector.elem in
    let h = HasVector-vector (λ l r. l) c.args.schema.now.format
    (type_of c.args.schema.now c.args.id) ty c.in-Vector.field-1 c.depth-in-Vector.result
    (value_of c.args.value.now) form c.ty.ensures.legal c.requires.value.fits
    c.depth-in-Vector.ensures.exact in
    let value : IsSequence ty c.args.value.now =
    vector_sequence ty c.in-Vector.field-1 c.args.value.now
    (subst (λ f. IsValue f c.args.value.now) form c.requires.value) in
    let below : c.in-Vector.elem < c.args.id = subst (AreBelow c.args.id)
    c.in-Vector.is c.ty.ensures.before in
    let room : g.M.Maker.room c.args.maker.now (elements_part (type_tree_at c.args.schema.now.trees
    c.in-Vector.elem)
    c.depth-in-Vector.result (parts_of (value_of c.args.value.now))).nodes =
    subst (g.M.Maker.room c.args.maker.now) (sym (same_nodes _ _ (vector_value
    (type_of c.args.schema.now c.args.id) ty c.in-Vector.field-1 c.depth-in-Vector.result
    (value_of c.args.value.now) form c.requires.value.fits c.depth-in-Vector.ensures.exact)))
    c.requires.room in
    search rules

pub value_part-returns-in-Vector : goal.value_part-returns-in-Vector
value_part-returns-in-Vector g t c =
    let form = sym c.ty.ensures.form ∙ ap (tree_over c.args.schema.now.trees) c.in-Vector.is in
    subst (λ part. g.M.Maker.made c.args.maker.now c.sequence_made.new.maker part
    c.sequence_made.result) (vector_value (type_of c.args.schema.now c.args.id)
    (type_tree_at c.args.schema.now.trees c.in-Vector.elem) c.in-Vector.field-1
    c.depth-in-Vector.result (value_of c.args.value.now) form c.requires.value.fits
    c.depth-in-Vector.ensures.exact) c.sequence_made.ensures

pub value_part-sequence_made-content-requires : goal.value_part-sequence_made-content-requires
value_part-sequence_made-content-requires g t c κs within =
    let form = sym c.ty.ensures.form ∙ ap (tree_over c.args.schema.now.trees) c.in-List.is in
    let ty = type_tree_at c.args.schema.now.trees c.in-List.elem in
    let h = HasList-list (λ l r. l) c.args.schema.now.format
    (type_of c.args.schema.now c.args.id) ty c.in-List.field-1 c.depth-in-List.result
    (value_of c.args.value.now) form c.ty.ensures.legal c.requires.value.fits
    c.depth-in-List.ensures.exact in
    let value : IsSequence ty c.args.value.now =
    list_sequence ty c.in-List.field-1 c.args.value.now
    (subst (λ f. IsValue f c.args.value.now) form c.requires.value) in
    let below : c.in-List.elem < c.args.id = subst (AreBelow c.args.id)
    c.in-List.is c.ty.ensures.before in
    let made = list_value (type_of c.args.schema.now c.args.id) ty c.in-List.field-1
    c.depth-in-List.result (value_of c.args.value.now) _ form c.requires.value.fits
    c.depth-in-List.ensures.exact refl in
    let room : g.M.Maker.room c.args.maker.now (elements_part (type_tree_at c.args.schema.now.trees
    c.in-List.elem)
    c.depth-in-List.result (parts_of (value_of c.args.value.now))).nodes =
    g.met.M.Maker.room_less c.args.maker.now _ _ (omega (arith, same_nodes _ _ made))
    c.requires.room in
    search rules

pub value_part-join-requires-in-List : goal.value_part-join-requires-in-List
value_part-join-requires-in-List g t c =
    let form = sym c.ty.ensures.form ∙ ap (tree_over c.args.schema.now.trees) c.in-List.is in
    let made = list_value (type_of c.args.schema.now c.args.id)
    (type_tree_at c.args.schema.now.trees c.in-List.elem) c.in-List.field-1 c.depth-in-List.result
    (value_of c.args.value.now) _ form c.requires.value.fits c.depth-in-List.ensures.exact
    refl in
    record {
      start = c.args.maker.now;
      one = _;
      is = c.sequence_made-content.ensures;
      space = subst (g.M.Maker.room c.args.maker.now) (sym (same_nodes _ _ made)) c.requires.room;
    }

pub value_part-returns-in-List : goal.value_part-returns-in-List
value_part-returns-in-List g t c =
    let form = sym c.ty.ensures.form ∙ ap (tree_over c.args.schema.now.trees) c.in-List.is in
    let made = list_value (type_of c.args.schema.now c.args.id)
    (type_tree_at c.args.schema.now.trees c.in-List.elem) c.in-List.field-1 c.depth-in-List.result
    (value_of c.args.value.now) c.number_chunk-len-in-List.result.0 form c.requires.value.fits
    c.depth-in-List.ensures.exact
    (c.number_chunk-len-in-List.ensures ∙ ap number_chunk c.part_count.ensures) in
    subst (λ part. g.M.Maker.made c.args.maker.now c.join-in-List.new.self part
    c.join-in-List.result) made
    (c.join-in-List.ensures _ _ c.sequence_made-content.ensures)

pub value_part-container_made-requires : goal.value_part-container_made-requires
value_part-container_made-requires g t c κs within =
    let trees = c.args.schema.now.trees in
    let fields : c.in-Container.fields.items ≡ c.as_slice.result.now =
    sym c.as_slice.ensures.value in
    let form = sym c.ty.ensures.form ∙ ap (tree_over trees) c.in-Container.is
    ∙ ap (λ (parts : List (List ℕ × ℕ)). container (fields_over trees parts)) fields in
    let h = container_room c.args.schema.now.format (type_of c.args.schema.now c.args.id)
    trees c.as_slice.result.now c.depth-in-Container.result form c.ty.ensures.legal
    c.depth-in-Container.ensures.exact in
    let value : IsValue (container (fields_over trees c.as_slice.result.now)) c.args.value.now =
    subst (λ f. IsValue f c.args.value.now) form c.requires.value in
    let P : List (List ℕ × ℕ) → Type 0 = AllByRecursion
    (λ (part : List ℕ × ℕ). part.1 < c.args.id) in
    let all : P c.in-Container.fields.items = subst (AreBelow c.args.id)
    c.in-Container.is c.ty.ensures.before in
    let known : P c.as_slice.result.now = subst P fields all in
    let room : g.M.Maker.room c.args.maker.now (whole_of c.depth-in-Container.result (field_parts
    (fields_over trees c.as_slice.result.now) (parts_of (value_of c.args.value.now)))).nodes =
    subst (g.M.Maker.room c.args.maker.now) (sym (same_nodes _ _ (container_value
    (type_of c.args.schema.now c.args.id) trees c.as_slice.result.now
    c.depth-in-Container.result (value_of c.args.value.now) form c.requires.value.fits
    c.depth-in-Container.ensures.exact))) c.requires.room in
    search rules

pub value_part-returns-in-Container : goal.value_part-returns-in-Container
value_part-returns-in-Container g t c =
    let trees = c.args.schema.now.trees in
    let fields : c.in-Container.fields.items ≡ c.as_slice.result.now =
    sym c.as_slice.ensures.value in
    let form = sym c.ty.ensures.form ∙ ap (tree_over trees) c.in-Container.is
    ∙ ap (λ (parts : List (List ℕ × ℕ)). container (fields_over trees parts)) fields in
    subst (λ part. g.M.Maker.made c.args.maker.now c.container_made.new.maker part
    c.container_made.result) (container_value (type_of c.args.schema.now c.args.id) trees
    c.as_slice.result.now c.depth-in-Container.result (value_of c.args.value.now) form
    c.requires.value.fits c.depth-in-Container.ensures.exact) c.container_made.ensures

-- a union

pub chosen_made-value_part-out-requires : goal.chosen_made-value_part-out-requires
chosen_made-value_part-out-requires g t c κs within =
    let here : Some (Some c.in-Some-Some.option)
    ≡ slice_get c.args.options.now c.in-Union.selector = ap Some (sym c.in-Some-Some.field-0-is)
    ∙ sym c.in-Some-Some.is ∙ c.option_at.ensures in
    let inner : IsValue (type_tree_at c.args.schema.now.trees c.in-Some-Some.option)
    c.in-Some.inner.value =
    chosen_fits c.args.schema.now.trees c.args.options.now c.in-Union.selector c.in-Some-Some.option
    c.in-Some.inner
    (union_inner c.args.schema.now.trees c.args.options.now c.args.value.now c.in-Union.selector
    c.in-Union.inner c.in-Some.inner c.in-Union.is c.in-Some.is c.requires.value) here in
    let value : IsValue (type_tree_at c.args.schema.now.trees c.in-Some-Some.option)
    c.deref.result.now =
    subst (IsValue (type_tree_at c.args.schema.now.trees c.in-Some-Some.option))
    (sym c.deref.ensures) inner in
    let below : c.in-Some-Some.option < c.args.id =
    below_at c.args.id c.args.options.now c.in-Union.selector (Some c.in-Some-Some.option)
    (sym here) c.requires.before in
    let is : value_of c.args.value.now ≡ chosen c.in-Union.selector
    (value_of c.in-Some.inner.value) = value_of_chosen c.args.value.now c.in-Union.selector
    c.in-Union.inner c.in-Some.inner c.in-Union.is c.in-Some.is in
    let made = chosen_value c.args.schema.now.trees c.args.options.now c.in-Union.selector
    c.in-Some-Some.option (value_of c.in-Some.inner.value) (value_of c.args.value.now) (sym here)
    is in
    let room : g.M.Maker.room c.args.maker.now (new_nodes (type_tree_at c.args.schema.now.trees
    c.in-Some-Some.option)
    (value_of c.deref.result.now)) =
    subst (λ (v : Value). g.M.Maker.room c.args.maker.now (new_nodes (type_tree_at
    c.args.schema.now.trees
    c.in-Some-Some.option) (value_of v))) (sym c.deref.ensures)
    (g.met.M.Maker.room_less c.args.maker.now _ _ (omega (arith, same_nodes _ _ made))
    c.requires.room) in
    search rules

pub chosen_made-join-requires : goal.chosen_made-join-requires
chosen_made-join-requires g t c =
    let here : Some (Some c.in-Some-Some.option)
    ≡ slice_get c.args.options.now c.in-Union.selector = ap Some (sym c.in-Some-Some.field-0-is)
    ∙ sym c.in-Some-Some.is ∙ c.option_at.ensures in
    let is : value_of c.args.value.now ≡ chosen c.in-Union.selector
    (value_of c.in-Some.inner.value) = value_of_chosen c.args.value.now c.in-Union.selector
    c.in-Union.inner c.in-Some.inner c.in-Union.is c.in-Some.is in
    let made = chosen_value c.args.schema.now.trees c.args.options.now c.in-Union.selector
    c.in-Some-Some.option (value_of c.in-Some.inner.value) (value_of c.args.value.now) (sym here)
    is in
    let out = subst (λ (v : Value). g.M.Maker.made c.args.maker.now c.value_part-out.new.maker
    (part_of_value (type_of c.args.schema.now c.in-Some-Some.option) (value_of v))
    c.value_part-out.result) c.deref.ensures c.value_part-out.ensures in
    record {
      start = c.args.maker.now;
      one = _;
      is = out;
      space = subst (g.M.Maker.room c.args.maker.now) (sym (same_nodes _ _ made)) c.requires.room;
    }

pub chosen_made-returns-in-Some-Some : goal.chosen_made-returns-in-Some-Some
chosen_made-returns-in-Some-Some g t c =
    let here : Some (Some c.in-Some-Some.option)
    ≡ slice_get c.args.options.now c.in-Union.selector = ap Some (sym c.in-Some-Some.field-0-is)
    ∙ sym c.in-Some-Some.is ∙ c.option_at.ensures in
    let is : value_of c.args.value.now ≡ chosen c.in-Union.selector
    (value_of c.in-Some.inner.value) = value_of_chosen c.args.value.now c.in-Union.selector
    c.in-Union.inner c.in-Some.inner c.in-Union.is c.in-Some.is in
    let made = chosen_value c.args.schema.now.trees c.args.options.now c.in-Union.selector
    c.in-Some-Some.option (value_of c.in-Some.inner.value) (value_of c.args.value.now) (sym here)
    is in
    let out = subst (λ (v : Value). g.M.Maker.made c.args.maker.now c.value_part-out.new.maker
    (part_of_value (type_of c.args.schema.now c.in-Some-Some.option) (value_of v))
    c.value_part-out.result) c.deref.ensures c.value_part-out.ensures in
    let numbered = c.number_chunk-leaf.ensures ∙ ap number_chunk c.from.ensures in
    subst (λ part. g.M.Maker.made c.args.maker.now c.join.new.self part c.join.result)
    (ap (joined_leaf (part_of_value (type_of c.args.schema.now c.in-Some-Some.option)
    (value_of c.in-Some.inner.value))) numbered ∙ made) (c.join.ensures _ _ out)

pub chosen_made-returns-in-Some-None : goal.chosen_made-returns-in-Some-None
chosen_made-returns-in-Some-None g t c =
    let held = has_type c.args.schema.now.trees c.args.options.now c.args.value.now
    c.in-Union.selector c.in-Union.inner c.in-Some.inner c.option_at.result c.in-Union.is
    c.in-Some.is c.requires.value c.option_at.ensures in
    let is : Some None ≡ Some (Some held.0) =
    sym (c.in-Some-None.is ∙ ap Some c.in-Some-None.field-0-is) ∙ held.1 in
    cc

pub chosen_made-returns-in-None-option_at : goal.chosen_made-returns-in-None-option_at
chosen_made-returns-in-None-option_at g t c =
    let held = has_type c.args.schema.now.trees c.args.options.now c.args.value.now
    c.in-Union.selector c.in-Union.inner c.in-Some.inner c.option_at.result c.in-Union.is
    c.in-Some.is c.requires.value c.option_at.ensures in
    let is : None ≡ Some (Some held.0) = sym c.in-None-option_at.is ∙ held.1 in
    cc

pub chosen_made-join-requires-in-None : goal.chosen_made-join-requires-in-None
chosen_made-join-requires-in-None g t c =
    let is : value_of c.args.value.now ≡ chosen_none c.in-Union.selector =
    ap value_of (c.in-Union.is ∙ ap (Union c.in-Union.selector) c.in-None.is)
    ∙ chosen_none_is c.in-Union.selector in
    let numbered = c.number_chunk-leaf-in-None.ensures ∙ ap number_chunk c.from-in-None.ensures in
    let made = ap (joined_leaf none_part) numbered ∙ none_value c.args.schema.now.trees
    c.args.options.now c.in-Union.selector (value_of c.args.value.now) is in
    record {
      start = c.args.maker.now;
      one = _;
      is = c.none-none.ensures;
      space = subst (g.M.Maker.room c.args.maker.now) (sym (same_nodes _ _ made)) c.requires.room;
    }

pub chosen_made-returns-in-None : goal.chosen_made-returns-in-None
chosen_made-returns-in-None g t c =
    let is : value_of c.args.value.now ≡ chosen_none c.in-Union.selector =
    ap value_of (c.in-Union.is ∙ ap (Union c.in-Union.selector) c.in-None.is)
    ∙ chosen_none_is c.in-Union.selector in
    let numbered = c.number_chunk-leaf-in-None.ensures ∙ ap number_chunk c.from-in-None.ensures in
    let made = ap (joined_leaf none_part) numbered ∙ none_value c.args.schema.now.trees
    c.args.options.now c.in-Union.selector (value_of c.args.value.now) is in
    subst (λ part. g.M.Maker.made c.args.maker.now c.join-in-None.new.self part
    c.join-in-None.result) made
    (c.join-in-None.ensures _ _ c.none-none.ensures)
