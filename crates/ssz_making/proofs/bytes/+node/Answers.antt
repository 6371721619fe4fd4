use Rattle.std.proofs.Common.{rules, ◌≡◌, ◌∙◌, ◌+◌, ◌-◌, ◌/◌, ◌<◌, ◌≤◌, ◌^◌, ◌∷◌, length, map, take, drop, get_or, slice_range, List, [], Option, None, ℕ, zero, suc, refl, sym, ap, subst, arith, length-drop}
use Rattle.std.specs.Prelude.{IfSome}
use Rattle.std.specs.List.{AllByRecursion}
use Rattle.std.proofs.lemmas.List.{take_rest, length-map}
use Rattle.ssz_schema.specs.Types.{SszType, list, container, union}
use Rattle.ssz_schema.specs.Sizes.{fixed_size, head_size, basic_size, element_chunks, depth}
use Rattle.ssz_schema.specs.Legal.{IsLegal}
use Rattle.ssz_schema.specs.Unfolding.{type_of, type_tree_at, tree_over, fields_over, options_over, IsBelow, AreBelow}
use Rattle.ssz_value.specs.Faults.{first_fault, element_count, elements_fault, count_fault}
use Rattle.ssz_value.specs.Reading.{value_in, elements_in}
use Rattle.ssz_value.specs.Trees.{number_chunk}
use Rattle.ssz_value.proofs.Agree.{no_faults}
use Rattle.ssz_value.proofs.Inputs.{input_of}
use Rattle.ssz_value.proofs.PartLemmas.{Part as FieldPart, known_weaker, part_known, size_at, sizes_of}
use Rattle.ssz_parts.proofs.ElementLemmas.{element_faultless}
use Rattle.ssz_parts.specs.PartValues.{element_values}
use Rattle.ssz_parts.specs.Ranges.{part_range}
use Rattle.ssz_packing.proofs.Options.{chosen_at}
use Rattle.ssz_packing.proofs.Arms.{vector_elements, list_elements, IsPackedBits-bitvector, container_fields}
use Rattle.ssz_packing.proofs.BitChunks.{HasBits-bitlist}
use Rattle.ssz_parts.proofs.ElementValues.{length-element_values}
use Rattle.ssz_parts.proofs.UnionValues.{union_chosen, union_rest}
use Rattle.ssz_packing.proofs.Options.{below_at}
use Rattle.ssz_making.specs.Nodes.{new_nodes}
use Rattle.ssz_making.specs.Parts.{MadePart, whole_of, joined_leaf, part_of_value, chosen_part, elements_part}
use Rattle.ssz_making.proofs.BytesForms.{element-at, packed_elements, vector_made, list_made, bitvector_made, bitlist_made, basic_made, union-part, same_nodes}
use Rattle.ssz_making.proofs.FieldGathering.{FirstFields, FieldsAt-start, FieldsAt-faultless, FieldsAt-next, FieldsAt-room, FieldsAt-within, container_made, length-parts_from, parts_from, range_of}
use Rattle.ssz_making.proofs.Forms.{elements-composite}
use Rattle.ssz_making.proofs.Placing.{split-at}
use Rattle.std.proofs.lemmas.List.{take-map, take_all, length-take-le}
use Rattle.std.specs.Prelude.{IsSome}
use Rattle.std.proofs.Math.Seq.{take-add}
use Rattle.ssz_making.proofs.Alike.{elements_alike}
use Rattle.ssz_making.proofs.bytes.+node.Goals as goal

pub parts_made-elements-init : goal.parts_made-elements-init
parts_made-elements-init g t c =
    let ty = type_of c.args.schema.now c.args.elem in
    subst (λ ps. g.M.Maker.gathered c.args.maker.now c.ahead-i.new.self c.args.depth c.args.count ps
    c.ahead-i.new.rows)
    (sym (take-map (part_of_value ty) c.ahead-i.result
    (element_values ty c.args.count c.args.bytes.now)))
    (c.ahead-i.ensures.pushed c.args.depth c.start-rows.ensures)

pub parts_made-bytes_part-out-requires : goal.parts_made-bytes_part-out-requires
parts_made-bytes_part-out-requires g t c κs within =
    let ty = type_of c.args.schema.now c.args.elem in
    let input = input_of c.args.bytes.now c.type_inv.bytes c.requires.short in
    let good = element_faultless _ ty c.requires.legal (fixed_size ty)
    c.args.count c.args.bytes.now c.elements.i input c.requires.faultless c.elements-test.true in
    let is = c.element_at-part.ensures ∙ ap (λ (size : Option ℕ). get_or
    (elements_in size c.args.count c.args.bytes.now) c.elements.i
    (let none : List ℕ = [] in none)) c.fixed_size-size.ensures.exact in
    let none : first_fault ty 0 c.element_at-part.result.now ≡ None =
    subst (λ (b : List ℕ). first_fault ty 0 b ≡ None) (sym is) good.none in
    let short : length c.element_at-part.result.now < 2 ^ 32 =
    subst (λ (b : List ℕ). length b < 2 ^ 32) (sym is) good.input.short in
    let at = element-at ty c.args.count c.args.bytes.now c.elements.i
    c.element_at-part.result.now c.elements-test.true is in
    let all = map (part_of_value ty) (element_values ty c.args.count c.args.bytes.now) in
    let split = split-at all c.elements.i _ at in
    let space = subst (λ ps. g.M.Maker.room c.args.maker.now (whole_of c.args.depth ps).nodes)
    (sym split) c.requires.room in
    let room : g.M.Maker.room c.elements.maker (new_nodes ty (value_in ty
    c.element_at-part.result.now))
    = g.met.M.Maker.room_next _ _ c.args.depth c.args.count (take c.elements.i all) (drop
    (c.elements.i + 1) all)
    (part_of_value ty (value_in ty c.element_at-part.result.now)) _ c.elements.invariant space in
    search rules

pub parts_made-push-requires : goal.parts_made-push-requires
parts_made-push-requires g t c =
    let ty = type_of c.args.schema.now c.args.elem in
    let vs = element_values ty c.args.count c.args.bytes.now in
    let all = map (part_of_value ty) vs in
    let many : length all ≡ c.args.count =
    length-map vs (part_of_value ty) ∙ length-element_values ty c.args.count c.args.bytes.now in
    let is = c.element_at-part.ensures ∙ ap (λ (size : Option ℕ). get_or
    (elements_in size c.args.count c.args.bytes.now) c.elements.i
    (let none : List ℕ = [] in none)) c.fixed_size-size.ensures.exact in
    let at = element-at ty c.args.count c.args.bytes.now c.elements.i
    c.element_at-part.result.now c.elements-test.true is in
    let split = split-at all c.elements.i _ at in
    let space = subst (λ ps. g.M.Maker.room c.args.maker.now (whole_of c.args.depth ps).nodes)
    (sym split) c.requires.room in
    record {
      start = c.args.maker.now;
      middle = c.elements.maker;
      depth = c.args.depth;
      before = take c.elements.i all;
      one = part_of_value ty (value_in ty c.element_at-part.result.now);
      rest = drop (c.elements.i + 1) all;
      pushed = subst (λ k. g.M.Maker.gathered c.args.maker.now c.elements.maker c.args.depth k
          (take c.elements.i all) c.elements.rows)
          (sym (ap (λ (ps : List MadePart). length ps) split ∙ many)) c.elements.invariant;
      is = c.bytes_part-out.ensures;
      few = subst (λ (ps : List MadePart). length ps ≤ 2 ^ c.args.depth) (sym split)
          (omega (arith, many, c.requires.few));
      space = space;
    }

pub parts_made-elements-preserved : goal.parts_made-elements-preserved
parts_made-elements-preserved g t c =
    let ty = type_of c.args.schema.now c.args.elem in
    let vs = element_values ty c.args.count c.args.bytes.now in
    let all = map (part_of_value ty) vs in
    let many : length all ≡ c.args.count =
    length-map vs (part_of_value ty) ∙ length-element_values ty c.args.count c.args.bytes.now in
    let is = c.element_at-part.ensures ∙ ap (λ (size : Option ℕ). get_or
    (elements_in size c.args.count c.args.bytes.now) c.elements.i
    (let none : List ℕ = [] in none)) c.fixed_size-size.ensures.exact in
    let at = element-at ty c.args.count c.args.bytes.now c.elements.i
    c.element_at-part.result.now c.elements-test.true is in
    let input = input_of c.args.bytes.now c.type_inv.bytes c.requires.short in
    let n = c.elements.i + 1 in
    let more : List MadePart = take c.repeats-i.result (drop (c.elements.i + 1) all) in
    let long : length (take c.repeats-i.result (drop (c.elements.i + 1) all))
    ≡ c.repeats-i.result = length-take-le c.repeats-i.result (drop (c.elements.i + 1) all)
    (omega (
      arith,
      many,
      length-drop (c.elements.i + 1) all,
      c.repeats-i.ensures.at_most,
      c.elements-test.true,
    )) in
    let one = subst (λ ps. g.M.Maker.gathered c.args.maker.now c.push.new.self c.args.depth
    c.args.count ps c.push.new.rows) (sym at.more)
    (c.push.ensures _ _ _ _ _ _ c.elements.invariant c.bytes_part-out.ensures) in
    subst (λ ps. g.M.Maker.gathered c.args.maker.now c.repeats-i.new.maker c.args.depth
    c.args.count ps c.repeats-i.new.rows)
    (sym (take-add (c.elements.i + 1) c.repeats-i.result all))
    (c.repeats-i.ensures.pushed _ _ _ _ _ _ more _ c.bytes_part-out.ensures
    (λ some. elements_alike c.args.schema.now.format ty c.requires.legal c.args.count
    c.args.bytes.now c.elements.i c.repeats-i.result c.element_at-part.result.now input
    c.requires.faultless c.elements-test.true is
    (subst IsSome c.fixed_size-size.ensures.exact some)) long one)

pub parts_made-finish-requires : goal.parts_made-finish-requires
parts_made-finish-requires g t c =
    let ty = type_of c.args.schema.now c.args.elem in
    let vs = element_values ty c.args.count c.args.bytes.now in
    let all = map (part_of_value ty) vs in
    let many : length all ≡ c.args.count =
    length-map vs (part_of_value ty) ∙ length-element_values ty c.args.count c.args.bytes.now in
    let whole_row : take c.elements.i all ≡ all = take_all c.elements.i all (omega (arith, many)) in
    let last = subst (λ k. g.M.Maker.gathered c.args.maker.now c.elements.maker c.args.depth k all
    c.elements.rows) (sym many)
    (subst (λ ps. g.M.Maker.gathered c.args.maker.now c.elements.maker c.args.depth
    c.args.count ps c.elements.rows) whole_row c.elements.invariant) in
    record {
      start = c.args.maker.now;
      depth = c.args.depth;
      parts = all;
      pushed = last;
      few = omega (arith, many, c.requires.few);
      space = c.requires.room;
    }

pub parts_made-returns : goal.parts_made-returns
parts_made-returns g t c =
    let ty = type_of c.args.schema.now c.args.elem in
    let vs = element_values ty c.args.count c.args.bytes.now in
    let all = map (part_of_value ty) vs in
    let many : length all ≡ c.args.count =
    length-map vs (part_of_value ty) ∙ length-element_values ty c.args.count c.args.bytes.now in
    let whole_row : take c.elements.i all ≡ all = take_all c.elements.i all (omega (arith, many)) in
    let last = subst (λ k. g.M.Maker.gathered c.args.maker.now c.elements.maker c.args.depth k all
    c.elements.rows) (sym many)
    (subst (λ ps. g.M.Maker.gathered c.args.maker.now c.elements.maker c.args.depth
    c.args.count ps c.elements.rows) whole_row c.elements.invariant) in
    c.finish.ensures _ _ _ last

pub elements_made-packed-requires-clause-few :
    goal.elements_made-packed-requires-clause-few
elements_made-packed-requires-clause-few g t c =
    let input = input_of c.args.bytes.now c.type_inv.bytes c.requires.short in
    let packed = packed_elements c.args.schema.now.format
    (type_of c.args.schema.now c.args.elem) c.in-Some.field-0 c.args.depth c.args.count
    c.args.bytes.now (sym c.in-Some.is ∙ c.basic_size.ensures.exact) c.requires.legal input
    c.requires.faultless in
    subst (λ n. n ≤ 2 ^ c.args.depth) (sym packed.chunks) c.requires.few

pub elements_made-packed-requires-clause-room : goal.elements_made-packed-requires-clause-room
elements_made-packed-requires-clause-room g t c =
    let input = input_of c.args.bytes.now c.type_inv.bytes c.requires.short in
    let packed = packed_elements c.args.schema.now.format
    (type_of c.args.schema.now c.args.elem) c.in-Some.field-0 c.args.depth c.args.count
    c.args.bytes.now (sym c.in-Some.is ∙ c.basic_size.ensures.exact) c.requires.legal input
    c.requires.faultless in
    subst (g.M.Maker.room c.args.maker.now) (sym (same_nodes _ _ packed.same)) c.requires.room

pub elements_made-parts_made-requires : goal.elements_made-parts_made-requires
elements_made-parts_made-requires g t c κs within =
    let ty = type_of c.args.schema.now c.args.elem in
    let vs = element_values ty c.args.count c.args.bytes.now in
    let composite : basic_size ty ≡ None = sym (sym c.in-None.is ∙ c.basic_size.ensures.exact) in
    let few : c.args.count ≤ 2 ^ c.args.depth = subst
    (λ (size : Option ℕ). element_chunks size c.args.count ≤ 2 ^ c.args.depth) composite
    c.requires.few in
    let room : g.M.Maker.room c.args.maker.now
    (whole_of c.args.depth (map (part_of_value ty) vs)).nodes =
    subst (g.M.Maker.room c.args.maker.now)
    (sym (same_nodes _ _ (elements-composite ty c.args.depth vs composite))) c.requires.room in
    search rules

pub elements_made-returns-in-Some : goal.elements_made-returns-in-Some
elements_made-returns-in-Some g t c =
    let input = input_of c.args.bytes.now c.type_inv.bytes c.requires.short in
    let packed = packed_elements c.args.schema.now.format
    (type_of c.args.schema.now c.args.elem) c.in-Some.field-0 c.args.depth c.args.count
    c.args.bytes.now (sym c.in-Some.is ∙ c.basic_size.ensures.exact) c.requires.legal input
    c.requires.faultless in
    subst (λ part. g.M.Maker.made c.args.maker.now c.packed.new.self part c.packed.result)
    packed.same c.packed.ensures

pub elements_made-returns-in-None : goal.elements_made-returns-in-None
elements_made-returns-in-None g t c =
    let ty = type_of c.args.schema.now c.args.elem in
    subst (λ part. g.M.Maker.made c.args.maker.now c.parts_made.new.maker part
    c.parts_made.result)
    (elements-composite ty c.args.depth (element_values ty c.args.count c.args.bytes.now)
    (sym (sym c.in-None.is ∙ c.basic_size.ensures.exact))) c.parts_made.ensures

-- where a field of this size lies
range-is : (trees : List SszType) (parts : List FieldPart) (b : List ℕ) (i place : ℕ)
    (part : FieldPart) (size : Option ℕ) (range : ℕ × ℕ) → size ≡ size_at trees part
    → range ≡ part_range size (sizes_of trees (drop (i + 1) parts)) place b
    → range ≡ range_of trees parts b i place part
range-is trees parts b i place part size range sized is =
    is ∙ ap (λ z. part_range z (sizes_of trees (drop (i + 1) parts)) place b) sized

-- the field at i is one
same_part : (parts : List FieldPart) (i : ℕ) (part other : FieldPart) → i < length parts
    → part ≡ get_or parts i part → other ≡ get_or parts i other → part ≡ other
same_part [] i part other below e f = absurd (omega arith)
same_part (p ∷ parts) zero part other below e f = e ∙ sym f
same_part (p ∷ parts) (suc i) part other below e f = same_part parts i part other (omega arith) e f

pub fields_made-loop-i-init : goal.fields_made-loop-i-init
fields_made-loop-i-init g t c = record {
  fields = FieldsAt-start _ _ _ c.requires.faultless;
  pushed = c.start-rows.ensures;
}

pub fields_made-range_at-from-requires-clause-known :
    goal.fields_made-range_at-from-requires-clause-known
fields_made-range_at-from-requires-clause-known g t c =
    known_weaker c.args.id (length c.args.schema.now.trees)
    c.args.fields.now c.requires.known c.requires.before

pub fields_made-range_at-from-requires-clause-size :
    goal.fields_made-range_at-from-requires-clause-size
fields_made-range_at-from-requires-clause-size g t c = λ field is.
    c.fixed_size-size.ensures.exact
    ∙ ap (λ (part : FieldPart). fixed_size (type_tree_at c.args.schema.now.trees part.1))
    (same_part c.args.fields.now c.loop-i.i c.index-fields-i.result field c.loop-i-test.true
    c.index-fields-i.is is)

pub fields_made-fixed_size-size-requires : goal.fields_made-fixed_size-size-requires
fields_made-fixed_size-size-requires g t c =
    let below : c.index-fields-i.result.1 < c.args.id =
    part_known c.args.id c.args.fields.now c.loop-i.i c.index-fields-i.result c.loop-i-test.true
    c.index-fields-i.is c.requires.before in
    omega (arith, below, c.requires.known)

pub fields_made-range_at-from-requires-clause-room :
    goal.fields_made-range_at-from-requires-clause-room
fields_made-range_at-from-requires-clause-room g t c =
    let room = FieldsAt-room c.args.schema.now.trees c.args.fields.now c.args.bytes.now c.loop-i.i
    c.loop-i.place c.index-fields-i.result c.loop-i.invariant.fields c.loop-i-test.true
    c.index-fields-i.is in
    omega (arith, room, ap head_size c.fixed_size-size.ensures.exact)

pub fields_made-slice_bounds-part-count : goal.fields_made-slice_bounds-part-count
fields_made-slice_bounds-part-count g t c =
    let within = FieldsAt-within c.args.schema.now.trees c.args.fields.now c.args.bytes.now
    c.loop-i.i c.loop-i.place c.index-fields-i.result c.range_at-from.result
    c.loop-i.invariant.fields c.loop-i-test.true c.index-fields-i.is
    (range-is c.args.schema.now.trees c.args.fields.now
    c.args.bytes.now c.loop-i.i c.loop-i.place c.index-fields-i.result c.fixed_size-size.result
    c.range_at-from.result c.fixed_size-size.ensures.exact c.range_at-from.ensures) in
    omega (arith, within.0, within.1)

pub fields_made-slice_bounds-part-start : goal.fields_made-slice_bounds-part-start
fields_made-slice_bounds-part-start g t c =
    let within = FieldsAt-within c.args.schema.now.trees c.args.fields.now c.args.bytes.now
    c.loop-i.i c.loop-i.place c.index-fields-i.result c.range_at-from.result
    c.loop-i.invariant.fields c.loop-i-test.true c.index-fields-i.is
    (range-is c.args.schema.now.trees c.args.fields.now
    c.args.bytes.now c.loop-i.i c.loop-i.place c.index-fields-i.result c.fixed_size-size.result
    c.range_at-from.result c.fixed_size-size.ensures.exact c.range_at-from.ensures) in
    omega (arith, within.0, within.1)

pub fields_made-slice_bounds-part-end : goal.fields_made-slice_bounds-part-end
fields_made-slice_bounds-part-end g t c =
    let within = FieldsAt-within c.args.schema.now.trees c.args.fields.now c.args.bytes.now
    c.loop-i.i c.loop-i.place c.index-fields-i.result c.range_at-from.result
    c.loop-i.invariant.fields c.loop-i-test.true c.index-fields-i.is
    (range-is c.args.schema.now.trees c.args.fields.now
    c.args.bytes.now c.loop-i.i c.loop-i.place c.index-fields-i.result c.fixed_size-size.result
    c.range_at-from.result c.fixed_size-size.ensures.exact c.range_at-from.ensures) in
    omega (arith, within.0, within.1)

pub fields_made-bytes_part-out-requires : goal.fields_made-bytes_part-out-requires
fields_made-bytes_part-out-requires g t c κs within =
    let input = input_of c.args.bytes.now c.type_inv.bytes c.requires.short in
    let good = FieldsAt-faultless _ _ _ _ _ _ c.index-fields-i.result
    c.loop-i.invariant.fields c.loop-i-test.true c.index-fields-i.is c.requires.legal input
    c.requires.faultless in
    let ty = type_tree_at c.args.schema.now.trees c.index-fields-i.result.1 in
    let before : c.index-fields-i.result.1 < c.args.id =
    part_known c.args.id c.args.fields.now c.loop-i.i c.index-fields-i.result c.loop-i-test.true
    c.index-fields-i.is c.requires.before in
    let none : first_fault ty 0 (slice_range c.args.bytes.now c.range_at-from.result.0
    c.range_at-from.result.1) ≡ None =
    subst (λ (r : ℕ × ℕ). first_fault ty 0 (slice_range c.args.bytes.now r.0 r.1) ≡ None)
    (sym (range-is c.args.schema.now.trees c.args.fields.now
    c.args.bytes.now c.loop-i.i c.loop-i.place c.index-fields-i.result c.fixed_size-size.result
    c.range_at-from.result c.fixed_size-size.ensures.exact c.range_at-from.ensures)) good.none in
    let short : length (slice_range c.args.bytes.now c.range_at-from.result.0
    c.range_at-from.result.1) < 2 ^ 32 =
    subst (λ (r : ℕ × ℕ). length (slice_range c.args.bytes.now r.0 r.1) < 2 ^ 32)
    (sym (range-is c.args.schema.now.trees c.args.fields.now
    c.args.bytes.now c.loop-i.i c.loop-i.place c.index-fields-i.result c.fixed_size-size.result
    c.range_at-from.result c.fixed_size-size.ensures.exact c.range_at-from.ensures))
    good.input.short in
    let next = FieldsAt-next _ _ _ _ _ c.index-fields-i.result _ c.loop-i.invariant.fields
    c.loop-i-test.true c.index-fields-i.is (range-is c.args.schema.now.trees c.args.fields.now
    c.args.bytes.now c.loop-i.i c.loop-i.place c.index-fields-i.result c.fixed_size-size.result
    c.range_at-from.result c.fixed_size-size.ensures.exact c.range_at-from.ensures)
    c.requires.faultless in
    let all = parts_from c.args.schema.now.trees c.args.fields.now 0 c.args.bytes.now in
    let many : length all ≡ length c.args.fields.now =
    length-parts_from c.args.schema.now.trees c.args.fields.now 0 c.args.bytes.now in
    let split = split-at all c.loop-i.i _ next.at in
    let space = subst (λ ps. g.M.Maker.room c.args.maker.now (whole_of c.args.depth ps).nodes)
    (sym split) c.requires.room in
    let room : g.M.Maker.room c.loop-i.maker (new_nodes ty (value_in ty (slice_range
    c.args.bytes.now
    c.range_at-from.result.0 c.range_at-from.result.1))) =
    g.met.M.Maker.room_next _ _ c.args.depth (length c.args.fields.now) (take c.loop-i.i all) (drop
    (c.loop-i.i + 1) all)
    (part_of_value ty (value_in ty (slice_range c.args.bytes.now c.range_at-from.result.0
    c.range_at-from.result.1))) _ c.loop-i.invariant.pushed space in
    search rules

pub fields_made-push-requires : goal.fields_made-push-requires
fields_made-push-requires g t c =
    let next = FieldsAt-next _ _ _ _ _ c.index-fields-i.result _ c.loop-i.invariant.fields
    c.loop-i-test.true c.index-fields-i.is (range-is c.args.schema.now.trees c.args.fields.now
    c.args.bytes.now c.loop-i.i c.loop-i.place c.index-fields-i.result c.fixed_size-size.result
    c.range_at-from.result c.fixed_size-size.ensures.exact c.range_at-from.ensures)
    c.requires.faultless in
    let all = parts_from c.args.schema.now.trees c.args.fields.now 0 c.args.bytes.now in
    let many : length all ≡ length c.args.fields.now =
    length-parts_from c.args.schema.now.trees c.args.fields.now 0 c.args.bytes.now in
    let split = split-at all c.loop-i.i _ next.at in
    let space = subst (λ ps. g.M.Maker.room c.args.maker.now (whole_of c.args.depth ps).nodes)
    (sym split) c.requires.room in
    record {
      start = c.args.maker.now;
      middle = c.loop-i.maker;
      depth = c.args.depth;
      before = take c.loop-i.i all;
      one = _;
      rest = drop (c.loop-i.i + 1) all;
      pushed = subst (λ k. g.M.Maker.gathered c.args.maker.now c.loop-i.maker c.args.depth k
          (take c.loop-i.i all) c.loop-i.rows)
          (sym (ap (λ (ps : List MadePart). length ps) split ∙ many)) c.loop-i.invariant.pushed;
      is = c.bytes_part-out.ensures;
      few = subst (λ (ps : List MadePart). length ps ≤ 2 ^ c.args.depth) (sym split)
          (omega (arith, many, c.requires.few));
      space = space;
    }

pub fields_made-loop-i-preserved : goal.fields_made-loop-i-preserved
fields_made-loop-i-preserved g t c =
    let head : head_size (size_at c.args.schema.now.trees c.index-fields-i.result)
    ≡ c.head_len.result = sym (c.head_len.ensures ∙ ap head_size c.fixed_size-size.ensures.exact) in
    let next = FieldsAt-next _ _ _ _ _ c.index-fields-i.result _ c.loop-i.invariant.fields
    c.loop-i-test.true c.index-fields-i.is (range-is c.args.schema.now.trees c.args.fields.now
    c.args.bytes.now c.loop-i.i c.loop-i.place c.index-fields-i.result c.fixed_size-size.result
    c.range_at-from.result c.fixed_size-size.ensures.exact c.range_at-from.ensures)
    c.requires.faultless in
    subst (λ n. FirstFields g.M.Maker.gathered c.args.maker.now c.push.new.self c.args.depth
    c.push.new.rows c.args.schema.now.trees c.args.fields.now c.args.bytes.now (c.loop-i.i + 1)
    (c.loop-i.place + n)) head
    (record {
      fields = next.after;
      pushed = subst (λ ps. g.M.Maker.gathered c.args.maker.now c.push.new.self c.args.depth
          (length c.args.fields.now) ps c.push.new.rows) (sym next.at.more)
          (c.push.ensures _ _ _ _ _ _ c.loop-i.invariant.pushed c.bytes_part-out.ensures);
    })

pub fields_made-finish-requires : goal.fields_made-finish-requires
fields_made-finish-requires g t c =
    let all = parts_from c.args.schema.now.trees c.args.fields.now 0 c.args.bytes.now in
    let many : length all ≡ length c.args.fields.now =
    length-parts_from c.args.schema.now.trees c.args.fields.now 0 c.args.bytes.now in
    let whole_row : take c.loop-i.i all ≡ all = take_all c.loop-i.i all (omega (arith, many)) in
    let last = subst (λ k. g.M.Maker.gathered c.args.maker.now c.loop-i.maker c.args.depth k all
    c.loop-i.rows) (sym many)
    (subst (λ ps. g.M.Maker.gathered c.args.maker.now c.loop-i.maker c.args.depth
    (length c.args.fields.now) ps c.loop-i.rows) whole_row c.loop-i.invariant.pushed) in
    record {
      start = c.args.maker.now;
      depth = c.args.depth;
      parts = all;
      pushed = last;
      few = omega (arith, many, c.requires.few);
      space = c.requires.room;
    }

pub fields_made-returns : goal.fields_made-returns
fields_made-returns g t c =
    let all = parts_from c.args.schema.now.trees c.args.fields.now 0 c.args.bytes.now in
    let many : length all ≡ length c.args.fields.now =
    length-parts_from c.args.schema.now.trees c.args.fields.now 0 c.args.bytes.now in
    let whole_row : take c.loop-i.i all ≡ all = take_all c.loop-i.i all (omega (arith, many)) in
    let last = subst (λ k. g.M.Maker.gathered c.args.maker.now c.loop-i.maker c.args.depth k all
    c.loop-i.rows) (sym many)
    (subst (λ ps. g.M.Maker.gathered c.args.maker.now c.loop-i.maker c.args.depth
    (length c.args.fields.now) ps c.loop-i.rows) whole_row c.loop-i.invariant.pushed) in
    c.finish.ensures _ _ _ last

pub union_made-bounds-options-from : goal.union_made-bounds-options-from
union_made-bounds-options-from g t c = let h =
    union_chosen c.args.schema.now.trees c.args.options.now c.args.bytes.now c.requires.faultless in
    omega (arith, h.within, c.from.ensures)

pub union_made-option_made-value-requires : goal.union_made-option_made-value-requires
union_made-option_made-value-requires g t c κs within =
    let input = input_of c.args.bytes.now c.type_inv.bytes c.requires.short in
    let h = union_chosen c.args.schema.now.trees c.args.options.now c.args.bytes.now
    c.requires.faultless in
    let chosen = chosen_at c.args.options.now c.from.result (get_or c.args.bytes.now 0 0)
    c.index-options-from.result (omega (arith, h.within, c.from.ensures))
    c.index-options-from.is c.from.ensures in
    let below : IsBelow c.args.id c.index-options-from.result =
    below_at c.args.id c.args.options.now _ _ chosen c.requires.before in
    let rest = take_rest c.args.bytes.now 1 in
    let short : length (take (length c.args.bytes.now - 1) (drop 1 c.args.bytes.now)) < 2 ^ 32 =
    omega (arith, ap length rest, length-drop 1 c.args.bytes.now, c.requires.short) in
    let faultless : IfSome c.index-options-from.result
    (λ id. first_fault (type_tree_at c.args.schema.now.trees id) 0
    (take (length c.args.bytes.now - 1) (drop 1 c.args.bytes.now)) ≡ None) =
    subst (λ (b : List ℕ). IfSome c.index-options-from.result
    (λ id. first_fault (type_tree_at c.args.schema.now.trees id) 0 b ≡ None)) (sym rest)
    (union_rest c.args.schema.now.format c.args.schema.now.trees c.args.options.now
    c.index-options-from.result c.args.bytes.now h.some chosen c.requires.legal input
    c.requires.faultless) in
    let made = union-part c.args.schema.now.trees c.args.options.now c.index-options-from.result
    c.args.bytes.now h.some chosen in
    let room : g.M.Maker.room c.args.maker.now (chosen_part c.args.schema.now.trees
    c.index-options-from.result (take (length c.args.bytes.now - 1) (drop 1
    c.args.bytes.now))).nodes
    = subst (λ (b : List ℕ). g.M.Maker.room c.args.maker.now (chosen_part c.args.schema.now.trees
    c.index-options-from.result b).nodes) (sym rest)
    (g.met.M.Maker.room_less c.args.maker.now _ _ (omega (arith, same_nodes _ _ made))
    c.requires.room) in
    search rules

pub union_made-join-requires : goal.union_made-join-requires
union_made-join-requires g t c =
    let h = union_chosen c.args.schema.now.trees c.args.options.now c.args.bytes.now
    c.requires.faultless in
    let chosen = chosen_at c.args.options.now c.from.result (get_or c.args.bytes.now 0 0)
    c.index-options-from.result (omega (arith, h.within, c.from.ensures))
    c.index-options-from.is c.from.ensures in
    let made = union-part c.args.schema.now.trees c.args.options.now c.index-options-from.result
    c.args.bytes.now h.some chosen in
    let value = subst (λ (b : List ℕ). g.M.Maker.made c.args.maker.now c.option_made-value.new.maker
    (chosen_part c.args.schema.now.trees c.index-options-from.result b)
    c.option_made-value.result) (take_rest c.args.bytes.now 1) c.option_made-value.ensures in
    record {
      start = c.args.maker.now;
      one = _;
      is = value;
      space = subst (g.M.Maker.room c.args.maker.now) (sym (same_nodes _ _ made))
          c.requires.room;
    }

pub union_made-returns : goal.union_made-returns
union_made-returns g t c =
    let h = union_chosen c.args.schema.now.trees c.args.options.now c.args.bytes.now
    c.requires.faultless in
    let chosen = chosen_at c.args.options.now c.from.result (get_or c.args.bytes.now 0 0)
    c.index-options-from.result (omega (arith, h.within, c.from.ensures))
    c.index-options-from.is c.from.ensures in
    let made = union-part c.args.schema.now.trees c.args.options.now c.index-options-from.result
    c.args.bytes.now h.some chosen in
    let value = subst (λ (b : List ℕ). g.M.Maker.made c.args.maker.now c.option_made-value.new.maker
    (chosen_part c.args.schema.now.trees c.index-options-from.result b)
    c.option_made-value.result) (take_rest c.args.bytes.now 1) c.option_made-value.ensures in
    let number = c.number_chunk-leaf.ensures ∙ ap number_chunk (c.from-2.ensures) in
    subst (λ part. g.M.Maker.made c.args.maker.now c.join.new.self part c.join.result)
    (ap (joined_leaf (chosen_part c.args.schema.now.trees c.index-options-from.result
    (drop 1 c.args.bytes.now))) number ∙ made) (c.join.ensures _ _ value)

pub option_made-bytes_part-requires : goal.option_made-bytes_part-requires
option_made-bytes_part-requires g t c κs within =
    let schema = c.args.schema.now in
    let b = c.args.bytes.now in
    let below : c.in-Some.option < c.args.id =
    subst (IsBelow c.args.id) c.in-Some.is c.requires.before in
    let faultless : first_fault (type_of schema c.in-Some.option) 0 b ≡ None = subst
    (λ (o : Option ℕ). IfSome o (λ id. first_fault (type_of schema id) 0 b ≡ None)) c.in-Some.is
    c.requires.faultless in
    let room : g.M.Maker.room c.args.maker.now (new_nodes (type_of schema c.in-Some.option)
    (value_in (type_of schema c.in-Some.option) b)) = subst
    (λ (o : Option ℕ). g.M.Maker.room c.args.maker.now (chosen_part schema.trees o b).nodes)
    c.in-Some.is c.requires.room in
    search rules

pub option_made-returns-in-Some : goal.option_made-returns-in-Some
option_made-returns-in-Some g t c =
    subst (λ (o : Option ℕ). g.M.Maker.made c.args.maker.now c.bytes_part.new.maker
    (chosen_part c.args.schema.now.trees o c.args.bytes.now) c.bytes_part.result) (sym c.in-Some.is)
    c.bytes_part.ensures

pub option_made-returns-in-None : goal.option_made-returns-in-None
option_made-returns-in-None g t c =
    subst (λ (o : Option ℕ). g.M.Maker.made c.args.maker.now c.none.new.self
    (chosen_part c.args.schema.now.trees o c.args.bytes.now) c.none.result) (sym c.in-None.is)
    c.none.ensures

pub bytes_part-elements_made-requires : goal.bytes_part-elements_made-requires
bytes_part-elements_made-requires g t c κs within =
    let trees = c.args.schema.now.trees in
    let form = sym c.ty.ensures.form ∙ ap (tree_over trees) c.in-Vector.is in
    let ty = type_tree_at trees c.in-Vector.elem in
    let h = vector_elements c.args.schema.now.format (type_of c.args.schema.now c.args.id) ty
    c.in-Vector.count c.depth.result c.args.bytes.now form c.ty.ensures.legal
    c.requires.faultless c.depth.ensures.exact in
    let below : c.in-Vector.elem < c.args.id = subst (AreBelow c.args.id)
    c.in-Vector.is c.ty.ensures.before in
    let made = vector_made (type_of c.args.schema.now c.args.id) ty c.in-Vector.count
    c.depth.result c.args.bytes.now form c.depth.ensures.exact in
    let room : g.M.Maker.room c.args.maker.now (elements_part ty c.depth.result
    (element_values ty c.in-Vector.count c.args.bytes.now)).nodes =
    subst (g.M.Maker.room c.args.maker.now) (sym (same_nodes _ _ made)) c.requires.room in
    search rules

pub bytes_part-returns-in-Vector : goal.bytes_part-returns-in-Vector
bytes_part-returns-in-Vector g t c =
    let trees = c.args.schema.now.trees in
    let form = sym c.ty.ensures.form ∙ ap (tree_over trees) c.in-Vector.is in
    subst (λ part. g.M.Maker.made c.args.maker.now c.elements_made.new.maker part
    c.elements_made.result) (vector_made (type_of c.args.schema.now c.args.id)
    (type_tree_at trees c.in-Vector.elem) c.in-Vector.count c.depth.result c.args.bytes.now form
    c.depth.ensures.exact) c.elements_made.ensures

pub bytes_part-elements_made-elements-requires : goal.bytes_part-elements_made-elements-requires
bytes_part-elements_made-elements-requires g t c κs within =
    let trees = c.args.schema.now.trees in
    let form = sym c.ty.ensures.form ∙ ap (tree_over trees) c.in-List.is in
    let ty = type_tree_at trees c.in-List.elem in
    let count = c.element_count-count.ensures ∙ ap
    (λ (size : Option ℕ). element_count size c.args.bytes.now) c.fixed_size.ensures.exact in
    let input = input_of c.args.bytes.now c.type_inv.bytes c.requires.short in
    let h = list_elements c.args.schema.now.format (type_of c.args.schema.now c.args.id)
    ty c.in-List.limit c.element_count-count.result c.depth-in-List.result c.args.bytes.now form
    c.ty.ensures.legal input c.requires.faultless c.depth-in-List.ensures.exact count in
    let below : c.in-List.elem < c.args.id = subst (AreBelow c.args.id)
    c.in-List.is c.ty.ensures.before in
    let made = list_made (type_of c.args.schema.now c.args.id) ty c.in-List.limit
    c.element_count-count.result c.depth-in-List.result c.args.bytes.now _ form
    c.depth-in-List.ensures.exact count refl in
    let room : g.M.Maker.room c.args.maker.now (elements_part ty c.depth-in-List.result
    (element_values ty c.element_count-count.result c.args.bytes.now)).nodes =
    g.met.M.Maker.room_less c.args.maker.now _ _ (omega (arith, same_nodes _ _ made))
    c.requires.room in
    search rules

pub bytes_part-element_count-count-requires-clause-faultless :
    goal.bytes_part-element_count-count-requires-clause-faultless
bytes_part-element_count-count-requires-clause-faultless g t c =
    let ty = type_tree_at c.args.schema.now.trees c.in-List.elem in
    let limit = c.in-List.limit in
    let b = c.args.bytes.now in
    let form = sym c.ty.ensures.form ∙ ap (tree_over c.args.schema.now.trees) c.in-List.is in
    let good : first_fault (list ty limit) 0 b ≡ None =
    subst (λ (form : SszType). first_fault form 0 b ≡ None) form c.requires.faultless in
    let both = no_faults (count_fault (fixed_size ty) limit 0 b)
    (elements_fault (first_fault ty) (fixed_size ty) (element_count (fixed_size ty) b) 0 b) good in
    subst (λ (size : Option ℕ). count_fault size limit 0 b ≡ None) (sym c.fixed_size.ensures.exact)
    both.0

pub bytes_part-counted-requires : goal.bytes_part-counted-requires
bytes_part-counted-requires g t c =
    let trees = c.args.schema.now.trees in
    let form = sym c.ty.ensures.form ∙ ap (tree_over trees) c.in-List.is in
    let count = c.element_count-count.ensures ∙ ap
    (λ (size : Option ℕ). element_count size c.args.bytes.now) c.fixed_size.ensures.exact in
    let made = list_made (type_of c.args.schema.now c.args.id) (type_tree_at trees c.in-List.elem)
    c.in-List.limit c.element_count-count.result c.depth-in-List.result c.args.bytes.now _ form
    c.depth-in-List.ensures.exact count refl in
    record {
      start = c.args.maker.now;
      one = _;
      is = c.elements_made-elements.ensures;
      space = subst (g.M.Maker.room c.args.maker.now) (sym (same_nodes _ _ made))
          c.requires.room;
    }

pub bytes_part-returns-in-List : goal.bytes_part-returns-in-List
bytes_part-returns-in-List g t c =
    let trees = c.args.schema.now.trees in
    let form = sym c.ty.ensures.form ∙ ap (tree_over trees) c.in-List.is in
    let count = c.element_count-count.ensures ∙ ap
    (λ (size : Option ℕ). element_count size c.args.bytes.now) c.fixed_size.ensures.exact in
    let made = list_made (type_of c.args.schema.now c.args.id) (type_tree_at trees c.in-List.elem)
    c.in-List.limit c.element_count-count.result c.depth-in-List.result c.args.bytes.now _ form
    c.depth-in-List.ensures.exact count refl in
    subst (λ part. g.M.Maker.made c.args.maker.now c.counted.new.maker part c.counted.result) made
    (c.counted.ensures _ _ c.elements_made-elements.ensures)

pub bytes_part-returns-in-Uint : goal.bytes_part-returns-in-Uint
bytes_part-returns-in-Uint g t c =
    let input = input_of c.args.bytes.now c.type_inv.bytes c.requires.short in
    let form = sym c.ty.ensures.form ∙ ap (tree_over c.args.schema.now.trees) c.in-Uint.is in
    subst (λ part. g.M.Maker.made c.args.maker.now c.leaf_made.new.maker part c.leaf_made.result)
    (basic_made c.args.schema.now.format (type_of c.args.schema.now c.args.id) _ c.args.bytes.now
    _ (ap basic_size form) c.ty.ensures.legal input c.requires.faultless refl) c.leaf_made.ensures

pub bytes_part-returns-in-Boolean : goal.bytes_part-returns-in-Boolean
bytes_part-returns-in-Boolean g t c =
    let input = input_of c.args.bytes.now c.type_inv.bytes c.requires.short in
    let form = sym c.ty.ensures.form ∙ ap (tree_over c.args.schema.now.trees) c.in-Boolean.is in
    subst (λ part. g.M.Maker.made c.args.maker.now c.leaf_made-in-Boolean.new.maker part
    c.leaf_made-in-Boolean.result)
    (basic_made c.args.schema.now.format (type_of c.args.schema.now c.args.id) _ c.args.bytes.now
    _ (ap basic_size form) c.ty.ensures.legal input c.requires.faultless refl)
    c.leaf_made-in-Boolean.ensures

pub bytes_part-union_made-requires : goal.bytes_part-union_made-requires
bytes_part-union_made-requires g t c κs within =
    let trees = c.args.schema.now.trees in
    let b = c.args.bytes.now in
    let os = c.as_slice-in-Union.result.now in
    let options : c.in-Union.options.items ≡ os = sym c.as_slice-in-Union.ensures.value in
    let form = sym c.ty.ensures.form ∙ ap (tree_over trees) c.in-Union.is
    ∙ ap (λ (ids : List (Option ℕ)). union (options_over trees ids)) options in
    let law = subst (IsLegal c.args.schema.now.format) form c.ty.ensures.legal in
    let legal = law.3 in
    let faultless : first_fault (union (options_over trees os)) 0 b ≡ None =
    subst (λ (ty : SszType). first_fault ty 0 b ≡ None) form c.requires.faultless in
    let room : g.M.Maker.room c.args.maker.now (new_nodes (union (options_over trees os))
    (value_in (union (options_over trees os)) b)) = subst
    (λ (ty : SszType). g.M.Maker.room c.args.maker.now (new_nodes ty (value_in ty b))) form
    c.requires.room in
    let before : AllByRecursion (IsBelow c.args.id) os = subst
    (AllByRecursion (IsBelow c.args.id)) options
    (subst (AreBelow c.args.id) c.in-Union.is c.ty.ensures.before) in
    search rules

pub bytes_part-returns-in-Union : goal.bytes_part-returns-in-Union
bytes_part-returns-in-Union g t c =
    let trees = c.args.schema.now.trees in
    let form = sym c.ty.ensures.form ∙ ap (tree_over trees) c.in-Union.is
    ∙ ap (λ (ids : List (Option ℕ)). union (options_over trees ids))
    (sym c.as_slice-in-Union.ensures.value) in
    subst (λ (ty : SszType). g.M.Maker.made c.args.maker.now c.union_made.new.maker
    (part_of_value ty (value_in ty c.args.bytes.now)) c.union_made.result) (sym form)
    c.union_made.ensures

pub bytes_part-packed-requires-clause-depth :
    goal.bytes_part-packed-requires-clause-depth
bytes_part-packed-requires-clause-depth g t c =
    let input = input_of c.args.bytes.now c.type_inv.bytes c.requires.short in
    let h = IsPackedBits-bitvector (λ l r. l) c.args.schema.now.format
    (type_of c.args.schema.now c.args.id) c.in-Bitvector.field-0 c.args.bytes.now
    (sym c.ty.ensures.form ∙ ap (tree_over c.args.schema.now.trees) c.in-Bitvector.is)
    c.ty.ensures.legal input c.requires.faultless in
    omega (arith, h.shallow, c.depth-in-Bitvector.ensures.exact)

pub bytes_part-packed-requires-clause-few : goal.bytes_part-packed-requires-clause-few
bytes_part-packed-requires-clause-few g t c =
    let input = input_of c.args.bytes.now c.type_inv.bytes c.requires.short in
    let h = IsPackedBits-bitvector (λ l r. l) c.args.schema.now.format
    (type_of c.args.schema.now c.args.id) c.in-Bitvector.field-0 c.args.bytes.now
    (sym c.ty.ensures.form ∙ ap (tree_over c.args.schema.now.trees) c.in-Bitvector.is)
    c.ty.ensures.legal input c.requires.faultless in
    subst (λ d. (length c.args.bytes.now + 31) / 32 ≤ 2 ^ d)
    (sym c.depth-in-Bitvector.ensures.exact)
    h.few

pub bytes_part-packed-requires-clause-room : goal.bytes_part-packed-requires-clause-room
bytes_part-packed-requires-clause-room g t c =
    let input = input_of c.args.bytes.now c.type_inv.bytes c.requires.short in
    let made = bitvector_made c.args.schema.now.format (type_of c.args.schema.now c.args.id)
    c.in-Bitvector.field-0 c.depth-in-Bitvector.result c.args.bytes.now
    (sym c.ty.ensures.form ∙ ap (tree_over c.args.schema.now.trees) c.in-Bitvector.is)
    c.ty.ensures.legal input c.requires.faultless c.depth-in-Bitvector.ensures.exact in
    subst (g.M.Maker.room c.args.maker.now) (sym (same_nodes _ _ made)) c.requires.room

pub bytes_part-returns-in-Bitvector : goal.bytes_part-returns-in-Bitvector
bytes_part-returns-in-Bitvector g t c =
    let input = input_of c.args.bytes.now c.type_inv.bytes c.requires.short in
    let made = bitvector_made c.args.schema.now.format (type_of c.args.schema.now c.args.id)
    c.in-Bitvector.field-0 c.depth-in-Bitvector.result c.args.bytes.now
    (sym c.ty.ensures.form ∙ ap (tree_over c.args.schema.now.trees) c.in-Bitvector.is)
    c.ty.ensures.legal input c.requires.faultless c.depth-in-Bitvector.ensures.exact in
    subst (λ part. g.M.Maker.made c.args.maker.now c.packed.new.self part c.packed.result) made
    c.packed.ensures

pub bytes_part-fields_made-requires : goal.bytes_part-fields_made-requires
bytes_part-fields_made-requires g t c κs within =
    let trees = c.args.schema.now.trees in
    let fields : c.in-Container.fields.items ≡ c.as_slice.result.now =
    sym c.as_slice.ensures.value in
    let form = sym c.ty.ensures.form ∙ ap (tree_over trees) c.in-Container.is
    ∙ ap (λ (parts : List (List ℕ × ℕ)). container (fields_over trees parts)) fields in
    let h = container_fields c.args.schema.now.format (type_of c.args.schema.now c.args.id)
    trees c.as_slice.result.now c.depth-in-Container.result c.args.bytes.now form
    c.ty.ensures.legal c.requires.faultless c.depth-in-Container.ensures.exact in
    let P : List (List ℕ × ℕ) → Type 0 = AllByRecursion
    (λ (part : List ℕ × ℕ). part.1 < c.args.id) in
    let all : P c.in-Container.fields.items = subst (AreBelow c.args.id)
    c.in-Container.is c.ty.ensures.before in
    let known : P c.as_slice.result.now = subst P fields all in
    let made = container_made (type_of c.args.schema.now c.args.id) trees c.as_slice.result.now
    c.depth-in-Container.result c.args.bytes.now form c.depth-in-Container.ensures.exact in
    let room : g.M.Maker.room c.args.maker.now (whole_of c.depth-in-Container.result
    (parts_from trees c.as_slice.result.now 0 c.args.bytes.now)).nodes =
    subst (g.M.Maker.room c.args.maker.now) (sym (same_nodes _ _ made)) c.requires.room in
    search rules

pub bytes_part-returns-in-Container : goal.bytes_part-returns-in-Container
bytes_part-returns-in-Container g t c =
    let trees = c.args.schema.now.trees in
    let fields : c.in-Container.fields.items ≡ c.as_slice.result.now =
    sym c.as_slice.ensures.value in
    let form = sym c.ty.ensures.form ∙ ap (tree_over trees) c.in-Container.is
    ∙ ap (λ (parts : List (List ℕ × ℕ)). container (fields_over trees parts)) fields in
    subst (λ part. g.M.Maker.made c.args.maker.now c.fields_made.new.maker part
    c.fields_made.result) (container_made (type_of c.args.schema.now c.args.id) trees
    c.as_slice.result.now c.depth-in-Container.result c.args.bytes.now form
    c.depth-in-Container.ensures.exact) c.fields_made.ensures

pub bytes_part-bitlist_len-count-requires-clause-some :
    goal.bytes_part-bitlist_len-count-requires-clause-some
bytes_part-bitlist_len-count-requires-clause-some g t c =
    let input = input_of c.args.bytes.now c.type_inv.bytes c.requires.short in
    let form = sym c.ty.ensures.form ∙ ap (tree_over c.args.schema.now.trees) c.in-Bitlist.is in
    let h = HasBits-bitlist (λ l r. l) c.args.schema.now.format
    (type_of c.args.schema.now c.args.id) c.in-Bitlist.field-0 (depth (type_of c.args.schema.now
    c.args.id)) c.args.bytes.now form c.ty.ensures.legal input c.requires.faultless refl in
    h.some

pub bytes_part-bits-bits-requires-clause-some :
    goal.bytes_part-bits-bits-requires-clause-some
bytes_part-bits-bits-requires-clause-some g t c =
    let input = input_of c.args.bytes.now c.type_inv.bytes c.requires.short in
    let form = sym c.ty.ensures.form ∙ ap (tree_over c.args.schema.now.trees) c.in-Bitlist.is in
    let h = HasBits-bitlist (λ l r. l) c.args.schema.now.format
    (type_of c.args.schema.now c.args.id) c.in-Bitlist.field-0 (depth (type_of c.args.schema.now
    c.args.id)) c.args.bytes.now form c.ty.ensures.legal input c.requires.faultless refl in
    h.some

pub bytes_part-bits-bits-requires-clause-delimited :
    goal.bytes_part-bits-bits-requires-clause-delimited
bytes_part-bits-bits-requires-clause-delimited g t c =
    let input = input_of c.args.bytes.now c.type_inv.bytes c.requires.short in
    let form = sym c.ty.ensures.form ∙ ap (tree_over c.args.schema.now.trees) c.in-Bitlist.is in
    let h = HasBits-bitlist (λ l r. l) c.args.schema.now.format
    (type_of c.args.schema.now c.args.id) c.in-Bitlist.field-0 (depth (type_of c.args.schema.now
    c.args.id)) c.args.bytes.now form c.ty.ensures.legal input c.requires.faultless refl in
    h.delimited

pub bytes_part-bits-bits-requires-clause-len :
    goal.bytes_part-bits-bits-requires-clause-len
bytes_part-bits-bits-requires-clause-len g t c =
    let input = input_of c.args.bytes.now c.type_inv.bytes c.requires.short in
    let form = sym c.ty.ensures.form ∙ ap (tree_over c.args.schema.now.trees) c.in-Bitlist.is in
    let h = HasBits-bitlist (λ l r. l) c.args.schema.now.format
    (type_of c.args.schema.now c.args.id) c.in-Bitlist.field-0 (depth (type_of c.args.schema.now
    c.args.id)) c.args.bytes.now form c.ty.ensures.legal input c.requires.faultless refl in
    subst (λ n. n < 2 ^ 63) (sym c.bitlist_len-count.ensures.exact) h.below

pub bytes_part-bits-bits-requires-clause-few :
    goal.bytes_part-bits-bits-requires-clause-few
bytes_part-bits-bits-requires-clause-few g t c =
    let input = input_of c.args.bytes.now c.type_inv.bytes c.requires.short in
    let form = sym c.ty.ensures.form ∙ ap (tree_over c.args.schema.now.trees) c.in-Bitlist.is in
    let h = HasBits-bitlist (λ l r. l) c.args.schema.now.format
    (type_of c.args.schema.now c.args.id) c.in-Bitlist.field-0 c.depth-in-Bitlist.result
    c.args.bytes.now form c.ty.ensures.legal input c.requires.faultless
    c.depth-in-Bitlist.ensures.exact in
    subst (λ n. (n + 255) / 256 ≤ 2 ^ c.depth-in-Bitlist.result)
    (sym c.bitlist_len-count.ensures.exact)
    h.few

pub bytes_part-bits-bits-requires-clause-room : goal.bytes_part-bits-bits-requires-clause-room
bytes_part-bits-bits-requires-clause-room g t c =
    let input = input_of c.args.bytes.now c.type_inv.bytes c.requires.short in
    let form = sym c.ty.ensures.form ∙ ap (tree_over c.args.schema.now.trees) c.in-Bitlist.is in
    let h = HasBits-bitlist (λ l r. l) c.args.schema.now.format
    (type_of c.args.schema.now c.args.id) c.in-Bitlist.field-0 c.depth-in-Bitlist.result
    c.args.bytes.now form c.ty.ensures.legal input c.requires.faultless
    c.depth-in-Bitlist.ensures.exact in
    let made = bitlist_made (type_of c.args.schema.now c.args.id) c.in-Bitlist.field-0
    c.depth-in-Bitlist.result c.bitlist_len-count.result c.args.bytes.now _ form input h.some
    h.delimited c.depth-in-Bitlist.ensures.exact c.bitlist_len-count.ensures.exact refl in
    g.met.M.Maker.room_less c.args.maker.now _ _ (omega (arith, same_nodes _ _ made))
    c.requires.room

pub bytes_part-counted-requires-in-Bitlist : goal.bytes_part-counted-requires-in-Bitlist
bytes_part-counted-requires-in-Bitlist g t c =
    let input = input_of c.args.bytes.now c.type_inv.bytes c.requires.short in
    let form = sym c.ty.ensures.form ∙ ap (tree_over c.args.schema.now.trees) c.in-Bitlist.is in
    let h = HasBits-bitlist (λ l r. l) c.args.schema.now.format
    (type_of c.args.schema.now c.args.id) c.in-Bitlist.field-0 c.depth-in-Bitlist.result
    c.args.bytes.now form c.ty.ensures.legal input c.requires.faultless
    c.depth-in-Bitlist.ensures.exact in
    let made = bitlist_made (type_of c.args.schema.now c.args.id) c.in-Bitlist.field-0
    c.depth-in-Bitlist.result c.bitlist_len-count.result c.args.bytes.now _ form input h.some
    h.delimited c.depth-in-Bitlist.ensures.exact c.bitlist_len-count.ensures.exact refl in
    record {
      start = c.args.maker.now;
      one = _;
      is = c.bits-bits.ensures;
      space = subst (g.M.Maker.room c.args.maker.now) (sym (same_nodes _ _ made))
          c.requires.room;
    }

pub bytes_part-returns-in-Bitlist : goal.bytes_part-returns-in-Bitlist
bytes_part-returns-in-Bitlist g t c =
    let input = input_of c.args.bytes.now c.type_inv.bytes c.requires.short in
    let form = sym c.ty.ensures.form ∙ ap (tree_over c.args.schema.now.trees) c.in-Bitlist.is in
    let h = HasBits-bitlist (λ l r. l) c.args.schema.now.format
    (type_of c.args.schema.now c.args.id) c.in-Bitlist.field-0 c.depth-in-Bitlist.result
    c.args.bytes.now form c.ty.ensures.legal input c.requires.faultless
    c.depth-in-Bitlist.ensures.exact in
    let made = bitlist_made (type_of c.args.schema.now c.args.id) c.in-Bitlist.field-0
    c.depth-in-Bitlist.result c.bitlist_len-count.result c.args.bytes.now _ form input h.some
    h.delimited c.depth-in-Bitlist.ensures.exact c.bitlist_len-count.ensures.exact refl in
    subst (λ part. g.M.Maker.made c.args.maker.now c.counted-in-Bitlist.new.maker part
    c.counted-in-Bitlist.result) made (c.counted-in-Bitlist.ensures _ _ c.bits-bits.ensures)
