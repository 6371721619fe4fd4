use Rattle.std.proofs.Common.{OnOk, ◌%◌, ◌<◌, ◌≤◌, ◌≡◌, ◌∷◌, length, slice_get, List, Some, None, Ok, refl, sym, ap, ◌∙◌, subst, arith, rules}
use Rattle.std.specs.List.{AllByRecursion}
use Rattle.ssz_schema.specs.Types.{SszType, container, vector, list, bitvector, bitlist, union, uint}
use Rattle.ssz_schema.specs.Sizes.{depth, byte_count}
use Rattle.ssz_schema.specs.Unfolding.{type_of, tree_over, fields_over, options_over, AreBelow}
use Rattle.ssz_schema.specs.Legal.{IsLegal}
use Rattle.ssz_value.specs.declared.value.Value.{Value}
use Rattle.ssz_value.specs.Values.{sequence, values}
use Rattle.ssz_value.specs.Standing.{Stands}
use Rattle.ssz_value.specs.Shapes.{StandsBehind}
use Rattle.ssz_value.specs.declared.value.Value.TheVariants.{Bits, Seq}
use Rattle.ssz_value.proofs.PartLemmas.{Part, part_known}
use Rattle.ssz_packing.proofs.Options.{below_at}
use Rattle.ssz_arena.specs.Content.{IsNodeOf, row_node, tree_of}
use Rattle.ssz_nodes.specs.Shown.{ForValue, basic_type}
use Rattle.ssz_nodes.specs.Ahead.{IsRowOf}
use Rattle.ssz_nodes.proofs.Formed.{union_few, field_inside}
use Rattle.ssz_nodes.proofs.Walked.{at_place}
use Rattle.ssz_reading.proofs.Parts.{Reads, ElementsRead, ElementsRead-start, ElementsRead-more, ElementsRead-end, FieldsRead, FieldsRead-start, FieldsRead-more, FieldsRead-end, vector_read, list_read, vector_each, list_each, list_behind, container_read, bitvector_read, bitlist_read, basic_read, packed_read, basic_formed, option_read, none_read}
use Rattle.ssz_reading.proofs.RowsRead.{RowsRead, RowsRead-start, RowsRead-more, RowsRead-end}
use Rattle.ssz_reading.proofs.reading.+value.Goals as goal

pub read_elements-loop-i-init : goal.read_elements-loop-i-init
read_elements-loop-i-init g t c = record {
  nodes = c.new-places.ensures.nodes c.args.arena.now c.requires.node;
  values = λ vs are. subst (λ (parts : List Value). ElementsRead c.args.arena.now
      (type_of c.args.schema.now c.args.elem) vs 0 parts c.new-places.result)
      (sym c.in_ok-parts.ensures.items)
      (ElementsRead-start c.args.arena.now (type_of c.args.schema.now c.args.elem) c.args.top.depth
      c.args.count vs c.args.top.node c.new-places.result c.requires.composite are
      (c.new-places.ensures.holds c.args.arena.now));
  count = c.in_ok-parts.ensures.len;
  room = c.in_ok-parts.ensures.capacity;
}

pub read_containers-loop-i-init : goal.read_containers-loop-i-init
read_containers-loop-i-init g t c = record {
  depth = c.new-rows.ensures.depth ∙ c.depth.ensures.exact;
  nodes = c.new-rows.ensures.nodes c.args.arena.now c.requires.node;
  values = λ vs are. subst (λ (parts : List Value). RowsRead c.args.arena.now
      (type_of c.args.schema.now c.args.id) vs 0 parts c.new-rows.result)
      (sym c.in_ok-parts.ensures.items)
      (RowsRead-start c.args.arena.now (type_of c.args.schema.now c.args.id) c.args.top.depth
      c.args.count vs c.args.top.node c.new-rows.result c.requires.composite are
      (c.new-rows.ensures.holds c.args.arena.now));
  count = c.in_ok-parts.ensures.len;
  room = c.in_ok-parts.ensures.capacity;
}

pub put_container-loop-i-init : goal.put_container-loop-i-init
put_container-loop-i-init g t c = record {
  values = λ node vs are is.
      subst (λ (parts : List Value). FieldsRead c.args.schema.now.trees c.args.fields.now vs 0
      (depth (type_of c.args.schema.now c.args.id)) parts node)
      (sym c.in_ok-inner.ensures.items)
      (FieldsRead-start c.args.schema.now.trees c.args.fields.now
      (depth (type_of c.args.schema.now c.args.id)) vs node are);
  count = c.in_ok-inner.ensures.len;
  room = c.in_ok-inner.ensures.capacity;
}

pub read_fields-loop-i-init : goal.read_fields-loop-i-init
read_fields-loop-i-init g t c = record {
  values = λ vs are.
      subst (λ (parts : List Value). FieldsRead c.args.schema.now.trees c.args.fields.now vs 0
      c.args.top.depth parts (tree_of c.args.arena.now c.args.top.node))
      (sym c.in_ok-parts.ensures.items)
      (FieldsRead-start c.args.schema.now.trees c.args.fields.now c.args.top.depth vs
      (tree_of c.args.arena.now c.args.top.node) are);
  count = c.in_ok-parts.ensures.len;
  room = c.in_ok-parts.ensures.capacity;
}

pub read_elements-loop-i-preserved : goal.read_elements-loop-i-preserved
read_elements-loop-i-preserved g t c = record {
  nodes = c.next-part.ensures.nodes;
  values = λ vs are. ElementsRead-more c.args.arena.now (type_of c.args.schema.now c.args.elem) vs
      c.loop-i._i c.loop-i.parts.items c.put_field.new.parts.items
      c.loop-i.places c.next-part.new.self c.next-part.result (c.loop-i.invariant.values vs are)
      (omega (arith, are.many, c.loop-i-test.true))
      (record { tree = c.next-part.ensures.tree; rest = c.next-part.ensures.rest })
      c.in_ok-put_field.ensures.put;
  count = omega (arith, c.in_ok-put_field.ensures.len, c.loop-i.invariant.count);
  room = omega (arith, c.in_ok-put_field.ensures.capacity, c.loop-i.invariant.room);
}

pub read_elements-returns : goal.read_elements-returns
read_elements-returns g t c = λ vs are.
    ElementsRead-end c.args.arena.now (type_of c.args.schema.now c.args.elem) vs c.loop-i._i
    c.loop-i.parts.items c.loop-i.places (c.loop-i.invariant.values vs are)
    (omega (arith, are.many, c.loop-i-test.false))

pub read_containers-loop-i-preserved : goal.read_containers-loop-i-preserved
read_containers-loop-i-preserved g t c = record {
  depth = c.pass.ensures.depth ∙ c.refill.ensures.depth ∙ c.loop-i.invariant.depth;
  nodes = c.pass.ensures.nodes c.args.arena.now c.refill.ensures.nodes;
  values = λ vs are. RowsRead-more c.args.arena.now (type_of c.args.schema.now c.args.id) vs
      c.loop-i._i (depth (type_of c.args.schema.now c.args.id)) c.loop-i.parts.items
      c.put_container.new.parts.items c.loop-i.rows c.pass.new.self c.row.result.now
      (c.loop-i.invariant.values vs are) (omega (arith, are.many, c.loop-i-test.true))
      (record {
        first = λ tree trees held.
            subst (λ n. IsRowOf c.args.arena.now n tree c.row.result.now)
            (c.refill.ensures.depth ∙ c.loop-i.invariant.depth)
            (c.row.ensures.fields c.args.arena.now tree trees
            (c.refill.ensures.holds (tree ∷ trees) held));
        rest = λ tree trees held. c.pass.ensures.rest c.args.arena.now tree trees
            (c.refill.ensures.holds (tree ∷ trees) held);
      })
      c.in_ok-put_container.ensures.put;
  count = omega (arith, c.in_ok-put_container.ensures.len, c.loop-i.invariant.count);
  room = omega (arith, c.in_ok-put_container.ensures.capacity, c.loop-i.invariant.room);
}

pub read_containers-returns : goal.read_containers-returns
read_containers-returns g t c = λ vs are.
    RowsRead-end c.args.arena.now (type_of c.args.schema.now c.args.id) vs c.loop-i._i
    c.loop-i.parts.items c.loop-i.rows (c.loop-i.invariant.values vs are)
    (omega (arith, are.many, c.loop-i-test.false))

pub put_container-bounds-row-i : goal.put_container-bounds-row-i
put_container-bounds-row-i g t c =
    field_inside c.args.schema.now.trees c.args.fields.now (type_of c.args.schema.now c.args.id)
    c.loop-i.i (length c.args.row.now) c.requires.form c.loop-i-test.true c.requires.long

pub put_container-loop-i-preserved : goal.put_container-loop-i-preserved
put_container-loop-i-preserved g t c = record {
  values = λ node vs are is.
      FieldsRead-more c.args.schema.now.trees c.args.fields.now vs c.loop-i.i
      (depth (type_of c.args.schema.now c.args.id)) c.index-fields-i.result
      c.loop-i.inner.items c.put_field.new.parts.items node
      (c.loop-i.invariant.values node vs are is) c.loop-i-test.true c.index-fields-i.is
      (λ v h. c.in_ok-put_field.ensures.put v
      (at_place (type_of c.args.schema.now c.index-fields-i.result.1)
      (depth (type_of c.args.schema.now c.args.id)) c.loop-i.i v node
      (tree_of c.args.arena.now (row_node c.args.row.now c.loop-i.i)) h
      (λ trees within whole. is trees whole c.loop-i.i within)));
  count = omega (arith, c.in_ok-put_field.ensures.len, c.loop-i.invariant.count);
  room = omega (arith, c.in_ok-put_field.ensures.capacity, c.loop-i.invariant.room);
}

pub put_container-returns-clause-put : goal.put_container-returns-clause-put
put_container-returns-clause-put g t c = λ node is v h. record {
  value = Seq c.loop-i.inner;
  items = c.push_reserved.ensures.items;
  stands = subst (λ ty. ForValue ty node (λ w. Stands ty w (Seq c.loop-i.inner)))
      (sym c.requires.form)
      (container_read (fields_over c.args.schema.now.trees c.args.fields.now)
      (depth (type_of c.args.schema.now c.args.id)) node (Ok (Seq c.loop-i.inner))
      (ap depth c.requires.form)
      (λ vs are. FieldsRead-end c.args.schema.now.trees c.args.fields.now vs c.loop-i.i
      (depth (type_of c.args.schema.now c.args.id)) c.loop-i.inner node
      (c.loop-i.invariant.values node vs are is) c.loop-i-test.false)) v h;
}

pub put_container-put_field-requires : goal.put_container-put_field-requires
put_container-put_field-requires g t c =
    let below : c.index-fields-i.result.1 < c.args.id =
    part_known c.args.id c.args.fields.now c.loop-i.i c.index-fields-i.result c.loop-i-test.true
    c.index-fields-i.is c.requires.before in
    let known : c.index-fields-i.result.1 < length c.args.schema.now.trees =
    omega (arith, below, c.requires.known) in
    let inside : c.loop-i.i < length c.args.row.now =
    field_inside c.args.schema.now.trees c.args.fields.now (type_of c.args.schema.now c.args.id)
    c.loop-i.i (length c.args.row.now) c.requires.form c.loop-i-test.true c.requires.long in
    let node : IsNodeOf c.args.arena.now (row_node c.args.row.now c.loop-i.i) =
    c.requires.nodes c.loop-i.i (record { 0 = 0 }) inside in
    search rules

pub read_composite-read_containers-requires : goal.read_composite-read_containers-requires
read_composite-read_containers-requires g t c =
    let form : type_of c.args.schema.now c.args.elem
    ≡ container (fields_over c.args.schema.now.trees c.as_slice-fields.result.now) =
    sym (ap (λ fs. container (fields_over c.args.schema.now.trees fs))
    c.as_slice-fields.ensures.value
    ∙ ap (tree_over c.args.schema.now.trees) (sym c.in-Container.is) ∙ c.ty.ensures.form) in
    let before : AllByRecursion (λ (part : Part). part.1 < c.args.elem)
    c.as_slice-fields.result.now =
    subst (AllByRecursion (λ (part : Part). part.1 < c.args.elem))
    (sym c.as_slice-fields.ensures.value)
    (subst (AreBelow c.args.elem) c.in-Container.is c.ty.ensures.before) in
    search rules

pub read_fields-put_field-requires : goal.read_fields-put_field-requires
read_fields-put_field-requires g t c =
    let below : c.index-fields-i.result.1 < c.args.id =
    part_known c.args.id c.args.fields.now c.loop-i.i c.index-fields-i.result c.loop-i-test.true
    c.index-fields-i.is c.requires.before in
    let known : c.index-fields-i.result.1 < length c.args.schema.now.trees =
    omega (arith, below, c.requires.known) in
    search rules

pub read_fields-loop-i-preserved : goal.read_fields-loop-i-preserved
read_fields-loop-i-preserved g t c = record {
  values = λ vs are.
      FieldsRead-more c.args.schema.now.trees c.args.fields.now vs c.loop-i.i c.args.top.depth
      c.index-fields-i.result c.loop-i.parts.items c.put_field.new.parts.items
      (tree_of c.args.arena.now c.args.top.node)
      (c.loop-i.invariant.values vs are) c.loop-i-test.true c.index-fields-i.is
      (λ v h. c.in_ok-put_field.ensures.put v
      (at_place (type_of c.args.schema.now c.index-fields-i.result.1) c.args.top.depth c.loop-i.i v
      (tree_of c.args.arena.now c.args.top.node) (tree_of c.args.arena.now
      c.place-part.result)
      h c.place-part.ensures.tree));
  count = omega (arith, c.in_ok-put_field.ensures.len, c.loop-i.invariant.count);
  room = omega (arith, c.in_ok-put_field.ensures.capacity, c.loop-i.invariant.room);
}

pub read_fields-returns : goal.read_fields-returns
read_fields-returns g t c = λ vs are.
    FieldsRead-end c.args.schema.now.trees c.args.fields.now vs c.loop-i.i c.args.top.depth
    c.loop-i.parts (tree_of c.args.arena.now c.args.top.node) (c.loop-i.invariant.values vs are)
    c.loop-i-test.false

pub read_sequence-returns-in_ok-parts-in-Some : goal.read_sequence-returns-in_ok-parts-in-Some
read_sequence-returns-in_ok-parts-in-Some g t c =
    packed_read (basic_type c.in-Some.basic) (type_of c.args.schema.now c.args.elem)
    c.args.top.depth
    c.args.count (tree_of c.args.arena.now c.args.top.node) c.in_ok-parts-in-Some.parts
    c.in-Some.ensures.form (sym c.is_byte.ensures ∙ c.if-is_byte.false)
    (basic_formed c.in-Some.basic) c.in_ok-parts-in-Some.ensures

pub read_chosen-returns-in_ok-new-in-Some-Some : goal.read_chosen-returns-in_ok-new-in-Some-Some
read_chosen-returns-in_ok-new-in-Some-Some g t c =
    let here : slice_get c.args.options.now (c.mixed_parts-number.result.1 % 256)
    ≡ Some (Some c.in-Some-Some.option) =
    sym c.option_at.ensures ∙ c.in-Some-Some.is ∙ ap Some c.in-Some-Some.field-0-is in
    option_read c.args.schema.now.trees c.args.options.now c.mixed_parts-number.result.1
    c.in-Some-Some.option (tree_of c.args.arena.now c.args.node)
    (tree_of c.args.arena.now c.mixed_parts-number.result.0) c.in_ok-inner-in-Some-Some.inner
    c.in_ok-new-in-Some-Some.field-0 c.requires.few
    (record {
      tree = c.mixed_parts-number.ensures.tree;
      number = c.mixed_parts-number.ensures.number;
    })
    here c.in_ok-inner-in-Some-Some.ensures c.in_ok-new-in-Some-Some.ensures.ok

pub read_chosen-returns-in-Some-None : goal.read_chosen-returns-in-Some-None
read_chosen-returns-in-Some-None g t c =
    none_read c.args.schema.now.trees c.args.options.now c.mixed_parts-number.result.1
    (tree_of c.args.arena.now c.args.node)
    (tree_of c.args.arena.now c.mixed_parts-number.result.0) c.requires.few
    (record {
      tree = c.mixed_parts-number.ensures.tree;
      number = c.mixed_parts-number.ensures.number;
    })
    (λ id e. let differ : Some None ≡ Some (Some id) =
    sym (c.in-Some-None.is ∙ ap Some c.in-Some-None.field-0-is) ∙ c.option_at.ensures ∙ e in cc)

pub read_chosen-returns-in-None : goal.read_chosen-returns-in-None
read_chosen-returns-in-None g t c =
    none_read c.args.schema.now.trees c.args.options.now c.mixed_parts-number.result.1
    (tree_of c.args.arena.now c.args.node)
    (tree_of c.args.arena.now c.mixed_parts-number.result.0) c.requires.few
    (record {
      tree = c.mixed_parts-number.ensures.tree;
      number = c.mixed_parts-number.ensures.number;
    })
    (λ id e. let differ : None ≡ Some (Some id) =
    sym c.in-None.is ∙ c.option_at.ensures ∙ e in cc)

pub read_value-read_chosen-requires : goal.read_value-read_chosen-requires
read_value-read_chosen-requires g t c =
    let form : union (options_over c.args.schema.now.trees c.as_slice.result.now)
    ≡ type_of c.args.schema.now c.args.id =
    ap (λ ids. union (options_over c.args.schema.now.trees ids)) c.as_slice.ensures.value
    ∙ ap (tree_over c.args.schema.now.trees) (sym c.in-Union.is) ∙ c.ty.ensures.form in
    let few : length c.as_slice.result.now ≤ 128 =
    union_few c.args.schema.now.format c.args.schema.now.trees c.as_slice.result.now
    (subst (IsLegal c.args.schema.now.format) (sym form) c.ty.ensures.legal) in
    search rules

pub read_value-read_fields-requires : goal.read_value-read_fields-requires
read_value-read_fields-requires g t c =
    let few : c.depth-depth.result < 64 = omega (arith, c.depth-depth.ensures.at_most) in
    let before : AllByRecursion (λ (part : Part). part.1 < c.args.id)
    c.as_slice-in-Container.result.now =
    subst (AllByRecursion (λ (part : Part). part.1 < c.args.id))
    (sym c.as_slice-in-Container.ensures.value)
    (subst (AreBelow c.args.id) c.in-Container.is c.ty.ensures.before) in
    search rules

pub read_value-returns-in-Uint : goal.read_value-returns-in-Uint
read_value-returns-in-Uint g t c =
    let form : uint c.in-Uint.width ≡ type_of c.args.schema.now c.args.id =
    ap (tree_over c.args.schema.now.trees) (sym c.in-Uint.is) ∙ c.ty.ensures.form in
    subst (λ ty. ForValue ty (tree_of c.args.arena.now c.args.node)
    (λ v. Stands ty v c.value_at.result)) form
    (basic_read (uint c.in-Uint.width) (byte_count c.in-Uint.width)
    (tree_of c.args.arena.now c.args.node) c.chunk_of.result.now.0 c.value_at.result refl
    (λ v. tt) c.chunk_of.ensures c.value_at.ensures)

pub read_value-returns-in_ok-read_bits-in-Bitvector :
    goal.read_value-returns-in_ok-read_bits-in-Bitvector
read_value-returns-in_ok-read_bits-in-Bitvector g t c =
    let form : bitvector c.in-Bitvector.n ≡ type_of c.args.schema.now c.args.id =
    ap (tree_over c.args.schema.now.trees) (sym c.in-Bitvector.is) ∙ c.ty.ensures.form in
    subst (λ ty. ForValue ty (tree_of c.args.arena.now c.args.node)
    (λ v. Stands ty v (Bits c.in_ok-read_bits-in-Bitvector.field-0))) form
    (bitvector_read c.in-Bitvector.n c.depth-depth.result (tree_of c.args.arena.now c.args.node)
    c.in_ok-read_bits-in-Bitvector.field-0 (c.depth-depth.ensures.exact ∙ ap depth (sym form))
    c.in_ok-read_bits-in-Bitvector.ensures)

pub read_value-returns-in_ok-read_bits-in-Bitlist :
    goal.read_value-returns-in_ok-read_bits-in-Bitlist
read_value-returns-in_ok-read_bits-in-Bitlist g t c =
    let form : bitlist c.in-Bitlist.field-0 ≡ type_of c.args.schema.now c.args.id =
    ap (tree_over c.args.schema.now.trees) (sym c.in-Bitlist.is) ∙ c.ty.ensures.form in
    subst (λ ty. ForValue ty (tree_of c.args.arena.now c.args.node)
    (λ v. Stands ty v (Bits c.in_ok-read_bits-in-Bitlist.field-0))) form
    (bitlist_read c.args.schema.now.format c.in-Bitlist.field-0 c.depth-depth.result
    c.mixed_parts-count.result.1 (tree_of c.args.arena.now c.args.node)
    (tree_of c.args.arena.now c.mixed_parts-count.result.0) c.in_ok-read_bits-in-Bitlist.field-0
    (subst (IsLegal c.args.schema.now.format) (sym form) c.ty.ensures.legal)
    (c.depth-depth.ensures.exact ∙ ap depth (sym form))
    (record {
      tree = c.mixed_parts-count.ensures.tree;
      number = c.mixed_parts-count.ensures.number;
    })
    c.in_ok-read_bits-in-Bitlist.ensures)

pub read_value-returns-in-Vector : goal.read_value-returns-in-Vector
read_value-returns-in-Vector g t c =
    let form : vector (type_of c.args.schema.now c.in-Vector.elem) c.in-Vector.n
    ≡ type_of c.args.schema.now c.args.id =
    ap (tree_over c.args.schema.now.trees) (sym c.in-Vector.is) ∙ c.ty.ensures.form in
    subst (λ ty. ForValue ty (tree_of c.args.arena.now c.args.node)
    (λ v. Reads ty v c.read_sequence.result)) form
    (vector_read (type_of c.args.schema.now c.in-Vector.elem) c.in-Vector.n c.depth-depth.result
    (tree_of c.args.arena.now c.args.node) c.read_sequence.result
    (c.depth-depth.ensures.exact ∙ ap depth (sym form)) c.read_sequence.ensures)

pub read_list-returns : goal.read_list-returns
read_list-returns g t c = λ limit same.
    let elem : SszType = type_of c.args.schema.now c.args.elem in
    subst (λ ty. ForValue ty (tree_of c.args.arena.now c.args.node)
    (λ v. Reads ty v c.read_sequence.result)) (sym same)
    (list_read c.args.schema.now.format elem limit c.depth.result c.mixed_parts-count.result.1
    (tree_of c.args.arena.now c.args.node)
    (tree_of c.args.arena.now c.mixed_parts-count.result.0) c.read_sequence.result
    (subst (IsLegal c.args.schema.now.format) same c.requires.legal)
    (c.depth.ensures.exact ∙ ap depth same)
    (record {
      tree = c.mixed_parts-count.ensures.tree;
      number = c.mixed_parts-count.ensures.number;
    })
    c.read_sequence.ensures)

pub read_value-returns-in-List : goal.read_value-returns-in-List
read_value-returns-in-List g t c =
    let form : list (type_of c.args.schema.now c.in-List.elem) c.in-List.field-1
    ≡ type_of c.args.schema.now c.args.id =
    ap (tree_over c.args.schema.now.trees) (sym c.in-List.is) ∙ c.ty.ensures.form in
    c.read_list.ensures c.in-List.field-1 (sym form)

pub read_value-returns-in_ok-parts-in-Container :
    goal.read_value-returns-in_ok-parts-in-Container
read_value-returns-in_ok-parts-in-Container g t c =
    let form : container (fields_over c.args.schema.now.trees c.as_slice-in-Container.result.now)
    ≡ type_of c.args.schema.now c.args.id =
    ap (λ fs. container (fields_over c.args.schema.now.trees fs))
    c.as_slice-in-Container.ensures.value
    ∙ ap (tree_over c.args.schema.now.trees) (sym c.in-Container.is) ∙ c.ty.ensures.form in
    subst (λ ty. ForValue ty (tree_of c.args.arena.now c.args.node)
    (λ v. Stands ty v (Seq c.in_ok-parts-in-Container.parts))) form
    (container_read (fields_over c.args.schema.now.trees c.as_slice-in-Container.result.now)
    c.depth-depth.result (tree_of c.args.arena.now c.args.node)
    (Ok (Seq c.in_ok-parts-in-Container.parts))
    (c.depth-depth.ensures.exact ∙ ap depth (sym form)) c.in_ok-parts-in-Container.ensures)

pub read_chosen-read_value-requires : goal.read_chosen-read_value-requires
read_chosen-read_value-requires g t c =
    let here : slice_get c.args.options.now (c.mixed_parts-number.result.1 % 256)
    ≡ Some (Some c.in-Some-Some.option) =
    sym c.option_at.ensures ∙ c.in-Some-Some.is ∙ ap Some c.in-Some-Some.field-0-is in
    let below : c.in-Some-Some.option < c.args.id =
    below_at c.args.id c.args.options.now (c.mixed_parts-number.result.1 % 256)
    (Some c.in-Some-Some.option) here c.requires.before in
    search rules

pub put_field-returns-in-Uint-clause-put : goal.put_field-returns-in-Uint-clause-put
put_field-returns-in-Uint-clause-put g t c =
    let form : uint c.in-Uint.width ≡ type_of c.args.schema.now c.args.id =
    ap (tree_over c.args.schema.now.trees) (sym c.in-Uint.is) ∙ c.ty.ensures.form in
    subst (λ ty. ForValue ty (tree_of c.args.arena.now c.args.node)
    (λ v. StandsBehind ty v c.args.parts.now.items c.put_number.new.parts.items)) form
    (c.put_number.ensures.put (tree_of c.args.arena.now c.args.node) c.chunk_of.ensures)

-- of the form that the type is found to have, the value is put
pub put_field-returns-in-Vector-clause-put : goal.put_field-returns-in-Vector-clause-put
put_field-returns-in-Vector-clause-put g t c =
    let elem : SszType = type_of c.args.schema.now c.in-Vector.elem in
    let form : vector (type_of c.args.schema.now c.in-Vector.elem) c.in-Vector.n
    ≡ type_of c.args.schema.now c.args.id =
    ap (tree_over c.args.schema.now.trees) (sym c.in-Vector.is) ∙ c.ty.ensures.form in
    subst (λ ty. ForValue ty (tree_of c.args.arena.now c.args.node)
    (λ v. OnOk c.put_sequence.result
    (StandsBehind ty v c.args.parts.now.items c.put_sequence.new.parts.items))) form
    (vector_each elem c.in-Vector.n c.depth-depth.result (tree_of c.args.arena.now c.args.node)
    (λ v. OnOk c.put_sequence.result (StandsBehind (vector elem c.in-Vector.n) v
    c.args.parts.now.items c.put_sequence.new.parts.items))
    (c.depth-depth.ensures.exact ∙ ap depth (sym form)) c.put_sequence.ensures.put)

pub put_field-returns-in-List-clause-put : goal.put_field-returns-in-List-clause-put
put_field-returns-in-List-clause-put g t c =
    let elem : SszType = type_of c.args.schema.now c.in-List.elem in
    let form : list (type_of c.args.schema.now c.in-List.elem) c.in-List.field-1
    ≡ type_of c.args.schema.now c.args.id =
    ap (tree_over c.args.schema.now.trees) (sym c.in-List.is) ∙ c.ty.ensures.form in
    subst (λ ty. ForValue ty (tree_of c.args.arena.now c.args.node)
    (λ v. OnOk c.put_sequence-in-List.result
    (StandsBehind ty v c.args.parts.now.items c.put_sequence-in-List.new.parts.items))) form
    (list_each c.args.schema.now.format elem c.in-List.field-1 c.depth.result
    c.mixed_parts-count.result.1 (tree_of c.args.arena.now c.args.node)
    (tree_of c.args.arena.now c.mixed_parts-count.result.0)
    (λ v. OnOk c.put_sequence-in-List.result (StandsBehind (list elem c.in-List.field-1) v
    c.args.parts.now.items c.put_sequence-in-List.new.parts.items))
    (subst (IsLegal c.args.schema.now.format) (sym form) c.ty.ensures.legal)
    (c.depth.ensures.exact ∙ ap depth (sym form))
    (record {
      tree = c.mixed_parts-count.ensures.tree;
      number = c.mixed_parts-count.ensures.number;
    })
    (λ vs are. list_behind elem c.in-List.field-1 c.mixed_parts-count.result.1
    (sequence (values vs)) c.args.parts.now.items c.put_sequence-in-List.new.parts.items
    c.put_sequence-in-List.result (c.put_sequence-in-List.ensures.put vs are)))
