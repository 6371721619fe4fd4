use Rattle.std.proofs.Common.{◌+◌, ◌-◌, ◌*◌, ◌^◌, ◌%◌, ◌/◌, ◌<◌, ◌≤◌, ◌≡◌, ◌++◌, ◌∷◌, min, length, map, slice_get, Some, None, false, sym, ap, ◌∙◌, subst, arith, rules}
use Rattle.std.specs.List.{AllByRecursion}
use Rattle.ssz_schema.specs.Types.{container, vector, list, bitvector, bitlist, union}
use Rattle.ssz_schema.specs.Sizes.{basic_size, depth, fixed_size, head_size, is_variable, part_sizes}
use Rattle.ssz_schema.specs.Unfolding.{type_of, tree_over, fields_over, options_over, AreBelow}
use Rattle.ssz_schema.specs.Legal.{IsLegal}
use Rattle.ssz_value.specs.Encoding.{serialize, heads, bodies, field_encodings, joined_alike}
use Rattle.ssz_value.proofs.PartLemmas.{Part}
use Rattle.ssz_packing.proofs.Options.{below_at}
use Rattle.ssz_arena.specs.Content.{tree_of}
use Rattle.ssz_nodes.specs.Shown.{ExtendsBytes, ForElements, ForValue}
use Rattle.ssz_writing.specs.Offsets.{AddsBytes, Fills, FillsAll, room_of, rooms}
use Rattle.ssz_nodes.proofs.Formed.{union_few, field_inside}
use Rattle.ssz_nodes.proofs.Chunked.{Extends-same, Extends-trans, on_ok}
use Rattle.ssz_nodes.proofs.Walked.{at_place}
use Rattle.ssz_writing.proofs.Written.{alike, element_rooms, HeadsSoFar-start, HeadsSoFar-more, BodiesSoFar-start, BodiesSoFar-more, elements_adds, packed_adds}
use Rattle.ssz_nodes.specs.Ahead.{IsRowOf}
use Rattle.ssz_writing.proofs.RowsWritten.{RowsSoFar-start, leaf_adds, row_value, field_before, FieldHeads-end, RowsSoFar-more, RowBodiesSoFar-start, RowBodiesSoFar-more}
use Rattle.ssz_writing.proofs.Rooms.{fixed_filled, fixed_room, no_size}
use Rattle.ssz_writing.proofs.FieldsWritten.{FieldHeads-start, FieldHeads-more, FieldBodies-start, FieldBodies-more, FieldBodies-end, fixed_fields_add, fields_adds, vector_adds, list_adds, container_adds, bitvector_adds, bitlist_adds, option_adds, none_adds}
use Rattle.ssz_writing.proofs.writer.Writer.+append.Goals as goal

pub append_heads-loop-i-init : goal.append_heads-loop-i-init
append_heads-loop-i-init g t c = (
  c.new-places.ensures.nodes c.args.self.now.arena.now c.requires.node,
  Extends-same c.args.out.now.items,
  λ vs are. HeadsSoFar-start c.args.self.now.arena.now
      (type_of c.args.self.now.schema.now c.args.elem)
      c.args.top.depth c.args.count vs c.args.out.now.items c.args.top.node
      c.new-places.result c.requires.composite are
      (c.new-places.ensures.holds c.args.self.now.arena.now),
)

pub append_heads-loop-i-preserved : goal.append_heads-loop-i-preserved
append_heads-loop-i-preserved g t c = (
  c.next-part.ensures.nodes,
  Extends-trans c.args.out.now.items c.loop-i.out.items c.append_value.new.out.items
      c.loop-i.invariant.1 c.append_value.ensures.kept,
  λ vs are. HeadsSoFar-more c.args.self.now.arena.now
      (type_of c.args.self.now.schema.now c.args.elem) vs
      c.loop-i._i
      (c.args.out.now.items ++ rooms (alike (type_of c.args.self.now.schema.now c.args.elem) vs)
      (map (serialize (type_of c.args.self.now.schema.now c.args.elem)) vs))
      c.loop-i.out.items c.append_value.new.out.items c.loop-i.places c.next-part.new.self
      c.next-part.result (c.loop-i.invariant.2 vs are)
      (omega (arith, are.many, c.loop-i-test.true))
      (record { tree = c.next-part.ensures.tree; rest = c.next-part.ensures.rest })
      (λ v h. c.in_ok-append_value.ensures.value v h ∙ ap (λ xs. c.loop-i.out.items ++ xs)
      (fixed_room (fixed_size (type_of c.args.self.now.schema.now c.args.elem))
      (serialize (type_of c.args.self.now.schema.now c.args.elem) v)
      (sym c.is_variable.ensures ∙ c.if-is_variable.false))),
)

pub append_bodies-loop-i-init : goal.append_bodies-loop-i-init
append_bodies-loop-i-init g t c = (
  c.new-places.ensures.nodes c.args.self.now.arena.now c.requires.node,
  omega arith,
  λ front within kept. kept,
  λ vs are front at is. BodiesSoFar-start c.args.self.now.arena.now
      (type_of c.args.self.now.schema.now c.args.elem) c.args.top.depth c.args.count c.args.start vs
      front
      c.args.out.now.items c.args.top.node c.new-places.result
      (sym c.fixed_size.ensures.exact ∙ c.in_default.is) are
      (c.new-places.ensures.holds c.args.self.now.arena.now) (omega arith) at is,
)

pub append_bodies-loop-i-preserved : goal.append_bodies-loop-i-preserved
append_bodies-loop-i-preserved g t c = (
  c.next-part.ensures.nodes,
  omega (arith, c.loop-i.invariant.1),
  λ front within kept. c.append_body.ensures.kept front within
      (c.loop-i.invariant.2 front within kept),
  λ vs are front at is. BodiesSoFar-more c.args.self.now.arena.now
      (type_of c.args.self.now.schema.now c.args.elem) vs c.loop-i._i c.args.start c.loop-i.room _
      (front ++ heads (alike (type_of c.args.self.now.schema.now c.args.elem) vs)
      (map (serialize (type_of c.args.self.now.schema.now c.args.elem)) vs)
      (length c.args.out.now.items - c.args.start)
      ++ bodies (alike (type_of c.args.self.now.schema.now c.args.elem) vs)
      (map (serialize (type_of c.args.self.now.schema.now c.args.elem)) vs))
      c.loop-i.out.items c.append_body.new.out.items c.loop-i.places c.next-part.new.self
      c.next-part.result (c.loop-i.invariant.3 vs are front at is)
      (omega (arith, are.many, c.loop-i-test.true))
      (sym c.fixed_size.ensures.exact ∙ c.in_default.is)
      (record { tree = c.next-part.ensures.tree; rest = c.next-part.ensures.rest })
      c.saturating_add-room.ensures c.in_ok-append_body.ensures.value,
)

pub append_heads-returns-then-is_variable-clause-value :
    goal.append_heads-returns-then-is_variable-clause-value
append_heads-returns-then-is_variable-clause-value g t c = λ vs are.
    on_ok c.append_rooms.result
    (λ is. is ∙ ap (λ xs. c.args.out.now.items ++ xs)
    (element_rooms (type_of c.args.self.now.schema.now c.args.elem) c.args.count vs
    (no_size (fixed_size (type_of c.args.self.now.schema.now c.args.elem))
    (sym c.is_variable.ensures ∙ c.if-is_variable.true)) are.many))
    c.append_rooms.ensures.rooms

pub append_field_head-returns-in-Some-clause-value :
    goal.append_field_head-returns-in-Some-clause-value
append_field_head-returns-in-Some-clause-value g t c = λ v h.
    let ty = type_of c.args.self.now.schema.now c.args.id in
    let stands = at_place ty c.args.top.depth c.args.i v
    (tree_of c.args.self.now.arena.now c.args.top.node)
    (tree_of c.args.self.now.arena.now c.node_of_place-part.result) h
    c.node_of_place-part.ensures.tree in
    subst (λ size. AddsBytes (room_of size (serialize ty v)) c.args.out.now.items
    c.append_value.new.out.items c.append_value.result)
    (sym c.in-Some.is ∙ c.fixed_size.ensures.exact) (c.append_value.ensures.value v stands)

pub append_field_body-returns-in-None-clause-value :
    goal.append_field_body-returns-in-None-clause-value
append_field_body-returns-in-None-clause-value g t c = λ v h.
    let ty = type_of c.args.self.now.schema.now c.args.id in
    let stands = at_place ty c.args.top.depth c.args.i v
    (tree_of c.args.self.now.arena.now c.args.top.node)
    (tree_of c.args.self.now.arena.now c.node_of_place-part.result) h
    c.node_of_place-part.ensures.tree in
    subst (λ size. Fills size
    (serialize ty v) c.args.slot.start c.args.slot.room c.args.out.now.items
    c.append_body.new.out.items c.append_body.result)
    (sym c.in-None.is ∙ c.fixed_size.ensures.exact) (c.append_body.ensures.value v stands)

pub append_field_heads-loop-i-init : goal.append_field_heads-loop-i-init
append_field_heads-loop-i-init g t c = (
  Extends-same c.args.out.now.items,
  λ vs are. FieldHeads-start c.args.self.now.schema.now.trees c.args.fields.now c.args.top.depth vs
      c.args.out.now.items (tree_of c.args.self.now.arena.now c.args.top.node) are,
)

pub append_field_heads-loop-i-preserved : goal.append_field_heads-loop-i-preserved
append_field_heads-loop-i-preserved g t c = (
  Extends-trans c.args.out.now.items c.loop-i.out.items c.append_field_head.new.out.items
      c.loop-i.invariant.0 c.append_field_head.ensures.kept,
  λ vs are. FieldHeads-more c.args.self.now.schema.now.trees c.args.fields.now c.loop-i.i
      c.args.top.depth
      c.index-fields-i.result
      (c.args.out.now.items
      ++ rooms (part_sizes (fields_over c.args.self.now.schema.now.trees c.args.fields.now))
      (field_encodings (fields_over c.args.self.now.schema.now.trees c.args.fields.now) vs))
      c.loop-i.out.items c.append_field_head.new.out.items
      (tree_of c.args.self.now.arena.now c.args.top.node) (c.loop-i.invariant.1 vs are)
      c.loop-i-test.true
      c.index-fields-i.is c.in_ok-append_field_head.ensures.value,
)

pub append_field_bodies-loop-i-init : goal.append_field_bodies-loop-i-init
append_field_bodies-loop-i-init g t c = (
  omega arith,
  λ front within kept. kept,
  λ format legal vs are front at is. FieldBodies-start format c.args.self.now.schema.now.trees
      c.args.fields.now c.args.top.depth c.args.start vs front c.args.out.now.items
      (tree_of c.args.self.now.arena.now c.args.top.node) legal are (omega arith) at is,
)

pub append_field_bodies-loop-i-preserved : goal.append_field_bodies-loop-i-preserved
append_field_bodies-loop-i-preserved g t c = (
  omega (arith, c.loop-i.invariant.0),
  λ front within kept. c.append_field_body.ensures.kept front within
      (c.loop-i.invariant.1 front within kept),
  λ format legal vs are front at is. FieldBodies-more c.args.self.now.schema.now.trees
      c.args.fields.now c.loop-i.i c.args.top.depth c.args.start c.loop-i.room _
      c.index-fields-i.result
      (front ++ heads (part_sizes (fields_over c.args.self.now.schema.now.trees c.args.fields.now))
      (field_encodings (fields_over c.args.self.now.schema.now.trees c.args.fields.now) vs)
      (length c.args.out.now.items - c.args.start)
      ++ bodies (part_sizes (fields_over c.args.self.now.schema.now.trees c.args.fields.now))
      (field_encodings (fields_over c.args.self.now.schema.now.trees c.args.fields.now) vs))
      c.loop-i.out.items c.append_field_body.new.out.items
      (tree_of c.args.self.now.arena.now c.args.top.node)
      (c.loop-i.invariant.2 format legal vs are front at is)
      c.loop-i-test.true c.index-fields-i.is
      (c.saturating_add-room.ensures
      ∙ ap (λ n. min (c.loop-i.room + n) (2 ^ 64 - 1))
      (c.head_len.ensures ∙ ap head_size c.fixed_size.ensures.exact))
      c.in_ok-append_field_body.ensures.value,
)

pub append_field_bodies-returns-clause-value : goal.append_field_bodies-returns-clause-value
append_field_bodies-returns-clause-value g t c = λ format legal vs are front at is.
    FieldBodies-end c.args.self.now.schema.now.trees c.args.fields.now c.loop-i.i c.args.top.depth
    c.args.start
    c.loop-i.room _ c.loop-i.out.items (tree_of c.args.self.now.arena.now c.args.top.node)
    (c.loop-i.invariant.2 format legal vs are front at is) (omega (arith, c.loop-i-test.false))

pub append_bodies-returns-in-Some-clause-value : goal.append_bodies-returns-in-Some-clause-value
append_bodies-returns-in-Some-clause-value g t c = λ vs are front at is.
    is ∙ fixed_filled (fixed_size (type_of c.args.self.now.schema.now c.args.elem))
    c.in-Some.field-0
    (length vs) (length c.args.out.now.items - c.args.start)
    (map (serialize (type_of c.args.self.now.schema.now c.args.elem)) vs) front
    (sym c.fixed_size.ensures.exact ∙ c.in-Some.is)

pub append_chosen-returns-in-Some-Some-clause-value :
    goal.append_chosen-returns-in-Some-Some-clause-value
append_chosen-returns-in-Some-Some-clause-value g t c =
    let here : slice_get c.args.options.now (c.mixed_parts-number.result.1 % 256)
    ≡ Some (Some c.in-Some-Some.option) =
    sym c.option_at.ensures ∙ c.in-Some-Some.is ∙ ap Some c.in-Some-Some.field-0-is in
    option_adds c.args.self.now.schema.now.trees c.args.options.now c.mixed_parts-number.result.1
    c.in-Some-Some.option (tree_of c.args.self.now.arena.now c.args.node)
    (tree_of c.args.self.now.arena.now c.mixed_parts-number.result.0) c.args.out.now.items
    c.append_byte.new.out.items c.append_value.new.out.items c.append_value.result c.requires.few
    (record {
      tree = c.mixed_parts-number.ensures.tree;
      number = c.mixed_parts-number.ensures.number;
    })
    here c.in_ok-append_byte.ensures.items c.append_value.ensures.value

pub append_chosen-returns-in-Some-None-clause-value :
    goal.append_chosen-returns-in-Some-None-clause-value
append_chosen-returns-in-Some-None-clause-value g t c =
    none_adds c.args.self.now.schema.now.trees c.args.options.now c.mixed_parts-number.result.1
    (tree_of c.args.self.now.arena.now c.args.node)
    (tree_of c.args.self.now.arena.now c.mixed_parts-number.result.0) c.args.out.now.items
    c.append_byte.new.out.items c.requires.few
    (record {
      tree = c.mixed_parts-number.ensures.tree;
      number = c.mixed_parts-number.ensures.number;
    })
    (λ id e. let differ : Some None ≡ Some (Some id) =
    sym (c.in-Some-None.is ∙ ap Some c.in-Some-None.field-0-is) ∙ c.option_at.ensures ∙ e in cc)
    c.in_ok-append_byte.ensures.items

pub append_chosen-returns-in-None-clause-value : goal.append_chosen-returns-in-None-clause-value
append_chosen-returns-in-None-clause-value g t c =
    none_adds c.args.self.now.schema.now.trees c.args.options.now c.mixed_parts-number.result.1
    (tree_of c.args.self.now.arena.now c.args.node)
    (tree_of c.args.self.now.arena.now c.mixed_parts-number.result.0) c.args.out.now.items
    c.append_byte.new.out.items c.requires.few
    (record {
      tree = c.mixed_parts-number.ensures.tree;
      number = c.mixed_parts-number.ensures.number;
    })
    (λ id e. let differ : None ≡ Some (Some id) =
    sym c.in-None.is ∙ c.option_at.ensures ∙ e in cc)
    c.in_ok-append_byte.ensures.items

pub append_fields-returns-in-Some-clause-value : goal.append_fields-returns-in-Some-clause-value
append_fields-returns-in-Some-clause-value g t c = λ format legal vs are.
    fixed_fields_add (fields_over c.args.self.now.schema.now.trees c.args.fields.now)
    c.in-Some.field-0 vs
    c.args.out.now.items c.append_field_heads.new.out.items
    (ap fixed_size (sym c.requires.form) ∙ sym c.fixed_size.ensures.exact ∙ c.in-Some.is)
    (c.in_ok-append_field_heads.ensures.value vs are)

pub append_fields-returns-clause-value : goal.append_fields-returns-clause-value
append_fields-returns-clause-value g t c = λ format legal vs are.
    let start : c.len-start.result ≡ length c.args.out.now.items =
    omega (arith, c.len-start.ensures, c.args.out.now.ok.0) in
    on_ok c.append_field_bodies.result
    (fields_adds format (fields_over c.args.self.now.schema.now.trees c.args.fields.now)
    c.len-start.result vs c.args.out.now.items c.append_field_heads.new.out.items
    c.append_field_bodies.new.out.items legal are.fit start
    (c.in_ok-append_field_heads.ensures.value vs are))
    (c.append_field_bodies.ensures.value format legal vs are c.args.out.now.items
    (sym start) (c.in_ok-append_field_heads.ensures.value vs are))

pub append_sequence-returns-in-Some-clause-value : goal.append_sequence-returns-in-Some-clause-value
append_sequence-returns-in-Some-clause-value g t c =
    packed_adds c.in-Some.basic (type_of c.args.self.now.schema.now c.args.elem) c.size.result
    c.args.top.depth c.args.count (c.from.result * c.size.result)
    (tree_of c.args.self.now.arena.now c.args.top.node) c.args.out.now.items
    c.append_packed.new.out.items
    c.append_packed.result c.in-Some.ensures.form c.size.ensures.exact
    (ap (λ n. n * c.size.result) c.from.ensures) c.append_packed.ensures.bytes

pub append_sequence-returns-in_ok-append_heads-in-None-clause-value :
    goal.append_sequence-returns-in_ok-append_heads-in-None-clause-value
append_sequence-returns-in_ok-append_heads-in-None-clause-value g t c = λ vs are.
    let start : c.len-start.result ≡ length c.make_room.new.out.items =
    omega (arith, c.len-start.ensures, c.make_room.new.out.ok.0) in
    subst (λ old. AddsBytes
    (joined_alike (fixed_size (type_of c.args.self.now.schema.now c.args.elem))
    (map (serialize (type_of c.args.self.now.schema.now c.args.elem)) vs)) old
    c.append_bodies.new.out.items
    c.append_bodies.result) c.make_room.ensures
    (on_ok c.append_bodies.result
    (elements_adds c.args.self.now.schema.now.format
    (type_of c.args.self.now.schema.now c.args.elem)
    c.len-start.result vs c.make_room.new.out.items c.append_heads.new.out.items
    c.append_bodies.new.out.items c.ty-legal.ensures.legal are.fit start
    (c.in_ok-append_heads-in-None.ensures.value vs are))
    (c.append_bodies.ensures.value vs are c.make_room.new.out.items
    (sym start) (c.in_ok-append_heads-in-None.ensures.value vs are)))

pub append_value-append_chosen-requires : goal.append_value-append_chosen-requires
append_value-append_chosen-requires g t c =
    let form : union (options_over c.args.self.now.schema.now.trees c.as_slice.result.now)
    ≡ type_of c.args.self.now.schema.now c.args.id =
    ap (λ ids. union (options_over c.args.self.now.schema.now.trees ids)) c.as_slice.ensures.value
    ∙ ap (tree_over c.args.self.now.schema.now.trees) (sym c.in-Union.is) ∙ c.ty.ensures.form in
    let few : length c.as_slice.result.now ≤ 128 =
    union_few c.args.self.now.schema.now.format c.args.self.now.schema.now.trees
    c.as_slice.result.now
    (subst (IsLegal c.args.self.now.schema.now.format) (sym form) c.ty.ensures.legal) in
    search rules

pub append_value-append_fields-requires : goal.append_value-append_fields-requires
append_value-append_fields-requires g t c =
    let few : c.depth-depth.result < 64 = omega (arith, c.depth-depth.ensures.at_most) in
    let form : type_of c.args.self.now.schema.now c.args.id
    ≡ container (fields_over c.args.self.now.schema.now.trees c.as_slice-in-Container.result.now) =
    sym (ap (λ fs. container (fields_over c.args.self.now.schema.now.trees fs))
    c.as_slice-in-Container.ensures.value
    ∙ ap (tree_over c.args.self.now.schema.now.trees) (sym c.in-Container.is) ∙ c.ty.ensures.form)
    in
    let before : AllByRecursion (λ (part : Part). part.1 < c.args.id)
    c.as_slice-in-Container.result.now =
    subst (AllByRecursion (λ (part : Part). part.1 < c.args.id))
    (sym c.as_slice-in-Container.ensures.value)
    (subst (AreBelow c.args.id) c.in-Container.is c.ty.ensures.before) in
    search rules

pub append_value-returns-in-Bitvector-clause-value :
    goal.append_value-returns-in-Bitvector-clause-value
append_value-returns-in-Bitvector-clause-value g t c =
    let form : bitvector c.in-Bitvector.n ≡ type_of c.args.self.now.schema.now c.args.id =
    ap (tree_over c.args.self.now.schema.now.trees) (sym c.in-Bitvector.is) ∙ c.ty.ensures.form in
    subst (λ ty. ForValue ty (tree_of c.args.self.now.arena.now c.args.node)
    (λ v. AddsBytes (serialize ty v) c.args.out.now.items c.append_packed.new.out.items
    c.append_packed.result)) form
    (bitvector_adds c.in-Bitvector.n c.depth-depth.result ((c.from.result + 7) / 8)
    (tree_of c.args.self.now.arena.now c.args.node) c.args.out.now.items
    c.append_packed.new.out.items
    c.append_packed.result (c.depth-depth.ensures.exact ∙ ap depth (sym form))
    (ap (λ n. (n + 7) / 8) c.from.ensures) c.append_packed.ensures.bytes)

pub append_value-returns-in-Bitlist-clause-value : goal.append_value-returns-in-Bitlist-clause-value
append_value-returns-in-Bitlist-clause-value g t c =
    let form : bitlist c.in-Bitlist.field-0 ≡ type_of c.args.self.now.schema.now c.args.id =
    ap (tree_over c.args.self.now.schema.now.trees) (sym c.in-Bitlist.is) ∙ c.ty.ensures.form in
    subst (λ ty. ForValue ty (tree_of c.args.self.now.arena.now c.args.node)
    (λ v. AddsBytes (serialize ty v) c.args.out.now.items c.append_bitlist.new.out.items
    c.append_bitlist.result)) form
    (bitlist_adds c.args.self.now.schema.now.format c.in-Bitlist.field-0 c.depth-depth.result
    (tree_of c.args.self.now.arena.now c.args.node) c.args.out.now.items
    c.append_bitlist.new.out.items
    c.append_bitlist.result
    (subst (IsLegal c.args.self.now.schema.now.format) (sym form) c.ty.ensures.legal)
    (c.depth-depth.ensures.exact ∙ ap depth (sym form)) c.append_bitlist.ensures.value)

pub append_value-returns-in-Vector-clause-value : goal.append_value-returns-in-Vector-clause-value
append_value-returns-in-Vector-clause-value g t c =
    let form : vector (type_of c.args.self.now.schema.now c.in-Vector.elem) c.in-Vector.n
    ≡ type_of c.args.self.now.schema.now c.args.id =
    ap (tree_over c.args.self.now.schema.now.trees) (sym c.in-Vector.is) ∙ c.ty.ensures.form in
    subst (λ ty. ForValue ty (tree_of c.args.self.now.arena.now c.args.node)
    (λ v. AddsBytes (serialize ty v) c.args.out.now.items c.append_sequence.new.out.items
    c.append_sequence.result)) form
    (vector_adds (type_of c.args.self.now.schema.now c.in-Vector.elem) c.in-Vector.n
    c.depth-depth.result
    (tree_of c.args.self.now.arena.now c.args.node) c.args.out.now.items
    c.append_sequence.new.out.items
    c.append_sequence.result (c.depth-depth.ensures.exact ∙ ap depth (sym form))
    c.append_sequence.ensures.value)

pub append_value-returns-in-List-clause-value : goal.append_value-returns-in-List-clause-value
append_value-returns-in-List-clause-value g t c =
    let form : list (type_of c.args.self.now.schema.now c.in-List.elem) c.in-List.field-1
    ≡ type_of c.args.self.now.schema.now c.args.id =
    ap (tree_over c.args.self.now.schema.now.trees) (sym c.in-List.is) ∙ c.ty.ensures.form in
    subst (λ ty. ForValue ty (tree_of c.args.self.now.arena.now c.args.node)
    (λ v. AddsBytes (serialize ty v) c.args.out.now.items c.append_sequence-in-List.new.out.items
    c.append_sequence-in-List.result)) form
    (list_adds c.args.self.now.schema.now.format (type_of c.args.self.now.schema.now c.in-List.elem)
    c.in-List.field-1 c.depth-depth.result c.mixed_parts-count.result.1
    (tree_of c.args.self.now.arena.now c.args.node)
    (tree_of c.args.self.now.arena.now c.mixed_parts-count.result.0) c.args.out.now.items
    c.append_sequence-in-List.new.out.items c.append_sequence-in-List.result
    (subst (IsLegal c.args.self.now.schema.now.format) (sym form) c.ty.ensures.legal)
    (c.depth-depth.ensures.exact ∙ ap depth (sym form))
    (record {
      tree = c.mixed_parts-count.ensures.tree;
      number = c.mixed_parts-count.ensures.number;
    })
    c.append_sequence-in-List.ensures.value)

pub append_value-returns-in-Container-clause-value :
    goal.append_value-returns-in-Container-clause-value
append_value-returns-in-Container-clause-value g t c =
    let form : container (fields_over c.args.self.now.schema.now.trees
    c.as_slice-in-Container.result.now)
    ≡ type_of c.args.self.now.schema.now c.args.id =
    ap (λ fs. container (fields_over c.args.self.now.schema.now.trees fs))
    c.as_slice-in-Container.ensures.value
    ∙ ap (tree_over c.args.self.now.schema.now.trees) (sym c.in-Container.is) ∙ c.ty.ensures.form in
    let legal = subst (IsLegal c.args.self.now.schema.now.format) (sym form) c.ty.ensures.legal in
    subst (λ ty. ForValue ty (tree_of c.args.self.now.arena.now c.args.node)
    (λ v. AddsBytes (serialize ty v) c.args.out.now.items c.append_fields.new.out.items
    c.append_fields.result)) form
    (container_adds (fields_over c.args.self.now.schema.now.trees
    c.as_slice-in-Container.result.now)
    c.depth-depth.result (tree_of c.args.self.now.arena.now c.args.node) c.args.out.now.items
    c.append_fields.new.out.items c.append_fields.result
    (c.depth-depth.ensures.exact ∙ ap depth (sym form))
    (c.append_fields.ensures.value c.args.self.now.schema.now.format legal.1))

pub append_part-returns-then-len-gt0-clause-value :
    goal.append_part-returns-then-len-gt0-clause-value
append_part-returns-then-len-gt0-clause-value g t c =
    leaf_adds (type_of c.args.self.now.schema.now c.args.id) c.args.len
    (tree_of c.args.self.now.arena.now c.args.node) c.args.out.now.items c.append_leaf.new.out.items
    c.if-len-gt0.true c.requires.len c.in_ok-append_leaf.ensures.bytes

pub append_row_parts-loop-i-init : goal.append_row_parts-loop-i-init
append_row_parts-loop-i-init g t c = (
  Extends-same c.args.out.now.items,
  λ node row vs are. FieldHeads-start c.args.self.now.schema.now.trees c.args.few.now.fields.now
      (depth (type_of c.args.self.now.schema.now c.args.few.now.id)) vs c.args.out.now.items node
      are,
)

pub append_row_parts-bounds-row-i : goal.append_row_parts-bounds-row-i
append_row_parts-bounds-row-i g t c =
    field_inside c.args.self.now.schema.now.trees c.args.few.now.fields.now
    (type_of c.args.self.now.schema.now c.args.few.now.id) c.loop-i.i (length c.args.row.now)
    c.requires.fields.form c.loop-i-test.true c.requires.long

pub append_row_parts-append_part-requires : goal.append_row_parts-append_part-requires
append_row_parts-append_part-requires g t c =
    let below : c.field-item.result.1 < c.args.few.now.id =
    field_before c.args.few.now.fields.now c.args.few.now.id c.loop-i.i c.field-item.result
    c.requires.fields.before c.loop-i-test.true c.field-item.is in
    let node = c.requires.row c.loop-i.i (record { 0 = 0 })
    (field_inside c.args.self.now.schema.now.trees c.args.few.now.fields.now
    (type_of c.args.self.now.schema.now c.args.few.now.id) c.loop-i.i (length c.args.row.now)
    c.requires.fields.form c.loop-i-test.true c.requires.long) in
    let len = c.requires.lens c.loop-i.i c.field-item.result c.loop-i-test.true
    c.field-item.is in
    search rules

pub append_row_parts-loop-i-preserved : goal.append_row_parts-loop-i-preserved
append_row_parts-loop-i-preserved g t c = (
  Extends-trans c.args.out.now.items c.loop-i.out.items c.append_part.new.out.items
      c.loop-i.invariant.0 c.append_part.ensures.kept,
  λ node row vs are. FieldHeads-more c.args.self.now.schema.now.trees c.args.few.now.fields.now
      c.loop-i.i
      (depth (type_of c.args.self.now.schema.now c.args.few.now.id)) c.field-item.result
      (c.args.out.now.items
      ++ rooms (part_sizes (fields_over c.args.self.now.schema.now.trees c.args.few.now.fields.now))
      (field_encodings (fields_over c.args.self.now.schema.now.trees c.args.few.now.fields.now) vs))
      c.loop-i.out.items c.append_part.new.out.items node (c.loop-i.invariant.1 node row vs are)
      c.loop-i-test.true c.field-item.is
      (λ v at. c.in_ok-append_part.ensures.value v
      (at_place _ (depth (type_of c.args.self.now.schema.now c.args.few.now.id)) c.loop-i.i v node _
      at
      (λ trees inside whole. row trees whole c.loop-i.i inside))),
)

pub append_row_parts-returns-clause-value : goal.append_row_parts-returns-clause-value
append_row_parts-returns-clause-value g t c = λ node row vs are.
    FieldHeads-end c.args.self.now.schema.now.trees c.args.few.now.fields.now c.loop-i.i
    (depth (type_of c.args.self.now.schema.now c.args.few.now.id)) _ c.loop-i.out.items node
    (c.loop-i.invariant.1 node row vs are) c.loop-i-test.false

pub append_containers-loop-i-preserved : goal.append_containers-loop-i-preserved
append_containers-loop-i-preserved g t c = (
  c.pass.ensures.nodes c.args.self.now.arena.now c.refill.ensures.nodes,
  c.pass.ensures.depth ∙ c.refill.ensures.depth ∙ c.loop-i.invariant.1,
  Extends-trans c.args.out.now.items c.loop-i.out.items c.append_row_parts.new.out.items
      c.loop-i.invariant.2 c.append_row_parts.ensures.kept,
  λ vs are. RowsSoFar-more c.args.self.now.arena.now
      (type_of c.args.self.now.schema.now c.args.few.now.id)
      (depth (type_of c.args.self.now.schema.now c.args.few.now.id)) vs c.loop-i._i _
      c.loop-i.out.items
      c.append_row_parts.new.out.items c.loop-i.rows c.pass.new.self c.row.result.now
      (c.loop-i.invariant.3 vs are) (omega (arith, are.many, c.loop-i-test.true))
      (λ first trees held. subst (λ n. IsRowOf c.args.self.now.arena.now n first
      c.row.result.now) (c.refill.ensures.depth ∙ c.loop-i.invariant.1)
      (c.row.ensures.fields c.args.self.now.arena.now first trees
      (c.refill.ensures.holds (first ∷ trees) held)))
      (λ first trees held. c.pass.ensures.rest c.args.self.now.arena.now first trees
      (c.refill.ensures.holds (first ∷ trees) held))
      (λ node row v h. row_value (type_of c.args.self.now.schema.now c.args.few.now.id)
      (fields_over c.args.self.now.schema.now.trees c.args.few.now.fields.now) node
      c.loop-i.out.items
      c.append_row_parts.new.out.items c.requires.fields.form c.requires.fixed
      (c.in_ok-append_row_parts.ensures.value node row) v h
      ∙ ap (λ xs. c.loop-i.out.items ++ xs)
      (fixed_room (fixed_size (type_of c.args.self.now.schema.now c.args.few.now.id))
      (serialize (type_of c.args.self.now.schema.now c.args.few.now.id) v) c.requires.fixed)),
)

pub append_row-returns-clause-value : goal.append_row-returns-clause-value
append_row-returns-clause-value g t c = λ node row.
    let form = c.requires.fields.form in
    let legal = subst (IsLegal c.args.self.now.schema.now.format) form c.ty-legal.ensures.legal in
    let start : c.len-start.result ≡ length c.args.out.now.items =
    omega (arith, c.len-start.ensures, c.args.out.now.ok.0) in
    subst (λ ty. ForValue ty node (λ v. AddsBytes (serialize ty v) c.args.out.now.items
    c.append_row_bodies.new.out.items c.append_row_bodies.result)) (sym form)
    (container_adds (fields_over c.args.self.now.schema.now.trees c.args.few.now.fields.now)
    (depth (type_of c.args.self.now.schema.now c.args.few.now.id)) node c.args.out.now.items
    c.append_row_bodies.new.out.items c.append_row_bodies.result (ap depth form)
    (λ vs are. on_ok c.append_row_bodies.result
    (fields_adds c.args.self.now.schema.now.format
    (fields_over c.args.self.now.schema.now.trees c.args.few.now.fields.now) c.len-start.result vs
    c.args.out.now.items c.append_row_heads.new.out.items c.append_row_bodies.new.out.items
    legal.1 are.fit start (c.in_ok-append_row_heads.ensures.value node row vs are))
    (c.append_row_bodies.ensures.value c.args.self.now.schema.now.format legal.1 node row vs are
    c.args.out.now.items (sym start) (c.in_ok-append_row_heads.ensures.value node row vs are))))

pub append_row_bodies-loop-i-init : goal.append_row_bodies-loop-i-init
append_row_bodies-loop-i-init g t c = (
  omega arith,
  λ front within kept. kept,
  λ format legal node row vs are front at is. FieldBodies-start format
      c.args.self.now.schema.now.trees
      c.args.few.now.fields.now (depth (type_of c.args.self.now.schema.now c.args.few.now.id))
      c.args.start vs front
      c.args.out.now.items node legal are (omega arith) at is,
)

pub append_row_bodies-bounds-row-i : goal.append_row_bodies-bounds-row-i
append_row_bodies-bounds-row-i g t c =
    field_inside c.args.self.now.schema.now.trees c.args.few.now.fields.now
    (type_of c.args.self.now.schema.now c.args.few.now.id) c.loop-i.i (length c.args.row.now)
    c.requires.fields.form c.loop-i-test.true c.requires.long

pub append_row_bodies-append_part_body-requires : goal.append_row_bodies-append_part_body-requires
append_row_bodies-append_part_body-requires g t c =
    let below : c.field-item.result.1 < c.args.few.now.id =
    field_before c.args.few.now.fields.now c.args.few.now.id c.loop-i.i c.field-item.result
    c.requires.fields.before c.loop-i-test.true c.field-item.is in
    let node = c.requires.row c.loop-i.i (record { 0 = 0 })
    (field_inside c.args.self.now.schema.now.trees c.args.few.now.fields.now
    (type_of c.args.self.now.schema.now c.args.few.now.id) c.loop-i.i (length c.args.row.now)
    c.requires.fields.form c.loop-i-test.true c.requires.long) in
    let size = c.requires.sizes c.loop-i.i c.field-item.result c.loop-i-test.true c.field-item.is in
    search rules

pub append_row_bodies-loop-i-preserved : goal.append_row_bodies-loop-i-preserved
append_row_bodies-loop-i-preserved g t c = (
  omega (arith, c.loop-i.invariant.0),
  λ front within kept. c.append_part_body.ensures.kept front within
      (c.loop-i.invariant.1 front within kept),
  λ format legal node row vs are front at is. FieldBodies-more c.args.self.now.schema.now.trees
      c.args.few.now.fields.now c.loop-i.i (depth (type_of c.args.self.now.schema.now
      c.args.few.now.id)) c.args.start
      c.loop-i.room _ c.field-item.result
      (front ++ heads (part_sizes (fields_over c.args.self.now.schema.now.trees
      c.args.few.now.fields.now))
      (field_encodings (fields_over c.args.self.now.schema.now.trees c.args.few.now.fields.now) vs)
      (length c.args.out.now.items - c.args.start)
      ++ bodies (part_sizes (fields_over c.args.self.now.schema.now.trees
      c.args.few.now.fields.now))
      (field_encodings (fields_over c.args.self.now.schema.now.trees c.args.few.now.fields.now) vs))
      c.loop-i.out.items c.append_part_body.new.out.items node
      (c.loop-i.invariant.2 format legal node row vs are front at is)
      c.loop-i-test.true c.field-item.is
      (c.saturating_add-room.ensures
      ∙ ap (λ n. min (c.loop-i.room + n) (2 ^ 64 - 1))
      (c.head_len.ensures ∙ ap head_size c.fixed_size.ensures.exact))
      (λ v here. c.in_ok-append_part_body.ensures.value v
      (at_place _ (depth (type_of c.args.self.now.schema.now c.args.few.now.id)) c.loop-i.i v node _
      here
      (λ trees inside whole. row trees whole c.loop-i.i inside))),
)

pub append_row_bodies-returns-clause-value : goal.append_row_bodies-returns-clause-value
append_row_bodies-returns-clause-value g t c = λ format legal node row vs are front at is.
    FieldBodies-end c.args.self.now.schema.now.trees c.args.few.now.fields.now c.loop-i.i
    (depth (type_of c.args.self.now.schema.now c.args.few.now.id)) c.args.start c.loop-i.room _
    c.loop-i.out.items node (c.loop-i.invariant.2 format legal node row vs are front at is)
    (omega (arith, c.loop-i-test.false))

pub append_row_body-returns-clause-value : goal.append_row_body-returns-clause-value
append_row_body-returns-clause-value g t c = λ node row v h front back at is.
    on_ok c.append_row.result
    (λ added. added ∙ ap (λ xs.
    xs ++ serialize (type_of c.args.self.now.schema.now c.args.few.now.id) v)
    (c.in_ok-put_end.ensures.put front back at is))
    (c.append_row.ensures.value node row v h)

pub append_rows-loop-i-init : goal.append_rows-loop-i-init
append_rows-loop-i-init g t c = (
  c.new-rows.ensures.nodes c.args.self.now.arena.now c.requires.node,
  c.new-rows.ensures.depth ∙ c.depth.ensures.exact,
  omega arith,
  λ front within kept. kept,
  λ vs are front at is. RowBodiesSoFar-start c.args.self.now.arena.now
      (type_of c.args.self.now.schema.now c.args.few.now.id) c.args.top.depth c.args.count
      c.args.start vs front
      c.args.out.now.items c.args.top.node c.new-rows.result c.requires.variable are
      (c.new-rows.ensures.holds c.args.self.now.arena.now) (omega arith) at is,
)

pub append_rows-loop-i-preserved : goal.append_rows-loop-i-preserved
append_rows-loop-i-preserved g t c = (
  c.pass.ensures.nodes c.args.self.now.arena.now c.refill.ensures.nodes,
  c.pass.ensures.depth ∙ c.refill.ensures.depth ∙ c.loop-i.invariant.1,
  omega (arith, c.loop-i.invariant.2),
  λ front within kept. c.append_row_body.ensures.kept front within
      (c.loop-i.invariant.3 front within kept),
  λ vs are front at is. RowBodiesSoFar-more c.args.self.now.arena.now
      (type_of c.args.self.now.schema.now c.args.few.now.id)
      (depth (type_of c.args.self.now.schema.now c.args.few.now.id)) vs c.loop-i._i c.args.start
      c.loop-i.room _
      (front ++ heads (alike (type_of c.args.self.now.schema.now c.args.few.now.id) vs)
      (map (serialize (type_of c.args.self.now.schema.now c.args.few.now.id)) vs)
      (length c.args.out.now.items - c.args.start)
      ++ bodies (alike (type_of c.args.self.now.schema.now c.args.few.now.id) vs)
      (map (serialize (type_of c.args.self.now.schema.now c.args.few.now.id)) vs))
      c.loop-i.out.items c.append_row_body.new.out.items c.loop-i.rows c.pass.new.self
      c.row.result.now (c.loop-i.invariant.4 vs are front at is)
      (omega (arith, are.many, c.loop-i-test.true)) c.requires.variable
      (λ first trees held. subst (λ n. IsRowOf c.args.self.now.arena.now n first
      c.row.result.now) (c.refill.ensures.depth ∙ c.loop-i.invariant.1)
      (c.row.ensures.fields c.args.self.now.arena.now first trees
      (c.refill.ensures.holds (first ∷ trees) held)))
      (λ first trees held. c.pass.ensures.rest c.args.self.now.arena.now first trees
      (c.refill.ensures.holds (first ∷ trees) held)) c.saturating_add-room.ensures
      c.in_ok-append_row_body.ensures.value,
)

pub append_bodies-returns-clause-kept : goal.append_bodies-returns-clause-kept
append_bodies-returns-clause-kept g t c = c.loop-i.invariant.2

pub append_bodies-returns-in-Some-clause-kept : goal.append_bodies-returns-in-Some-clause-kept
append_bodies-returns-in-Some-clause-kept g t c = λ front within kept. kept

pub append_bodies-returns-in-Some-of-clause-kept :
    goal.append_bodies-returns-in-Some-of-clause-kept
append_bodies-returns-in-Some-of-clause-kept g t c = c.append_rows.ensures.kept

pub append_bodies-returns-in_err-append_body-clause-kept :
    goal.append_bodies-returns-in_err-append_body-clause-kept
append_bodies-returns-in_err-append_body-clause-kept g t c =
    λ front within kept. c.append_body.ensures.kept front within
    (c.loop-i.invariant.2 front within kept)

pub append_body-returns-clause-kept : goal.append_body-returns-clause-kept
append_body-returns-clause-kept g t c =
    λ front within kept. Extends-trans front c.put_end.new.out.items c.append_value.new.out.items
    (c.put_end.ensures.kept front within kept) c.append_value.ensures.kept

pub append_body-returns-in_err-put_end-clause-kept :
    goal.append_body-returns-in_err-put_end-clause-kept
append_body-returns-in_err-put_end-clause-kept g t c = c.put_end.ensures.kept

pub append_chosen-returns-in-None-clause-kept : goal.append_chosen-returns-in-None-clause-kept
append_chosen-returns-in-None-clause-kept g t c = c.append_byte.ensures.kept

pub append_chosen-returns-in-Some-None-clause-kept :
    goal.append_chosen-returns-in-Some-None-clause-kept
append_chosen-returns-in-Some-None-clause-kept g t c = c.append_byte.ensures.kept

pub append_chosen-returns-in-Some-Some-clause-kept :
    goal.append_chosen-returns-in-Some-Some-clause-kept
append_chosen-returns-in-Some-Some-clause-kept g t c =
    Extends-trans c.args.out.now.items c.append_byte.new.out.items c.append_value.new.out.items
    c.append_byte.ensures.kept c.append_value.ensures.kept

pub append_chosen-returns-in_err-append_byte-clause-kept :
    goal.append_chosen-returns-in_err-append_byte-clause-kept
append_chosen-returns-in_err-append_byte-clause-kept g t c = c.append_byte.ensures.kept

pub append_containers-returns-clause-kept : goal.append_containers-returns-clause-kept
append_containers-returns-clause-kept g t c = c.loop-i.invariant.2

pub append_containers-returns-in_err-append_row_parts-clause-kept :
    goal.append_containers-returns-in_err-append_row_parts-clause-kept
append_containers-returns-in_err-append_row_parts-clause-kept g t c =
    Extends-trans c.args.out.now.items c.loop-i.out.items c.append_row_parts.new.out.items
    c.loop-i.invariant.2 c.append_row_parts.ensures.kept

pub append_field_bodies-returns-clause-kept : goal.append_field_bodies-returns-clause-kept
append_field_bodies-returns-clause-kept g t c = c.loop-i.invariant.1

pub append_field_bodies-returns-in_err-append_field_body-clause-kept :
    goal.append_field_bodies-returns-in_err-append_field_body-clause-kept
append_field_bodies-returns-in_err-append_field_body-clause-kept g t c =
    λ front within kept. c.append_field_body.ensures.kept front within
    (c.loop-i.invariant.1 front within kept)

pub append_field_body-returns-in-None-clause-kept :
    goal.append_field_body-returns-in-None-clause-kept
append_field_body-returns-in-None-clause-kept g t c = c.append_body.ensures.kept

pub append_field_body-returns-in-Some-clause-kept :
    goal.append_field_body-returns-in-Some-clause-kept
append_field_body-returns-in-Some-clause-kept g t c = λ front within kept. kept

pub append_field_head-returns-in-Some-clause-kept :
    goal.append_field_head-returns-in-Some-clause-kept
append_field_head-returns-in-Some-clause-kept g t c = c.append_value.ensures.kept

pub append_field_heads-returns-clause-kept : goal.append_field_heads-returns-clause-kept
append_field_heads-returns-clause-kept g t c = c.loop-i.invariant.0

pub append_field_heads-returns-in_err-append_field_head-clause-kept :
    goal.append_field_heads-returns-in_err-append_field_head-clause-kept
append_field_heads-returns-in_err-append_field_head-clause-kept g t c =
    Extends-trans c.args.out.now.items c.loop-i.out.items c.append_field_head.new.out.items
    c.loop-i.invariant.0 c.append_field_head.ensures.kept

pub append_fields-returns-clause-kept : goal.append_fields-returns-clause-kept
append_fields-returns-clause-kept g t c =
    c.append_field_bodies.ensures.kept c.args.out.now.items
    (omega (arith, c.len-start.ensures, c.args.out.now.ok.0)) c.append_field_heads.ensures.kept

pub append_fields-returns-in-Some-clause-kept : goal.append_fields-returns-in-Some-clause-kept
append_fields-returns-in-Some-clause-kept g t c = c.append_field_heads.ensures.kept

pub append_fields-returns-in_err-append_field_heads-clause-kept :
    goal.append_fields-returns-in_err-append_field_heads-clause-kept
append_fields-returns-in_err-append_field_heads-clause-kept g t c =
    c.append_field_heads.ensures.kept

pub append_heads-returns-clause-kept : goal.append_heads-returns-clause-kept
append_heads-returns-clause-kept g t c = c.loop-i.invariant.1

pub append_heads-returns-in-Some-clause-kept : goal.append_heads-returns-in-Some-clause-kept
append_heads-returns-in-Some-clause-kept g t c = c.append_containers.ensures.kept

pub append_heads-returns-in_err-append_value-clause-kept :
    goal.append_heads-returns-in_err-append_value-clause-kept
append_heads-returns-in_err-append_value-clause-kept g t c =
    Extends-trans c.args.out.now.items c.loop-i.out.items c.append_value.new.out.items
    c.loop-i.invariant.1 c.append_value.ensures.kept

pub append_heads-returns-then-is_variable-clause-kept :
    goal.append_heads-returns-then-is_variable-clause-kept
append_heads-returns-then-is_variable-clause-kept g t c = c.append_rooms.ensures.kept

pub append_part-returns-in-Some-clause-kept : goal.append_part-returns-in-Some-clause-kept
append_part-returns-in-Some-clause-kept g t c = c.append_value.ensures.kept

pub append_part-returns-in_err-append_leaf-clause-kept :
    goal.append_part-returns-in_err-append_leaf-clause-kept
append_part-returns-in_err-append_leaf-clause-kept g t c = c.append_leaf.ensures.kept

pub append_part-returns-then-len-gt0-clause-kept :
    goal.append_part-returns-then-len-gt0-clause-kept
append_part-returns-then-len-gt0-clause-kept g t c = c.append_leaf.ensures.kept

pub append_part_body-returns-in_ok-put_end-in-None-clause-kept :
    goal.append_part_body-returns-in_ok-put_end-in-None-clause-kept
append_part_body-returns-in_ok-put_end-in-None-clause-kept g t c =
    λ front within kept. Extends-trans front c.put_end.new.out.items c.append_variable.new.out.items
    (c.put_end.ensures.kept front within kept) c.append_variable.ensures.kept

pub append_part_body-returns-in_err-put_end-in-None-clause-kept :
    goal.append_part_body-returns-in_err-put_end-in-None-clause-kept
append_part_body-returns-in_err-put_end-in-None-clause-kept g t c = c.put_end.ensures.kept

pub append_part_body-returns-in-Some-clause-kept :
    goal.append_part_body-returns-in-Some-clause-kept
append_part_body-returns-in-Some-clause-kept g t c = λ front within kept. kept

pub append_row-returns-clause-kept : goal.append_row-returns-clause-kept
append_row-returns-clause-kept g t c =
    c.append_row_bodies.ensures.kept c.args.out.now.items
    (omega (arith, c.len-start.ensures, c.args.out.now.ok.0)) c.append_row_heads.ensures.kept

pub append_row-returns-in_err-append_row_heads-clause-kept :
    goal.append_row-returns-in_err-append_row_heads-clause-kept
append_row-returns-in_err-append_row_heads-clause-kept g t c = c.append_row_heads.ensures.kept

pub append_row_bodies-returns-clause-kept : goal.append_row_bodies-returns-clause-kept
append_row_bodies-returns-clause-kept g t c = c.loop-i.invariant.1

pub append_row_bodies-returns-in_err-append_part_body-clause-kept :
    goal.append_row_bodies-returns-in_err-append_part_body-clause-kept
append_row_bodies-returns-in_err-append_part_body-clause-kept g t c =
    λ front within kept. c.append_part_body.ensures.kept front within
    (c.loop-i.invariant.1 front within kept)

pub append_row_body-returns-clause-kept : goal.append_row_body-returns-clause-kept
append_row_body-returns-clause-kept g t c =
    λ front within kept. Extends-trans front c.put_end.new.out.items c.append_row.new.out.items
    (c.put_end.ensures.kept front within kept) c.append_row.ensures.kept

pub append_row_body-returns-in_err-put_end-clause-kept :
    goal.append_row_body-returns-in_err-put_end-clause-kept
append_row_body-returns-in_err-put_end-clause-kept g t c = c.put_end.ensures.kept

pub append_row_parts-returns-clause-kept : goal.append_row_parts-returns-clause-kept
append_row_parts-returns-clause-kept g t c = c.loop-i.invariant.0

pub append_row_parts-returns-in_err-append_part-clause-kept :
    goal.append_row_parts-returns-in_err-append_part-clause-kept
append_row_parts-returns-in_err-append_part-clause-kept g t c =
    Extends-trans c.args.out.now.items c.loop-i.out.items c.append_part.new.out.items
    c.loop-i.invariant.0 c.append_part.ensures.kept

pub append_rows-returns-clause-kept : goal.append_rows-returns-clause-kept
append_rows-returns-clause-kept g t c = c.loop-i.invariant.3

pub append_rows-returns-in_err-append_row_body-clause-kept :
    goal.append_rows-returns-in_err-append_row_body-clause-kept
append_rows-returns-in_err-append_row_body-clause-kept g t c =
    λ front within kept. c.append_row_body.ensures.kept front within
    (c.loop-i.invariant.3 front within kept)

pub append_sequence-returns-in-Some-clause-kept : goal.append_sequence-returns-in-Some-clause-kept
append_sequence-returns-in-Some-clause-kept g t c = c.append_packed.ensures.kept

pub append_sequence-returns-in_err-make_room-in-None-clause-kept :
    goal.append_sequence-returns-in_err-make_room-in-None-clause-kept
append_sequence-returns-in_err-make_room-in-None-clause-kept g t c =
    subst (ExtendsBytes c.args.out.now.items) (sym c.make_room.ensures)
    (Extends-same c.args.out.now.items)

pub append_sequence-returns-in_err-append_heads-in-None-clause-kept :
    goal.append_sequence-returns-in_err-append_heads-in-None-clause-kept
append_sequence-returns-in_err-append_heads-in-None-clause-kept g t c =
    subst (λ old. ExtendsBytes old c.append_heads.new.out.items) c.make_room.ensures
    c.append_heads.ensures.kept

pub append_sequence-returns-in_ok-append_heads-in-None-clause-kept :
    goal.append_sequence-returns-in_ok-append_heads-in-None-clause-kept
append_sequence-returns-in_ok-append_heads-in-None-clause-kept g t c =
    subst (λ old. ExtendsBytes old c.append_bodies.new.out.items) c.make_room.ensures
    (c.append_bodies.ensures.kept c.make_room.new.out.items
    (omega (arith, c.len-start.ensures, c.make_room.new.out.ok.0)) c.append_heads.ensures.kept)

pub append_value-returns-in-Bitlist-clause-kept : goal.append_value-returns-in-Bitlist-clause-kept
append_value-returns-in-Bitlist-clause-kept g t c = c.append_bitlist.ensures.kept

pub append_value-returns-in-Bitvector-clause-kept :
    goal.append_value-returns-in-Bitvector-clause-kept
append_value-returns-in-Bitvector-clause-kept g t c = c.append_packed.ensures.kept

pub append_value-returns-in-Boolean-clause-kept : goal.append_value-returns-in-Boolean-clause-kept
append_value-returns-in-Boolean-clause-kept g t c = c.append_basic-in-Boolean.ensures.kept

pub append_value-returns-in-Container-clause-kept :
    goal.append_value-returns-in-Container-clause-kept
append_value-returns-in-Container-clause-kept g t c = c.append_fields.ensures.kept

pub append_value-returns-in-List-clause-kept : goal.append_value-returns-in-List-clause-kept
append_value-returns-in-List-clause-kept g t c = c.append_sequence-in-List.ensures.kept

pub append_value-returns-in-Uint-clause-kept : goal.append_value-returns-in-Uint-clause-kept
append_value-returns-in-Uint-clause-kept g t c = c.append_basic.ensures.kept

pub append_value-returns-in-Union-clause-kept : goal.append_value-returns-in-Union-clause-kept
append_value-returns-in-Union-clause-kept g t c = c.append_chosen.ensures.kept

pub append_value-returns-in-Vector-clause-kept : goal.append_value-returns-in-Vector-clause-kept
append_value-returns-in-Vector-clause-kept g t c = c.append_sequence.ensures.kept

pub append_chosen-append_value-requires : goal.append_chosen-append_value-requires
append_chosen-append_value-requires g t c =
    let here : slice_get c.args.options.now (c.mixed_parts-number.result.1 % 256)
    ≡ Some (Some c.in-Some-Some.option) =
    sym c.option_at.ensures ∙ c.in-Some-Some.is ∙ ap Some c.in-Some-Some.field-0-is in
    let below : c.in-Some-Some.option < c.args.id =
    below_at c.args.id c.args.options.now (c.mixed_parts-number.result.1 % 256)
    (Some c.in-Some-Some.option) here c.requires.before in
    search rules

pub append_containers-loop-i-init : goal.append_containers-loop-i-init
append_containers-loop-i-init g t c = (
  c.new-rows.ensures.nodes c.args.self.now.arena.now c.requires.node,
  c.new-rows.ensures.depth ∙ c.depth.ensures.exact,
  Extends-same c.args.out.now.items,
  λ vs are. RowsSoFar-start c.args.self.now.arena.now
      (type_of c.args.self.now.schema.now c.args.few.now.id)
      c.args.top.depth c.args.count vs c.args.out.now.items c.args.top.node c.new-rows.result
      (ap basic_size c.requires.fields.form) are (c.new-rows.ensures.holds
      c.args.self.now.arena.now),
)

pub append_field_heads-append_field_head-requires :
    goal.append_field_heads-append_field_head-requires
append_field_heads-append_field_head-requires g t c =
    let below : c.index-fields-i.result.1 < c.args.id =
    field_before c.args.fields.now c.args.id c.loop-i.i c.index-fields-i.result
    c.requires.before c.loop-i-test.true c.index-fields-i.is in
    search rules

pub append_field_heads-returns-clause-value : goal.append_field_heads-returns-clause-value
append_field_heads-returns-clause-value g t c = λ vs are.
    FieldHeads-end c.args.self.now.schema.now.trees c.args.fields.now c.loop-i.i c.args.top.depth _
    c.loop-i.out.items (tree_of c.args.self.now.arena.now c.args.top.node)
    (c.loop-i.invariant.1 vs are)
    c.loop-i-test.false

pub append_field_bodies-append_field_body-requires :
    goal.append_field_bodies-append_field_body-requires
append_field_bodies-append_field_body-requires g t c =
    let below : c.index-fields-i.result.1 < c.args.id =
    field_before c.args.fields.now c.args.id c.loop-i.i c.index-fields-i.result
    c.requires.before c.loop-i-test.true c.index-fields-i.is in
    search rules

pub append_field_bodies-fixed_size-requires : goal.append_field_bodies-fixed_size-requires
append_field_bodies-fixed_size-requires g t c =
    let below : c.index-fields-i.result.1 < c.args.id =
    field_before c.args.fields.now c.args.id c.loop-i.i c.index-fields-i.result
    c.requires.before c.loop-i-test.true c.index-fields-i.is in
    omega (arith, below, c.requires.known)

pub append_row_bodies-fixed_size-requires : goal.append_row_bodies-fixed_size-requires
append_row_bodies-fixed_size-requires g t c =
    let below : c.field-item.result.1 < c.args.few.now.id =
    field_before c.args.few.now.fields.now c.args.few.now.id c.loop-i.i c.field-item.result
    c.requires.fields.before c.loop-i-test.true c.field-item.is in
    omega (arith, below, c.requires.known)

pub append_heads-append_containers-requires : goal.append_heads-append_containers-requires
append_heads-append_containers-requires g t c =
    let types = c.args.self.now.schema.now in
    let few = c.in-Some.few in
    let same : few.id ≡ c.args.elem = c.of.ensures.same few c.in-Some.is in
    let known : few.id < length types.trees =
    subst (λ id. id < length types.trees) (sym same) c.requires.known in
    let fields = c.of.ensures.fields few c.in-Some.is in
    let lens = c.of.ensures.lens few c.in-Some.is in
    let fixed : is_variable (type_of types few.id) ≡ false =
    ap (λ id. is_variable (type_of types id)) same ∙ sym c.is_variable.ensures
    ∙ c.if-is_variable.false in
    let short = c.of.ensures.short few c.in-Some.is in
    search rules

pub append_heads-returns-in-Some-clause-value : goal.append_heads-returns-in-Some-clause-value
append_heads-returns-in-Some-clause-value g t c =
    let types = c.args.self.now.schema.now in
    subst (λ id. ForElements (type_of types id) c.args.top.depth c.args.count
    (tree_of c.args.self.now.arena.now c.args.top.node)
    (λ vs. AddsBytes (rooms (alike (type_of types id) vs) (map (serialize (type_of types id)) vs))
    c.args.out.now.items c.append_containers.new.out.items c.append_containers.result))
    (c.of.ensures.same c.in-Some.few c.in-Some.is) c.append_containers.ensures.value

pub append_bodies-append_rows-requires : goal.append_bodies-append_rows-requires
append_bodies-append_rows-requires g t c =
    let types = c.args.self.now.schema.now in
    let few = c.in-Some-of.few in
    let same : few.id ≡ c.args.elem = c.of.ensures.same few c.in-Some-of.is in
    let known : few.id < length types.trees =
    subst (λ id. id < length types.trees) (sym same) c.requires.known in
    let fields = c.of.ensures.fields few c.in-Some-of.is in
    let lens = c.of.ensures.lens few c.in-Some-of.is in
    let variable : fixed_size (type_of types few.id) ≡ None =
    ap (λ id. fixed_size (type_of types id)) same ∙ sym c.fixed_size.ensures.exact
    ∙ c.in_default.is in
    let sizes = c.of.ensures.sizes few c.in-Some-of.is in
    let short = c.of.ensures.short few c.in-Some-of.is in
    search rules

pub append_bodies-returns-in-Some-of-clause-value
    : goal.append_bodies-returns-in-Some-of-clause-value
append_bodies-returns-in-Some-of-clause-value g t c =
    let types = c.args.self.now.schema.now in
    subst (λ id. ForElements (type_of types id) c.args.top.depth c.args.count
    (tree_of c.args.self.now.arena.now c.args.top.node)
    (λ vs. FillsAll (alike (type_of types id) vs)
    (map (serialize (type_of types id)) vs) c.args.start
    c.args.out.now.items c.append_rows.new.out.items c.append_rows.result))
    (c.of.ensures.same c.in-Some-of.few c.in-Some-of.is) c.append_rows.ensures.value
