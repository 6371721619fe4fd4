use Rattle.std.proofs.Common.{List, [], length, get_or, max, ap, sym, subst, ◌≡◌, ◌<◌, ◌≤◌, ◌+◌, ◌∙◌, Err, arith}
use Rattle.ssz_schema.proofs.WalkFields.{Written as Field}
use Rattle.ssz_schema.proofs.WalkFields.{FieldsFrom, FieldsFrom-start, FieldsFrom-more, fields_stop, fields_end, fields_end-legal, names_of, named_fields}
use Rattle.ssz_schema.proofs.WalkOptions.{Written as Choice, OptionsFrom, OptionsFrom-more, options_stop, options_end, options_end-legal}
use Rattle.ssz_schema.proofs.FormLemmas.{container_is, vector_is, list_is, bitvector_is, bitlist_is, element_then, union_is, container_walk, container_then, union_walk, union_refused, union_then}
use Rattle.ssz_schema.proofs.WalkLemmas.{refused, same_walk, ends}
use Rattle.ssz_types.specs.declared.schema_fault.SchemaFault.TheVariants.{UnionSize}
use Rattle.ssz_types.specs.Types.{vector, list, union}
use Rattle.ssz_schema.specs.Forms.{form_of, vector_form, list_form}
use Rattle.ssz_types.specs.Repeats.{first_repeat}
use Rattle.ssz_schema.specs.Walk.{resolved, within_limits, of_length, of_limit}
use Rattle.ssz_types.specs.Legal.{is_wrong_size, field_names}
use Rattle.ssz_types.specs.Order.{name_order}
use Rattle.ssz_types.specs.Unfolding.{known_in}
use Rattle.ssz_schema.specs.Adding.{IsType, AreOptions}
use Rattle.std.proofs.lemmas.Bool.{eqb-false}
use Rattle.std.proofs.lemmas.Result.{err_from_is_err_and}
use denote.Param.Weighed.{at_most, most}
use Rattle.ssz_types.proofs.expr.TypeExpr.TheLaws.{the_size}
use Rattle.ssz_schema.proofs.schema.Schema.+walk.Goals as goal

pub resolve_fields-resolve_field-requires : goal.resolve_fields-resolve_field-requires
resolve_fields-resolve_field-requires t c =
    let bound : max 0 (max (the_size c.field-item.result.1) 0)
    ≤ most (λ p. max 0 (max (the_size p.1) 0)) c.args.fields.now.items =
    subst (λ (ps : List Field). max 0 (max (the_size c.field-item.result.1) 0)
    ≤ most (λ p. max 0 (max (the_size p.1) 0)) ps) c.deref-field-items.ensures.value
    (subst (λ (p : Field). max 0 (max (the_size p.1) 0)
    ≤ most (λ p. max 0 (max (the_size p.1) 0)) c.deref-field-items.result.now) (sym c.field-item.is)
    (at_most (λ p. max 0 (max (the_size p.1) 0)) c.deref-field-items.result.now c.loop-i.i
    c.field-item.result c.loop-i-test.true)) in
    (omega (arith, bound, c.decreases), tt)

pub resolve_union-returns-then-is_wrong_size : goal.resolve_union-returns-then-is_wrong_size
resolve_union-returns-then-is_wrong_size t c =
    let lens : length c.args.options.now.items ≡ c.len.result =
    omega (arith, c.len.ensures, c.args.options.now.ok) in
    refused IsType _ c.args.self.now UnionSize
    (union_refused c.args.self.now.format (known_in c.args.self.now) c.args.options.now.items
    (ap is_wrong_size lens ∙ sym c.is_wrong_size.ensures ∙ c.if-is_wrong_size.true))

pub resolve_union-returns-in_err-options : goal.resolve_union-returns-in_err-options
resolve_union-returns-in_err-options t c =
    let p = err_from_is_err_and c.from_residual.result c.from_residual.ensures.1 in
    let lens : length c.args.options.now.items ≡ c.len.result =
    omega (arith, c.len.ensures, c.args.options.now.ok) in
    let right = ap is_wrong_size lens ∙ sym c.is_wrong_size.ensures ∙ c.if-is_wrong_size.false in
    rw (p.1, p.2) (same_walk IsType _ _ c.args.self.now c.resolve_options.new.self
    (Err c.in_err-options.field-0.0)
    (union_walk c.args.self.now.format (known_in c.args.self.now) c.args.options.now.items right)
    (ends AreOptions IsType _ (λ options. within_limits c.args.self.now.format (union options))
    c.args.self.now c.resolve_options.new.self c.in_err-options.field-0.0
    c.in_err-options.ensures.walk))

pub resolve_union-returns : goal.resolve_union-returns
resolve_union-returns t c =
    let lens : length c.args.options.now.items ≡ c.len.result =
    omega (arith, c.len.ensures, c.args.options.now.ok) in
    let right = ap is_wrong_size lens ∙ sym c.is_wrong_size.ensures ∙ c.if-is_wrong_size.false in
    same_walk IsType _ _ c.args.self.now c.add_union.new.self c.add_union.result
    (union_walk c.args.self.now.format (known_in c.args.self.now) c.args.options.now.items
    right)
    (union_then c.args.self.now c.resolve_options.new.self c.add_union.new.self _
    c.in_ok-options.options c.add_union.result c.in_ok-options.ensures.walk c.add_union.ensures)

pub resolve-returns-in-Container : goal.resolve-returns-in-Container
resolve-returns-in-Container t c =
    same_walk IsType _ _ c.args.self.now c.resolve_container.new.self c.resolve_container.result
    (ap (resolved c.args.self.now.format (known_in c.args.self.now))
    (ap form_of c.in-Container.is ∙ container_is c.in-Container.fields)) c.resolve_container.ensures

pub resolve-returns-in_ok-elem-in-Vector : goal.resolve-returns-in_ok-elem-in-Vector
resolve-returns-in_ok-elem-in-Vector t c =
    let n = c.in-Vector.n in
    same_walk IsType _ _ c.args.self.now c.add_vector.new.self c.add_vector.result
    (ap (resolved c.args.self.now.format (known_in c.args.self.now))
    (ap form_of c.in-Vector.is ∙ vector_is c.in-Vector.elem n
    ∙ ap (λ e. vector_form (form_of e) n) (sym c.deref.ensures)))
    (element_then (λ format elem. of_length format n (vector elem n)) c.args.self.now
    c.resolve.new.self c.add_vector.new.self _ c.in_ok-elem-in-Vector.elem c.add_vector.result
    c.in_ok-elem-in-Vector.ensures c.add_vector.ensures)

pub resolve-returns-in_ok-elem-in-List : goal.resolve-returns-in_ok-elem-in-List
resolve-returns-in_ok-elem-in-List t c =
    let limit = c.in-List.limit in
    same_walk IsType _ _ c.args.self.now c.add_list.new.self c.add_list.result
    (ap (resolved c.args.self.now.format (known_in c.args.self.now))
    (ap form_of c.in-List.is ∙ list_is c.in-List.elem limit
    ∙ ap (λ e. list_form (form_of e) limit) (sym c.deref-in-List.ensures)))
    (element_then (λ format elem. of_limit format limit (list elem limit)) c.args.self.now
    c.resolve-in-List.new.self c.add_list.new.self _ c.in_ok-elem-in-List.elem c.add_list.result
    c.in_ok-elem-in-List.ensures c.add_list.ensures)

pub resolve-returns-in-Bitvector : goal.resolve-returns-in-Bitvector
resolve-returns-in-Bitvector t c =
    same_walk IsType _ _ c.args.self.now c.add_bitvector.new.self c.add_bitvector.result
    (ap (resolved c.args.self.now.format (known_in c.args.self.now))
    (ap form_of c.in-Bitvector.is ∙ bitvector_is c.in-Bitvector.n)) c.add_bitvector.ensures

pub resolve-returns-in-Bitlist : goal.resolve-returns-in-Bitlist
resolve-returns-in-Bitlist t c =
    same_walk IsType _ _ c.args.self.now c.add_bitlist.new.self c.add_bitlist.result
    (ap (resolved c.args.self.now.format (known_in c.args.self.now))
    (ap form_of c.in-Bitlist.is ∙ bitlist_is c.in-Bitlist.limit)) c.add_bitlist.ensures

pub resolve-returns-in-Union : goal.resolve-returns-in-Union
resolve-returns-in-Union t c =
    same_walk IsType _ _ c.args.self.now c.resolve_union.new.self c.resolve_union.result
    (ap (resolved c.args.self.now.format (known_in c.args.self.now))
    (ap form_of c.in-Union.is ∙ union_is c.in-Union.options)) c.resolve_union.ensures

pub resolve_container-returns : goal.resolve_container-returns
resolve_container-returns t c =
    let some : 0 < length c.args.fields.now.items =
    omega (
      arith,
      eqb-false _ 0 (sym c.is_empty.ensures ∙ c.if-is_empty.false),
      c.args.fields.now.ok,
    ) in
    same_walk IsType _ _ c.args.self.now c.add_container.new.self c.add_container.result
    (container_walk c.args.self.now.format (known_in c.args.self.now) c.args.fields.now.items
    some)
    (container_then c.args.self.now c.resolve_fields.new.self c.add_container.new.self _
    c.in_ok-fields.fields c.add_container.result c.in_ok-fields.ensures.walk
    c.add_container.ensures)

pub resolve_container-resolve_fields-requires : goal.resolve_container-resolve_fields-requires
resolve_container-resolve_fields-requires t c = (
  omega (arith, c.decreases),
  c.in_ok-order.ensures.repeat
      ∙ ap (λ (fs : List Field). first_repeat [] 0 (names_of fs)) c.deref.ensures.value,
)

pub
    resolve_container-add_container-requires-clause-order :
    goal.resolve_container-add_container-requires-clause-order
resolve_container-add_container-requires-clause-order t c =
    let fields = c.in_ok-fields.ensures.walk.answer in
    let named = named_fields c.args.self.now.format (known_in c.args.self.now) []
    c.args.fields.now.items fields.0 fields.1 in
    c.in_ok-order.ensures.numbers
    ∙ ap (λ (fs : List Field). name_order (names_of fs)) c.deref.ensures.value
    ∙ ap name_order (sym named ∙ ap field_names (sym fields.2.are))

pub resolve_fields-loop-i-init : goal.resolve_fields-loop-i-init
resolve_fields-loop-i-init t c =
    subst (FieldsFrom c.args.self.now c.args.fields.now.items c.args.self.now 0
    c.args.repeat) (sym c.in_ok-resolved.ensures.items)
    (FieldsFrom-start c.args.self.now c.args.fields.now.items c.args.repeat c.requires)

pub
    resolve_fields-returns-in_err-part-clause-walk :
    goal.resolve_fields-returns-in_err-part-clause-walk
resolve_fields-returns-in_err-part-clause-walk t c =
    let p = err_from_is_err_and c.from_residual-in_err-part.result
    c.from_residual-in_err-part.ensures.1 in
    let here : c.loop-i.i < length c.args.fields.now.items =
    omega (arith, c.deref-field-items.ensures.len) in
    rw (p.1, p.2) (fields_stop c.args.self.now c.args.fields.now.items c.loop-i.self
    c.resolve_field.new.self c.loop-i.i c.args.repeat c.loop-i.resolved.items
    c.field-item.result c.is_at.result c.in_err-part.field-0.0
    c.allocator-alloc.ensures.whole c.loop-i.invariant here
    (c.field-item.is ∙ ap (λ (fs : List Field). get_or fs c.loop-i.i c.field-item.result)
    c.deref-field-items.ensures.value) c.is_at.ensures c.in_err-part.ensures)

pub resolve_fields-loop-i-preserved : goal.resolve_fields-loop-i-preserved
resolve_fields-loop-i-preserved t c =
    let here : c.loop-i.i < length c.args.fields.now.items =
    omega (arith, c.deref-field-items.ensures.len) in
    subst (FieldsFrom c.args.self.now c.args.fields.now.items c.resolve_field.new.self
    (c.loop-i.i + 1) c.args.repeat) (sym c.in_ok-push.ensures.items)
    (FieldsFrom-more c.args.self.now c.args.fields.now.items c.loop-i.self c.resolve_field.new.self
    c.loop-i.i c.args.repeat c.loop-i.resolved.items c.field-item.result c.is_at.result
    c.in_ok-part.part
    c.allocator-alloc.ensures.whole c.loop-i.invariant here
    (c.field-item.is ∙ ap (λ (fs : List Field). get_or fs c.loop-i.i c.field-item.result)
    c.deref-field-items.ensures.value) c.is_at.ensures c.in_ok-part.ensures)

pub resolve_fields-returns-clause-walk : goal.resolve_fields-returns-clause-walk
resolve_fields-returns-clause-walk t c =
    let all : length c.args.fields.now.items ≤ c.loop-i.i =
    omega (arith, c.deref-field-items.ensures.len) in
    fields_end c.args.self.now c.args.fields.now.items c.loop-i.self c.loop-i.i
    c.args.repeat c.loop-i.resolved c.loop-i.invariant all

pub resolve_fields-returns-clause-legal : goal.resolve_fields-returns-clause-legal
resolve_fields-returns-clause-legal t c =
    let all : length c.args.fields.now.items ≤ c.loop-i.i =
    omega (arith, c.deref-field-items.ensures.len) in
    (fields_end-legal c.args.self.now c.args.fields.now.items c.loop-i.self c.loop-i.i
    c.args.repeat c.loop-i.resolved.items c.allocator-alloc.ensures.whole
    c.allocator-alloc.ensures.legal c.loop-i.invariant all).legal

pub resolve_fields-returns-clause-distinct : goal.resolve_fields-returns-clause-distinct
resolve_fields-returns-clause-distinct t c =
    let all : length c.args.fields.now.items ≤ c.loop-i.i =
    omega (arith, c.deref-field-items.ensures.len) in
    (fields_end-legal c.args.self.now c.args.fields.now.items c.loop-i.self c.loop-i.i
    c.args.repeat c.loop-i.resolved.items c.allocator-alloc.ensures.whole
    c.allocator-alloc.ensures.legal c.loop-i.invariant all).distinct

pub
    resolve_options-returns-in_err-part-clause-walk :
    goal.resolve_options-returns-in_err-part-clause-walk
resolve_options-returns-in_err-part-clause-walk t c =
    let p = err_from_is_err_and c.from_residual-in_err-part.result
    c.from_residual-in_err-part.ensures.1 in
    let here : c.loop-i.i < length c.args.options.now.items =
    omega (arith, c.deref-option-items.ensures.len) in
    rw (p.1, p.2) (options_stop c.args.self.now c.args.options.now.items c.loop-i.self
    c.resolve_option.new.self c.loop-i.i c.loop-i.resolved.items c.option-item.result
    c.in_err-part.field-0.0
    c.allocator-alloc.ensures.whole c.loop-i.invariant here
    (c.option-item.is ∙ ap (λ (os : List Choice). get_or os c.loop-i.i c.option-item.result)
    c.deref-option-items.ensures.value) c.in_err-part.ensures)

pub resolve_options-loop-i-preserved : goal.resolve_options-loop-i-preserved
resolve_options-loop-i-preserved t c =
    let here : c.loop-i.i < length c.args.options.now.items =
    omega (arith, c.deref-option-items.ensures.len) in
    subst (OptionsFrom c.args.self.now c.args.options.now.items c.resolve_option.new.self
    (c.loop-i.i + 1)) (sym c.in_ok-push.ensures.items)
    (OptionsFrom-more c.args.self.now c.args.options.now.items c.loop-i.self
    c.resolve_option.new.self c.loop-i.i c.loop-i.resolved.items c.option-item.result
    c.in_ok-part.part
    c.allocator-alloc.ensures.whole c.loop-i.invariant here
    (c.option-item.is ∙ ap (λ (os : List Choice). get_or os c.loop-i.i c.option-item.result)
    c.deref-option-items.ensures.value) c.in_ok-part.ensures)

pub resolve_options-returns-clause-walk : goal.resolve_options-returns-clause-walk
resolve_options-returns-clause-walk t c =
    let all : length c.args.options.now.items ≤ c.loop-i.i =
    omega (arith, c.deref-option-items.ensures.len) in
    options_end c.args.self.now c.args.options.now.items c.loop-i.self c.loop-i.i c.loop-i.resolved
    c.loop-i.invariant all

pub resolve_options-returns-clause-legal : goal.resolve_options-returns-clause-legal
resolve_options-returns-clause-legal t c =
    let all : length c.args.options.now.items ≤ c.loop-i.i =
    omega (arith, c.deref-option-items.ensures.len) in
    (options_end-legal c.args.self.now c.args.options.now.items c.loop-i.self c.loop-i.i
    c.loop-i.resolved.items c.allocator-alloc.ensures.whole c.allocator-alloc.ensures.legal
    c.loop-i.invariant all).legal

pub resolve_options-returns-clause-none : goal.resolve_options-returns-clause-none
resolve_options-returns-clause-none t c =
    let all : length c.args.options.now.items ≤ c.loop-i.i =
    omega (arith, c.deref-option-items.ensures.len) in
    (options_end-legal c.args.self.now c.args.options.now.items c.loop-i.self c.loop-i.i
    c.loop-i.resolved.items c.allocator-alloc.ensures.whole c.allocator-alloc.ensures.legal
    c.loop-i.invariant all).place
