use Rattle.std.proofs.Common.{◌+◌, ◌*◌, ◌%◌, ◌<◌, ◌≤◌, ◌≡◌, ◌/◌, refl, length, slice_get, Some, None, sym, ap, ◌∙◌, subst, arith, rules}
use Rattle.std.specs.List.{AllByRecursion}
use Rattle.ssz_value.proofs.PartLemmas.{Part}
use Rattle.ssz_schema.specs.Types.{container, vector, list, bitlist, union}
use Rattle.ssz_schema.specs.Sizes.{fixed_size, depth}
use Rattle.ssz_schema.specs.Unfolding.{type_of, tree_over, fields_over, options_over, AreBelow}
use Rattle.ssz_schema.specs.Legal.{IsLegal}
use Rattle.ssz_value.specs.Sizes.{size}
use Rattle.ssz_packing.proofs.Options.{below_at}
use Rattle.ssz_arena.specs.Content.{tree_of}
use Rattle.ssz_value.specs.Written.{capped}
use Rattle.ssz_nodes.specs.Shown.{ForValue}
use Rattle.ssz_nodes.proofs.Walked.{composite, at_place, Sums-start, Sums-more, Sums-end, FieldSums-start, FieldSums-more, FieldSums-end}
use Rattle.ssz_nodes.proofs.Formed.{union_few}
use Rattle.ssz_parts.proofs.PartSizes.{fixed_length, fixed_part, variable_part}
use Rattle.ssz_writing.proofs.Lengths.{fixed_sum, vector_len, list_len, container_len, bitlist_len, option_len, none_len}
use Rattle.ssz_writing.proofs.measuring.+length.Goals as goal

pub field_len-returns-in-Some : goal.field_len-returns-in-Some
field_len-returns-in-Some g t c = λ v h.
    let fixed : fixed_size (type_of c.args.schema.now c.args.id) ≡ Some c.in-Some.size =
    sym c.fixed_size.ensures.exact ∙ c.in-Some.is in
    let part = fixed_part c.args.schema.now.format (type_of c.args.schema.now c.args.id)
    c.in-Some.size v c.ty-legal.ensures.legal fixed h.fits in
    let small = c.fixed_size.ensures.in_range c.in-Some.size c.in-Some.is in
    omega (arith, part, small.few)

pub node_len-returns-in-Some : goal.node_len-returns-in-Some
node_len-returns-in-Some g t c = λ v h.
    let fixed : fixed_size (type_of c.args.schema.now c.args.id) ≡ Some c.in-Some.size =
    sym c.fixed_size.ensures.exact ∙ c.in-Some.is in
    let part = fixed_length c.args.schema.now.format (type_of c.args.schema.now c.args.id)
    c.in-Some.size v c.ty-legal.ensures.legal fixed h.fits in
    let small = c.fixed_size.ensures.in_range c.in-Some.size c.in-Some.is in
    omega (arith, part, small.few)

pub chosen_len-returns-in-Some-Some : goal.chosen_len-returns-in-Some-Some
chosen_len-returns-in-Some-Some g t c =
    let here : slice_get c.args.options.now (c.mixed_parts-selector.result.1 % 256)
    ≡ Some (Some c.in-Some-Some.option) =
    sym c.option_at.ensures ∙ c.in-Some-Some.is ∙ ap Some c.in-Some-Some.field-0-is in
    option_len c.args.schema.now.trees c.args.options.now c.mixed_parts-selector.result.1
    c.in-Some-Some.option c.node_len.result c.saturating_add.result
    (tree_of c.args.arena.now c.args.node)
    (tree_of c.args.arena.now c.mixed_parts-selector.result.0) c.requires.few
    (record {
      tree = c.mixed_parts-selector.ensures.tree;
      number = c.mixed_parts-selector.ensures.number;
    })
    here c.node_len.ensures c.saturating_add.ensures

pub chosen_len-returns-in-Some-None : goal.chosen_len-returns-in-Some-None
chosen_len-returns-in-Some-None g t c =
    none_len c.args.schema.now.trees c.args.options.now c.mixed_parts-selector.result.1
    (tree_of c.args.arena.now c.args.node)
    (tree_of c.args.arena.now c.mixed_parts-selector.result.0) c.requires.few
    (record {
      tree = c.mixed_parts-selector.ensures.tree;
      number = c.mixed_parts-selector.ensures.number;
    })
    (λ id e. let differ : Some None ≡ Some (Some id) =
    sym (c.in-Some-None.is ∙ ap Some c.in-Some-None.field-0-is) ∙ c.option_at.ensures ∙ e in cc)

pub chosen_len-returns-in-None : goal.chosen_len-returns-in-None
chosen_len-returns-in-None g t c =
    none_len c.args.schema.now.trees c.args.options.now c.mixed_parts-selector.result.1
    (tree_of c.args.arena.now c.args.node)
    (tree_of c.args.arena.now c.mixed_parts-selector.result.0) c.requires.few
    (record {
      tree = c.mixed_parts-selector.ensures.tree;
      number = c.mixed_parts-selector.ensures.number;
    })
    (λ id e. let differ : None ≡ Some (Some id) =
    sym c.in-None.is ∙ c.option_at.ensures ∙ e in cc)

pub elements_len-returns-in-Some : goal.elements_len-returns-in-Some
elements_len-returns-in-Some g t c = λ vs are.
    let fixed : fixed_size (type_of c.args.schema.now c.args.elem) ≡ Some c.in-Some.size =
    sym c.fixed_size.ensures.exact ∙ c.in-Some.is in
    let sum = fixed_sum c.args.schema.now.format (type_of c.args.schema.now c.args.elem)
    c.in-Some.size vs c.ty-legal.ensures.legal fixed are.fit in
    let many : c.args.count ≡ length vs = sym are.many in
    c.saturating_mul.ensures ∙ ap (λ n. capped (n * c.in-Some.size)) many ∙ sym (ap capped sum)

pub elements_len-loop-i-init : goal.elements_len-loop-i-init
elements_len-loop-i-init g t c =
    let none : fixed_size (type_of c.args.schema.now c.args.elem) ≡ None =
    sym c.fixed_size.ensures.exact ∙ c.in_default.is in (
      c.new-places.ensures.nodes c.args.arena.now c.requires.node,
      λ vs are. Sums-start c.args.arena.now (type_of c.args.schema.now c.args.elem) c.args.top.depth
          c.args.count vs c.args.top.node c.new-places.result
          (composite (type_of c.args.schema.now c.args.elem) none) are
          (c.new-places.ensures.holds c.args.arena.now),
    )

pub elements_len-loop-i-preserved : goal.elements_len-loop-i-preserved
elements_len-loop-i-preserved g t c =
    let none : fixed_size (type_of c.args.schema.now c.args.elem) ≡ None =
    sym c.fixed_size.ensures.exact ∙ c.in_default.is in (
      c.next-part.ensures.nodes,
      λ vs are. Sums-more c.args.arena.now (type_of c.args.schema.now c.args.elem) vs c.loop-i._i
          c.loop-i.total c.saturating_add-len.result c.saturating_add-total.result c.loop-i.places
          c.next-part.new.self c.next-part.result (c.loop-i.invariant.1 vs are)
          (omega (arith, are.many, c.loop-i-test.true))
          (record { tree = c.next-part.ensures.tree; rest = c.next-part.ensures.rest })
          (λ v h. let part = variable_part (type_of c.args.schema.now c.args.elem) v none in
          omega (arith, c.saturating_add-len.ensures, c.node_len.ensures v h, part))
          c.saturating_add-total.ensures,
    )

pub elements_len-returns : goal.elements_len-returns
elements_len-returns g t c = λ vs are.
    Sums-end c.args.arena.now (type_of c.args.schema.now c.args.elem) vs c.loop-i._i
    c.loop-i.total c.loop-i.places (c.loop-i.invariant.1 vs are)
    (omega (arith, are.many, c.loop-i-test.false))

pub field_len-returns-in-None : goal.field_len-returns-in-None
field_len-returns-in-None g t c = λ v h.
    let none : fixed_size (type_of c.args.schema.now c.args.id) ≡ None =
    sym c.fixed_size.ensures.exact ∙ c.in-None.is in
    let part = variable_part (type_of c.args.schema.now c.args.id) v none in
    let stands = at_place (type_of c.args.schema.now c.args.id) c.args.top.depth c.args.i v
    (tree_of c.args.arena.now c.args.top.node) (tree_of c.args.arena.now
    c.node_of_place-part.result)
    h c.node_of_place-part.ensures.tree in
    omega (arith, c.saturating_add.ensures, c.variable_len.ensures v stands, part)

pub fields_len-loop-i-init : goal.fields_len-loop-i-init
fields_len-loop-i-init g t c = λ vs are.
    FieldSums-start c.args.schema.now.trees c.args.fields.now c.args.top.depth vs
    (tree_of c.args.arena.now c.args.top.node) are

pub fields_len-loop-i-preserved : goal.fields_len-loop-i-preserved
fields_len-loop-i-preserved g t c = λ vs are.
    FieldSums-more c.args.schema.now.trees c.args.fields.now vs c.loop-i.i c.loop-i.total
    c.args.top.depth c.field_len.result c.saturating_add-total.result c.index-fields-i.result
    (tree_of c.args.arena.now c.args.top.node) (c.loop-i.invariant vs are) c.loop-i-test.true
    c.index-fields-i.is c.field_len.ensures c.saturating_add-total.ensures

pub fields_len-returns : goal.fields_len-returns
fields_len-returns g t c = λ vs are.
    FieldSums-end c.args.schema.now.trees c.args.fields.now vs c.loop-i.i c.loop-i.total
    c.args.top.depth (tree_of c.args.arena.now c.args.top.node) (c.loop-i.invariant vs are)
    c.loop-i-test.false

pub variable_len-chosen_len-requires : goal.variable_len-chosen_len-requires
variable_len-chosen_len-requires g t c =
    let form : union (options_over c.args.schema.now.trees c.as_slice.result.now)
    ≡ type_of c.args.schema.now c.args.id =
    ap (λ ids. union (options_over c.args.schema.now.trees ids)) c.as_slice.ensures.value
    ∙ ap (tree_over c.args.schema.now.trees) (sym c.in-Union.is) ∙ c.ty.ensures.form in
    let few : length c.as_slice.result.now ≤ 128 =
    union_few c.args.schema.now.format c.args.schema.now.trees c.as_slice.result.now
    (subst (IsLegal c.args.schema.now.format) (sym form) c.ty.ensures.legal) in
    search rules

pub variable_len-fields_len-requires : goal.variable_len-fields_len-requires
variable_len-fields_len-requires g t c =
    let few : c.depth-depth.result < 64 = omega (arith, c.depth-depth.ensures.at_most) in
    let before : AllByRecursion (λ (part : Part). part.1 < c.args.id)
    c.as_slice-in-Container.result.now =
    subst (AllByRecursion (λ (part : Part). part.1 < c.args.id))
    (sym c.as_slice-in-Container.ensures.value)
    (subst (AreBelow c.args.id) c.in-Container.is c.ty.ensures.before) in
    search rules

pub variable_len-returns-in-Bitlist : goal.variable_len-returns-in-Bitlist
variable_len-returns-in-Bitlist g t c =
    let form : bitlist c.in-Bitlist.field-0 ≡ type_of c.args.schema.now c.args.id =
    ap (tree_over c.args.schema.now.trees) (sym c.in-Bitlist.is) ∙ c.ty.ensures.form in
    subst (λ ty. ForValue ty (tree_of c.args.arena.now c.args.node)
    (λ v. c.mixed_parts.result.1 / 8 + 1 ≡ capped (size ty v))) form
    (bitlist_len c.args.schema.now.format c.in-Bitlist.field-0 c.mixed_parts.result.1
    (c.mixed_parts.result.1 / 8 + 1) (tree_of c.args.arena.now c.args.node)
    (tree_of c.args.arena.now c.mixed_parts.result.0)
    (subst (IsLegal c.args.schema.now.format) (sym form) c.ty.ensures.legal)
    (record { tree = c.mixed_parts.ensures.tree; number = c.mixed_parts.ensures.number }) refl)

pub variable_len-returns-in-Vector : goal.variable_len-returns-in-Vector
variable_len-returns-in-Vector g t c =
    let form : vector (type_of c.args.schema.now c.in-Vector.elem) c.in-Vector.n
    ≡ type_of c.args.schema.now c.args.id =
    ap (tree_over c.args.schema.now.trees) (sym c.in-Vector.is) ∙ c.ty.ensures.form in
    subst (λ ty. ForValue ty (tree_of c.args.arena.now c.args.node)
    (λ v. c.elements_len.result ≡ capped (size ty v))) form
    (vector_len (type_of c.args.schema.now c.in-Vector.elem) c.in-Vector.n c.depth-depth.result
    c.elements_len.result (tree_of c.args.arena.now c.args.node)
    (c.depth-depth.ensures.exact ∙ ap depth (sym form)) c.elements_len.ensures)

pub variable_len-returns-in-List : goal.variable_len-returns-in-List
variable_len-returns-in-List g t c =
    let form : list (type_of c.args.schema.now c.in-List.elem) c.in-List.field-1
    ≡ type_of c.args.schema.now c.args.id =
    ap (tree_over c.args.schema.now.trees) (sym c.in-List.is) ∙ c.ty.ensures.form in
    subst (λ ty. ForValue ty (tree_of c.args.arena.now c.args.node)
    (λ v. c.elements_len-in-List.result ≡ capped (size ty v))) form
    (list_len c.args.schema.now.format (type_of c.args.schema.now c.in-List.elem)
    c.in-List.field-1 c.depth-depth.result c.mixed_parts-count.result.1
    c.elements_len-in-List.result
    (tree_of c.args.arena.now c.args.node)
    (tree_of c.args.arena.now c.mixed_parts-count.result.0)
    (subst (IsLegal c.args.schema.now.format) (sym form) c.ty.ensures.legal)
    (c.depth-depth.ensures.exact ∙ ap depth (sym form))
    (record {
      tree = c.mixed_parts-count.ensures.tree;
      number = c.mixed_parts-count.ensures.number;
    })
    c.elements_len-in-List.ensures)

pub variable_len-returns-in-Container : goal.variable_len-returns-in-Container
variable_len-returns-in-Container g t c =
    let form : container (fields_over c.args.schema.now.trees c.as_slice-in-Container.result.now)
    ≡ type_of c.args.schema.now c.args.id =
    ap (λ fs. container (fields_over c.args.schema.now.trees fs))
    c.as_slice-in-Container.ensures.value
    ∙ ap (tree_over c.args.schema.now.trees) (sym c.in-Container.is) ∙ c.ty.ensures.form in
    subst (λ ty. ForValue ty (tree_of c.args.arena.now c.args.node)
    (λ v. c.fields_len.result ≡ capped (size ty v))) form
    (container_len (fields_over c.args.schema.now.trees c.as_slice-in-Container.result.now)
    c.depth-depth.result c.fields_len.result (tree_of c.args.arena.now c.args.node)
    (c.depth-depth.ensures.exact ∙ ap depth (sym form)) c.fields_len.ensures)

pub chosen_len-node_len-requires : goal.chosen_len-node_len-requires
chosen_len-node_len-requires g t c =
    let here : slice_get c.args.options.now (c.mixed_parts-selector.result.1 % 256)
    ≡ Some (Some c.in-Some-Some.option) =
    sym c.option_at.ensures ∙ c.in-Some-Some.is ∙ ap Some c.in-Some-Some.field-0-is in
    let below : c.in-Some-Some.option < c.args.id =
    below_at c.args.id c.args.options.now (c.mixed_parts-selector.result.1 % 256)
    (Some c.in-Some-Some.option) here c.requires.before in
    search rules
