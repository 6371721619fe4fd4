use Rattle.std.proofs.Common.{◌∙◌, ◌≡◌, ◌*◌, ◌≤◌, ◌+◌, ◌^◌, ◌<◌, ℕ, ap, sym, subst, arith, rules, length, List, Option, refl, eqb-true, leb-true, not, slice_range, Some}
use Rattle.std.proofs.lemmas.List.{take_rest}
use Rattle.std.specs.List.{AllByRecursion}
use Rattle.ssz_schema.specs.Types.{container, union}
use Rattle.ssz_schema.specs.Sizes.{fixed_size}
use Rattle.ssz_schema.specs.Legal.{IsLegal}
use Rattle.ssz_schema.specs.Unfolding.{type_of, type_tree_at, tree_over, AreBelow, IsBelow, fields_over, options_over}
use Rattle.ssz_schema.proofs.SizeLemmas.{vector_few}
use Rattle.ssz_value.specs.Faults.{first_fault, elements_fault, length_fault}
use Rattle.ssz_value.proofs.Inputs.{input_of}
use Rattle.ssz_value.proofs.PartLemmas.{known_weaker, part_known}
use Rattle.ssz_parts.proofs.ElementFaults.{FixedFrom-end}
use Rattle.ssz_parts.proofs.HeadLemmas.{heads_few}
use Rattle.ssz_checking.specs.Clean.{Closes}
use Rattle.ssz_checking.proofs.CleanLemmas.{none_of, none_of_ok, lifted, lifted_more, list_none, none_none, CleanSoFar-start, CleanSoFar-more, CleanSoFar-end, FieldsSoFar-start, fixed_room}
use Rattle.ssz_checking.proofs.NumberLemmas.{numbers_list, bytes_list, number_clean}
use Rattle.ssz_checking.proofs.PlainLemmas.{range_length}
use Rattle.ssz_checking.proofs.BeforeLemmas.{before_fixed, fixed_after}
use Rattle.ssz_checking.proofs.clean.+clean.Goals as goal

pub is_clean-returns-in-Uint : goal.is_clean-returns-in-Uint
is_clean-returns-in-Uint t c = λ holds.
    lifted _ _ _ c.args.bytes.now
    (sym c.ty.ensures.form ∙ ap (tree_over c.args.schema.now.trees) c.in-Uint.is)
    c.ty.ensures.legal (input_of c.args.bytes.now c.type_inv.bytes c.requires.short)
    (ap (λ (n : ℕ). length_fault n 0 c.args.bytes.now) (sym c.byte_count.ensures.exact)
    ∙ sym c.length_fault.ensures ∙ none_of _ _ c.is_none.ensures holds)

pub is_clean-returns-in-Boolean : goal.is_clean-returns-in-Boolean
is_clean-returns-in-Boolean t c = λ holds.
    lifted _ _ _ c.args.bytes.now
    (sym c.ty.ensures.form ∙ ap (tree_over c.args.schema.now.trees) c.in-Boolean.is)
    c.ty.ensures.legal (input_of c.args.bytes.now c.type_inv.bytes c.requires.short)
    (sym c.boolean.ensures ∙ none_of _ _ c.is_none-in-Boolean.ensures holds)

pub is_clean-returns-in-Bitvector : goal.is_clean-returns-in-Bitvector
is_clean-returns-in-Bitvector t c = λ holds.
    lifted _ _ _ c.args.bytes.now
    (sym c.ty.ensures.form ∙ ap (tree_over c.args.schema.now.trees) c.in-Bitvector.is)
    c.ty.ensures.legal (input_of c.args.bytes.now c.type_inv.bytes c.requires.short)
    (sym c.bitvector.ensures ∙ none_of _ _ c.is_none-in-Bitvector.ensures holds)

pub is_clean-returns-in-Bitlist : goal.is_clean-returns-in-Bitlist
is_clean-returns-in-Bitlist t c = λ holds.
    lifted _ _ _ c.args.bytes.now
    (sym c.ty.ensures.form ∙ ap (tree_over c.args.schema.now.trees) c.in-Bitlist.is)
    c.ty.ensures.legal (input_of c.args.bytes.now c.type_inv.bytes c.requires.short)
    (sym c.read_bitlist.ensures.fault ∙ none_of_ok _ _ c.is_ok.ensures.value holds)

pub is_clean-are_elements_clean-requires : goal.is_clean-are_elements_clean-requires
is_clean-are_elements_clean-requires t c =
    let is = sym c.ty.ensures.form ∙ ap (tree_over c.args.schema.now.trees) c.in-Vector.is in
    let few : c.in-Vector.count ≤ 2 ^ 24 =
    vector_few c.args.schema.now.format
    (type_tree_at c.args.schema.now.trees c.in-Vector.elem) c.in-Vector.count
    (subst (IsLegal c.args.schema.now.format) is c.ty.ensures.legal) in
    search rules

pub is_clean-returns-in-Vector : goal.is_clean-returns-in-Vector
is_clean-returns-in-Vector t c = λ holds.
    lifted _ _ _ c.args.bytes.now
    (sym c.ty.ensures.form ∙ ap (tree_over c.args.schema.now.trees) c.in-Vector.is)
    c.ty.ensures.legal (input_of c.args.bytes.now c.type_inv.bytes c.requires.short)
    (c.are_elements_clean.ensures holds)

pub is_clean-returns-in-List : goal.is_clean-returns-in-List
is_clean-returns-in-List t c = λ holds.
    lifted _ _ _ c.args.bytes.now
    (sym c.ty.ensures.form ∙ ap (tree_over c.args.schema.now.trees) c.in-List.is)
    c.ty.ensures.legal (input_of c.args.bytes.now c.type_inv.bytes c.requires.short)
    (c.is_list_clean.ensures holds)

pub is_clean-is_clean-requires : goal.is_clean-is_clean-requires
is_clean-is_clean-requires t c =
    let all : AllByRecursion (IsBelow c.args.id) c.in-Union.options.items =
    subst (AreBelow c.args.id) c.in-Union.is c.ty.ensures.before in
    let known : AllByRecursion (IsBelow c.args.id) c.as_slice.result.now =
    subst (AllByRecursion (IsBelow c.args.id)) (sym c.as_slice.ensures.value) all in
    let below : c.in-Ok.option < c.args.id =
    c.in-Ok.ensures.below c.args.id known in
    search rules

pub is_clean-returns-in-Ok : goal.is_clean-returns-in-Ok
is_clean-returns-in-Ok t c = λ holds.
    let form : type_of c.args.schema.now c.args.id
    ≡ union (options_over c.args.schema.now.trees c.as_slice.result.now) =
    sym c.ty.ensures.form ∙ ap (tree_over c.args.schema.now.trees) c.in-Union.is
    ∙ ap (λ os. union (options_over c.args.schema.now.trees os)) (sym c.as_slice.ensures.value) in
    lifted _ _ _ c.args.bytes.now form
    c.ty.ensures.legal (input_of c.args.bytes.now c.type_inv.bytes c.requires.short)
    (c.in-Ok.ensures.ok c.args.schema.now.trees
    ∙ sym (ap (first_fault (type_of c.args.schema.now c.in-Ok.option) (0 + 1))
    (take_rest c.args.bytes.now 1))
    ∙ c.is_clean.ensures holds (0 + 1))

pub is_clean-returns-in-Err : goal.is_clean-returns-in-Err
is_clean-returns-in-Err t c = λ holds.
    let form : type_of c.args.schema.now c.args.id
    ≡ union (options_over c.args.schema.now.trees c.as_slice.result.now) =
    sym c.ty.ensures.form ∙ ap (tree_over c.args.schema.now.trees) c.in-Union.is
    ∙ ap (λ os. union (options_over c.args.schema.now.trees os)) (sym c.as_slice.ensures.value) in
    lifted _ _ _ c.args.bytes.now form
    c.ty.ensures.legal (input_of c.args.bytes.now c.type_inv.bytes c.requires.short)
    (c.in-Err.ensures.err c.args.schema.now.trees ∙ none_of _ _ c.is_none-in-Err.ensures holds)

pub is_counted_clean-returns-in-Uint : goal.is_counted_clean-returns-in-Uint
is_counted_clean-returns-in-Uint t c = λ holds.
    numbers_list (type_of c.args.schema.now c.args.elem) c.in-Uint.field-0 c.fixed_size.result
    c.args.limit 0 c.args.bytes.now
    (sym c.ty.ensures.form ∙ ap (tree_over c.args.schema.now.trees) c.in-Uint.is)
    c.fixed_size.ensures.exact (λ i. omega (arith, c.type_inv.bytes i))
    (sym c.in-Ok.ensures.fault)

pub is_counted_clean-returns-in_default : goal.is_counted_clean-returns-in_default
is_counted_clean-returns-in_default t c = λ holds.
    list_none (type_of c.args.schema.now c.args.elem) c.fixed_size.result c.args.limit
    c.in-Ok.count c.args.bytes.now c.fixed_size.ensures.exact c.in-Ok.ensures.ok
    (sym c.in-Ok.ensures.fault) (c.are_elements_clean.ensures holds)

pub are_elements_clean-returns-in-Some : goal.are_elements_clean-returns-in-Some
are_elements_clean-returns-in-Some t c = λ holds.
    ap (λ (z : Option ℕ). elements_fault (first_fault (type_of c.args.schema.now c.args.elem)) z
    c.args.count 0 c.args.bytes.now) (sym c.in-Some.ensures.exact)
    ∙ c.first_unclean_alike.ensures.none (c.is_none.ensures ∙ ap not holds) 0

pub are_elements_clean-returns-in-None : goal.are_elements_clean-returns-in-None
are_elements_clean-returns-in-None t c = λ holds.
    ap (λ (z : Option ℕ). elements_fault (first_fault (type_of c.args.schema.now c.args.elem)) z
    c.args.count 0 c.args.bytes.now) (sym c.in-None.ensures.exact)
    ∙ c.first_unclean_variable.ensures.none (c.is_none-in-None.ensures ∙ ap not holds) 0

pub
    first_unclean_alike-returns-then-not-is_clean-clause-before :
    goal.first_unclean_alike-returns-then-not-is_clean-clause-before
first_unclean_alike-returns-then-not-is_clean-clause-before t c = c.loop-i.invariant

pub first_unclean_alike-loop-i-preserved : goal.first_unclean_alike-loop-i-preserved
first_unclean_alike-loop-i-preserved t c =
    before_fixed (type_of c.args.schema.now c.args.elem) c.args.size c.args.count c.loop-i.i
    c.args.bytes.now c.loop-i.invariant c.loop-i-test.true
    (c.is_clean.ensures c.if-not-is_clean.false)

pub first_unclean_alike-returns-clause-none : goal.first_unclean_alike-returns-clause-none
first_unclean_alike-returns-clause-none t c = λ none s.
    let whole : length c.args.bytes.now ≡ c.args.count * c.args.size = omega arith in
    FixedFrom-end (first_fault (type_of c.args.schema.now c.args.elem)) c.args.size c.args.count
    s c.args.bytes.now c.loop-i.i
    (fixed_after (type_of c.args.schema.now c.args.elem) c.args.size c.args.count s c.loop-i.i
    c.args.bytes.now whole c.loop-i.invariant) (omega (arith, c.loop-i-test.false))

pub
    first_unclean_variable-returns-then-is_empty-clause-none :
    goal.first_unclean_variable-returns-then-is_empty-clause-none
first_unclean_variable-returns-then-is_empty-clause-none t c = λ none s.
    none_none (first_fault (type_of c.args.schema.now c.args.elem)) c.args.count s c.args.bytes.now
    c.if-count-eq0.true (eqb-true _ _ (sym c.is_empty.ensures ∙ c.if-is_empty.true))

pub first_unclean_variable-loop-i-init : goal.first_unclean_variable-loop-i-init
first_unclean_variable-loop-i-init t c =
    CleanSoFar-start (type_of c.args.schema.now c.args.elem) c.args.count (4 * c.args.count)
    c.args.bytes.now (omega arith) (omega arith) (omega (arith, c.offset_at.ensures)) refl

pub first_unclean_variable-loop-i-preserved : goal.first_unclean_variable-loop-i-preserved
first_unclean_variable-loop-i-preserved t c =
    CleanSoFar-more (type_of c.args.schema.now c.args.elem) c.args.count c.loop-i.i c.loop-i.from
    c.end_of_part-to.result c.args.bytes.now c.loop-i.invariant c.loop-i-test.true
    c.end_of_part-to.ensures (omega arith) (omega arith)
    (c.is_clean.ensures c.if-not-is_clean.false)

pub first_unclean_variable-returns-clause-none : goal.first_unclean_variable-returns-clause-none
first_unclean_variable-returns-clause-none t c = λ none.
    CleanSoFar-end (type_of c.args.schema.now c.args.elem) c.args.count c.loop-i.i c.loop-i.from
    c.args.bytes.now c.loop-i.invariant (omega (arith, c.loop-i-test.false))

pub first_unclean_container-loop-i-init : goal.first_unclean_container-loop-i-init
first_unclean_container-loop-i-init t c =
    CleanSoFar-start (type_of c.args.schema.now c.args.id) c.args.count (4 * c.args.count)
    c.args.bytes.now c.requires.some c.requires.room c.requires.first refl

pub first_unclean_container-loop-i-preserved : goal.first_unclean_container-loop-i-preserved
first_unclean_container-loop-i-preserved t c =
    lifted_more c.args.schema.now.format (type_of c.args.schema.now c.args.id)
    (container (fields_over c.args.schema.now.trees c.args.fields.now)) c.args.count
    c.loop-i.i c.loop-i.from c.end_of_part-to.result c.args.bytes.now c.requires.form
    c.ty-legal.ensures.legal (input_of c.args.bytes.now c.type_inv.bytes c.requires.short)
    c.loop-i.invariant c.loop-i-test.true c.end_of_part-to.ensures (omega arith) (omega arith)
    (c.are_fields_clean.ensures c.if-not-are_fields_clean.false)

pub first_unclean_container-returns-clause-none : goal.first_unclean_container-returns-clause-none
first_unclean_container-returns-clause-none t c = λ none.
    CleanSoFar-end (type_of c.args.schema.now c.args.id) c.args.count c.loop-i.i c.loop-i.from
    c.args.bytes.now c.loop-i.invariant (omega (arith, c.loop-i-test.false))

pub
    first_unclean_container-heads_len-heads-requires-clause-known :
    goal.first_unclean_container-heads_len-heads-requires-clause-known
first_unclean_container-heads_len-heads-requires-clause-known t c =
    known_weaker c.args.id (length c.args.schema.now.trees) c.args.fields.now c.requires.known
    c.requires.before

pub
    first_unclean_container-heads_len-heads-requires-clause-short :
    goal.first_unclean_container-heads_len-heads-requires-clause-short
first_unclean_container-heads_len-heads-requires-clause-short t c =
    heads_few c.args.schema.now.format
    (fields_over c.args.schema.now.trees c.args.fields.now)
    (subst (IsLegal c.args.schema.now.format) c.requires.form c.ty-legal.ensures.legal)

pub are_fields_clean-loop-field-init : goal.are_fields_clean-loop-field-init
are_fields_clean-loop-field-init t c = record {
  so_far = FieldsSoFar-start c.args.schema.now.trees c.args.fields.now c.args.bytes.now c.args.heads
      c.requires.heads (omega arith);
  known = λ x e. cc;
}

pub is_closed_clean-returns-in-None : goal.is_closed_clean-returns-in-None
is_closed_clean-returns-in-None t c = λ holds.
    subst (λ (last : Option ℕ). Closes c.args.schema.now.trees last c.args.from c.args.to
    c.args.bytes.now) (sym c.in-None.is) (eqb-true _ _ holds)

pub is_part_clean-returns-in-List : goal.is_part_clean-returns-in-List
is_part_clean-returns-in-List t c = λ holds.
    lifted _ _ _ c.args.bytes.now
    (sym c.ty.ensures.form ∙ ap (tree_over c.args.schema.now.trees) c.in-List.is)
    c.ty.ensures.legal (input_of c.args.bytes.now c.type_inv.bytes c.requires.short)
    (c.is_list_clean.ensures holds)

pub is_clean-is_container_clean-requires : goal.is_clean-is_container_clean-requires
is_clean-is_container_clean-requires t c =
    let P : List (List ℕ × ℕ) → Type 0 =
    AllByRecursion (λ (part : List ℕ × ℕ). part.1 < c.args.id) in
    let all : P c.in-Container.fields.items =
    subst (AreBelow c.args.id) c.in-Container.is c.ty.ensures.before in
    let known : P c.as_slice-in-Container.result.now =
    subst P (sym c.as_slice-in-Container.ensures.value) all in
    let form : type_of c.args.schema.now c.args.id
    ≡ container (fields_over c.args.schema.now.trees c.as_slice-in-Container.result.now) =
    sym c.ty.ensures.form ∙ ap (tree_over c.args.schema.now.trees) c.in-Container.is
    ∙ ap (λ fs. container (fields_over c.args.schema.now.trees fs))
    (sym c.as_slice-in-Container.ensures.value) in
    search rules

pub is_clean-returns-in-Container : goal.is_clean-returns-in-Container
is_clean-returns-in-Container t c = λ holds.
    let form : type_of c.args.schema.now c.args.id
    ≡ container (fields_over c.args.schema.now.trees c.as_slice-in-Container.result.now) =
    sym c.ty.ensures.form ∙ ap (tree_over c.args.schema.now.trees) c.in-Container.is
    ∙ ap (λ fs. container (fields_over c.args.schema.now.trees fs))
    (sym c.as_slice-in-Container.ensures.value) in
    lifted _ _ _ c.args.bytes.now form
    c.ty.ensures.legal (input_of c.args.bytes.now c.type_inv.bytes c.requires.short)
    (c.is_container_clean.ensures holds)

pub
    is_container_clean-container_heads_len-heads-requires-clause-known :
    goal.is_container_clean-container_heads_len-heads-requires-clause-known
is_container_clean-container_heads_len-heads-requires-clause-known t c =
    known_weaker c.args.id (length c.args.schema.now.trees) c.args.fields.now c.requires.known
    c.requires.before

pub
    is_container_clean-container_heads_len-heads-requires-clause-short :
    goal.is_container_clean-container_heads_len-heads-requires-clause-short
is_container_clean-container_heads_len-heads-requires-clause-short t c =
    heads_few c.args.schema.now.format
    (fields_over c.args.schema.now.trees c.args.fields.now)
    (subst (IsLegal c.args.schema.now.format) c.requires.form c.ty-legal.ensures.legal)

-- bytes are as many elements as there are
pub is_list_clean-returns-then-is_byte : goal.is_list_clean-returns-then-is_byte
is_list_clean-returns-then-is_byte t c = λ holds.
    bytes_list (type_of c.args.schema.now c.args.elem) c.args.limit c.args.bytes.now
    (sym c.is_byte.ensures ∙ c.if-is_byte.true) (λ i. omega (arith, c.type_inv.bytes i))
    (leb-true _ _ holds)

-- a number of the right size has no fault
pub is_fixed_clean-returns-in-Uint : goal.is_fixed_clean-returns-in-Uint
is_fixed_clean-returns-in-Uint t c = λ holds.
    number_clean (type_of c.args.schema.now c.args.id) c.in-Uint.field-0 c.args.bytes.now
    (sym c.ty.ensures.form ∙ ap (tree_over c.args.schema.now.trees) c.in-Uint.is) c.requires.size

pub are_fields_clean-is_fixed_clean-requires : goal.are_fields_clean-is_fixed_clean-requires
are_fields_clean-is_fixed_clean-requires t c =
    let below : c.field-item.result.1 < c.args.id =
    part_known c.args.id c.args.fields.now c.loop-field.field-index c.field-item.result
    c.loop-field-test.true c.field-item.is c.requires.before in
    let room : c.loop-field.place + c.in-Some.size ≤ length c.args.bytes.now =
    fixed_room c.args.schema.now.trees c.args.fields.now c.args.bytes.now c.args.heads
    c.loop-field.field-index c.loop-field.place c.loop-field.last c.loop-field.from
    c.field-item.result c.in-Some.size c.loop-field.invariant.so_far c.loop-field-test.true
    c.field-item.is (sym c.in-Some.ensures.exact) in
    let size : fixed_size (type_of c.args.schema.now c.field-item.result.1)
    ≡ Some (length (slice_range c.args.bytes.now c.loop-field.place
    (c.loop-field.place + c.in-Some.size))) =
    sym c.in-Some.ensures.exact
    ∙ ap Some (sym (range_length c.args.bytes.now c.loop-field.place c.in-Some.size room)) in
    search rules
