use Rattle.std.proofs.Common.{refl, ◌∙◌, ◌≡◌, ◌*◌, ◌≤◌, ◌+◌, ◌^◌, ℕ, ap, ap₂, sym, subst, arith, rules, slice_range, length, List, ◌<◌}
use Rattle.std.proofs.lemmas.List.{take_rest}
use Rattle.ssz_schema.specs.Types.{SszType, container, union}
use Rattle.ssz_schema.specs.Sizes.{head_size, fixed_size}
use Rattle.ssz_schema.specs.Unfolding.{type_of, type_tree_at, tree_over, AreBelow, IsBelow, fields_over, options_over}
use Rattle.std.specs.List.{AllByRecursion}
use Rattle.ssz_schema.specs.Legal.{IsLegal}
use Rattle.ssz_schema.proofs.SizeLemmas.{vector_few}
use Rattle.ssz_value.specs.Faults.{first_fault}
use Rattle.ssz_value.proofs.Agree.{length_from_fault}
use Rattle.ssz_checking.proofs.BeforeLemmas.{fixed_after, variable_after}
use Rattle.ssz_checking.proofs.NumberLemmas.{FieldsFrom-number}
use Rattle.ssz_parts.proofs.ElementFaults.{FixedFrom-more, FixedFrom-found, FixedFrom-end, VariableFrom-part, VariableFrom-more, VariableFrom-found, fixed_found_head}
use Rattle.ssz_parts.proofs.FieldLemmas.{FieldsFrom, FieldsFrom-start, FieldsFrom-found, FieldsFrom-more, FieldsFrom-end}
use Rattle.ssz_value.proofs.PartLemmas.{known_weaker, part_known}
use Rattle.ssz_checking.proofs.RangeLemmas.{field_range, field_room}
use Rattle.ssz_checking.proofs.checking.+check.Goals as goal

pub scope-elements-requires : goal.scope-elements-requires
scope-elements-requires t c =
    let is = sym c.ty.ensures.form ∙ ap (tree_over c.args.schema.now.trees) c.in-Vector.is in
    let few : c.in-Vector.count ≤ 2 ^ 24 =
    vector_few c.args.schema.now.format
    (type_tree_at c.args.schema.now.trees c.in-Vector.elem) c.in-Vector.count
    (subst (IsLegal c.args.schema.now.format) is c.ty.ensures.legal) in
    search rules

pub fixed_elements-returns-in-Some : goal.fixed_elements-returns-in-Some
fixed_elements-returns-in-Some t c =
    sym (fixed_found_head
    (first_fault (type_of c.args.schema.now c.args.elem)) c.args.size c.args.count
    c.args.start c.args.bytes.now c.in-Some.fault (sym c.in-Some.ensures))

pub fixed_elements-returns-in-Some-scope : goal.fixed_elements-returns-in-Some-scope
fixed_elements-returns-in-Some-scope t c =
    sym (FixedFrom-found (first_fault (type_of c.args.schema.now c.args.elem)) c.args.size
    c.args.count
    c.args.start c.args.bytes.now c.loop-i.i c.in-Some-scope.fault
    c.loop-i.invariant (omega arith) (sym c.in-Some-scope.ensures))

pub fixed_elements-loop-i-preserved : goal.fixed_elements-loop-i-preserved
fixed_elements-loop-i-preserved t c =
    FixedFrom-more (first_fault (type_of c.args.schema.now c.args.elem)) c.args.size c.args.count
    c.args.start c.args.bytes.now c.loop-i.i
    c.loop-i.invariant (omega arith) (sym c.in_default-scope.ensures)

pub fixed_elements-returns : goal.fixed_elements-returns
fixed_elements-returns t c =
    sym (FixedFrom-end (first_fault (type_of c.args.schema.now c.args.elem)) c.args.size
    c.args.count
    c.args.start c.args.bytes.now c.loop-i.i c.loop-i.invariant (omega arith))

pub fixed_elements-loop-i-init : goal.fixed_elements-loop-i-init
fixed_elements-loop-i-init t c =
    fixed_after (type_of c.args.schema.now c.args.elem) c.args.size c.args.count c.args.start
    c.in-Some-first_unclean_alike.first c.args.bytes.now
    (length_from_fault (c.args.count * c.args.size) c.args.start c.args.bytes.now
    (sym c.in_default.ensures)) c.in-Some-first_unclean_alike.ensures.before

pub
    fixed_elements-returns-in_default-first_unclean_alike :
    goal.fixed_elements-returns-in_default-first_unclean_alike
fixed_elements-returns-in_default-first_unclean_alike t c =
    sym (c.in_default-first_unclean_alike.ensures.none refl c.args.start)

pub variable_elements-returns-in_default : goal.variable_elements-returns-in_default
variable_elements-returns-in_default t c = sym (c.in_default.ensures.none refl c.args.start)

pub variable_elements-loop-i-init : goal.variable_elements-loop-i-init
variable_elements-loop-i-init t c =
    variable_after (type_of c.args.schema.now c.args.elem) c.args.count c.args.start
    c.in-Some.first c.args.bytes.now (sym c.in_default-offsets_fault.ensures)
    c.in-Some.ensures.before

pub variable_elements-slice_bounds-part-count : goal.variable_elements-slice_bounds-part-count
variable_elements-slice_bounds-part-count t c =
    let part = VariableFrom-part
    (first_fault (type_of c.args.schema.now c.args.elem)) c.args.count c.args.start c.args.bytes.now
    c.loop-i.i c.loop-i.invariant (omega arith) in
    omega (arith, c.offset_at-from.ensures, c.end_of_part.ensures, part.up)

pub variable_elements-slice_bounds-part-start : goal.variable_elements-slice_bounds-part-start
variable_elements-slice_bounds-part-start t c =
    let part = VariableFrom-part
    (first_fault (type_of c.args.schema.now c.args.elem)) c.args.count c.args.start c.args.bytes.now
    c.loop-i.i c.loop-i.invariant (omega arith) in
    omega (arith, c.offset_at-from.ensures, c.end_of_part.ensures, part.up)

pub variable_elements-slice_bounds-part-end : goal.variable_elements-slice_bounds-part-end
variable_elements-slice_bounds-part-end t c =
    let part = VariableFrom-part
    (first_fault (type_of c.args.schema.now c.args.elem)) c.args.count c.args.start c.args.bytes.now
    c.loop-i.i c.loop-i.invariant (omega arith) in
    omega (arith, c.end_of_part.ensures, part.inside)

-- the part that was checked is the one that the definition cuts
pub variable_elements-returns-in-Some-scope : goal.variable_elements-returns-in-Some-scope
variable_elements-returns-in-Some-scope t c =
    let child = first_fault (type_of c.args.schema.now c.args.elem) in
    let same = ap₂ (λ (from to : ℕ).
    child (c.args.start + from) (slice_range c.args.bytes.now from to)) c.offset_at-from.ensures
    c.end_of_part.ensures in
    sym (VariableFrom-found child c.args.count c.args.start c.args.bytes.now c.loop-i.i
    c.in-Some-scope.fault c.loop-i.invariant (omega arith)
    (sym same ∙ sym c.in-Some-scope.ensures))

pub variable_elements-loop-i-preserved : goal.variable_elements-loop-i-preserved
variable_elements-loop-i-preserved t c =
    let child = first_fault (type_of c.args.schema.now c.args.elem) in
    let same = ap₂ (λ (from to : ℕ).
    child (c.args.start + from) (slice_range c.args.bytes.now from to)) c.offset_at-from.ensures
    c.end_of_part.ensures in
    VariableFrom-more child c.args.count c.args.start c.args.bytes.now c.loop-i.i c.loop-i.invariant
    (omega arith)
    (sym same ∙ sym c.in_default-scope.ensures)

pub container-loop-i-init : goal.container-loop-i-init
container-loop-i-init t c =
    FieldsFrom-start c.args.schema.now.trees c.args.fields.now c.args.start c.args.bytes.now
    (sym c.in_default.ensures)

pub
    container-part_range-from-requires-clause-known :
    goal.container-part_range-from-requires-clause-known
container-part_range-from-requires-clause-known t c =
    known_weaker c.args.id (length c.args.schema.now.trees) c.args.fields.now c.requires.known
    c.requires.before

pub container-returns-in-Some-scope : goal.container-returns-in-Some-scope
container-returns-in-Some-scope t c =
    sym (FieldsFrom-found c.args.schema.now.trees c.args.fields.now c.args.start c.args.bytes.now
    c.loop-i.i c.loop-i.place c.part_range-from.result.0 c.part_range-from.result.1
    c.index-fields-i.result c.in-Some-scope.fault
    c.loop-i.invariant c.loop-i-test.true c.index-fields-i.is c.part_range-from.ensures
    (sym c.in-Some-scope.ensures))

pub scope-judged-requires : goal.scope-judged-requires
scope-judged-requires t c =
    let all : AllByRecursion (IsBelow c.args.id) c.in-Union.options.items =
    subst (AreBelow c.args.id) c.in-Union.is c.ty.ensures.before in
    let known : AllByRecursion (IsBelow c.args.id) c.as_slice.result.now =
    subst (AllByRecursion (IsBelow c.args.id)) (sym c.as_slice.ensures.value) all in
    let below : c.in-Ok.option < c.args.id =
    c.in-Ok.ensures.below c.args.id known in
    search rules

pub scope-container-requires : goal.scope-container-requires
scope-container-requires t c =
    let P : List (List ℕ × ℕ) → Type 0 =
    AllByRecursion (λ (part : List ℕ × ℕ). part.1 < c.args.id) in
    let all : P c.in-Container.fields.items =
    subst (AreBelow c.args.id) c.in-Container.is c.ty.ensures.before in
    let known : P c.as_slice-in-Container.result.now =
    subst P (sym c.as_slice-in-Container.ensures.value) all in
    let form : type_of c.args.schema.now c.args.id
    ≡ container (fields_over c.args.schema.now.trees c.as_slice-in-Container.result.now) =
    sym c.ty.ensures.form ∙ ap (tree_over c.args.schema.now.trees) c.in-Container.is
    ∙ ap (λ fs. container (fields_over c.args.schema.now.trees fs))
    (sym c.as_slice-in-Container.ensures.value) in
    search rules

pub
    container-fields_head_fault-requires-clause-known :
    goal.container-fields_head_fault-requires-clause-known
container-fields_head_fault-requires-clause-known t c =
    known_weaker c.args.id (length c.args.schema.now.trees) c.args.fields.now c.requires.known
    c.requires.before

pub
    container-part_range-from-requires-clause-field :
    goal.container-part_range-from-requires-clause-field
container-part_range-from-requires-clause-field t c =
    let below : c.index-fields-i.result.1 < c.args.id =
    part_known c.args.id c.args.fields.now c.loop-i.i c.index-fields-i.result c.loop-i-test.true
    c.index-fields-i.is c.requires.before in
    omega (arith, below, c.requires.known)

pub
    container-part_range-from-requires-clause-room :
    goal.container-part_range-from-requires-clause-room
container-part_range-from-requires-clause-room t c =
    field_room c.args.schema.now.trees c.args.fields.now c.args.start c.args.bytes.now
    c.loop-i.i c.loop-i.place c.index-fields-i.result c.loop-i.invariant c.loop-i-test.true
    c.index-fields-i.is

pub container-slice_bounds-part-count : goal.container-slice_bounds-part-count
container-slice_bounds-part-count t c =
    let range = field_range c.args.schema.now.trees c.args.fields.now c.args.start
    c.args.bytes.now c.loop-i.i c.loop-i.place c.part_range-from.result.0
    c.part_range-from.result.1 c.index-fields-i.result c.loop-i.invariant c.loop-i-test.true
    c.index-fields-i.is c.part_range-from.ensures in
    omega (arith, range.0, range.1)

pub container-slice_bounds-part-end : goal.container-slice_bounds-part-end
container-slice_bounds-part-end t c =
    let range = field_range c.args.schema.now.trees c.args.fields.now c.args.start
    c.args.bytes.now c.loop-i.i c.loop-i.place c.part_range-from.result.0
    c.part_range-from.result.1 c.index-fields-i.result c.loop-i.invariant c.loop-i-test.true
    c.index-fields-i.is c.part_range-from.ensures in
    omega (arith, range.0, range.1)

pub container-slice_bounds-part-start : goal.container-slice_bounds-part-start
container-slice_bounds-part-start t c =
    let range = field_range c.args.schema.now.trees c.args.fields.now c.args.start
    c.args.bytes.now c.loop-i.i c.loop-i.place c.part_range-from.result.0
    c.part_range-from.result.1 c.index-fields-i.result c.loop-i.invariant c.loop-i-test.true
    c.index-fields-i.is c.part_range-from.ensures in
    omega (arith, range.0, range.1)

pub container-overflow_add-start : goal.container-overflow_add-start
container-overflow_add-start t c =
    let range = field_range c.args.schema.now.trees c.args.fields.now c.args.start
    c.args.bytes.now c.loop-i.i c.loop-i.place c.part_range-from.result.0
    c.part_range-from.result.1 c.index-fields-i.result c.loop-i.invariant c.loop-i-test.true
    c.index-fields-i.is c.part_range-from.ensures in
    let inside : c.part_range-from.result.0 ≤ length c.args.bytes.now =
    omega (arith, range.0, range.1) in
    search rules

pub container-scope-requires : goal.container-scope-requires
container-scope-requires t c =
    let below : c.index-fields-i.result.1 < c.args.id =
    part_known c.args.id c.args.fields.now c.loop-i.i c.index-fields-i.result c.loop-i-test.true
    c.index-fields-i.is c.requires.before in
    let range = field_range c.args.schema.now.trees c.args.fields.now c.args.start
    c.args.bytes.now c.loop-i.i c.loop-i.place c.part_range-from.result.0
    c.part_range-from.result.1 c.index-fields-i.result c.loop-i.invariant c.loop-i-test.true
    c.index-fields-i.is c.part_range-from.ensures in
    let up : c.part_range-from.result.0 ≤ c.part_range-from.result.1 = range.0 in
    let within : c.part_range-from.result.1 ≤ length c.args.bytes.now = range.1 in
    search rules

pub container-loop-i-preserved : goal.container-loop-i-preserved
container-loop-i-preserved t c =
    let size : head_size (fixed_size
    (type_tree_at c.args.schema.now.trees c.index-fields-i.result.1))
    ≡ c.head_len-in-loop-i.result = sym (c.head_len-in-loop-i.ensures
    ∙ ap head_size c.fixed_size-in-loop-i.ensures.exact) in
    subst (FieldsFrom c.args.schema.now.trees c.args.fields.now c.args.start c.args.bytes.now
    (c.loop-i.i + 1)) (ap (λ n. c.loop-i.place + n) size)
    (FieldsFrom-more c.args.schema.now.trees c.args.fields.now c.args.start c.args.bytes.now
    c.loop-i.i c.loop-i.place c.part_range-from.result.0 c.part_range-from.result.1
    c.index-fields-i.result c.loop-i.invariant c.loop-i-test.true c.index-fields-i.is
    c.part_range-from.ensures (sym c.in_default-scope.ensures))

pub container-returns : goal.container-returns
container-returns t c =
    sym (FieldsFrom-end c.args.schema.now.trees c.args.fields.now c.args.start c.args.bytes.now
    c.loop-i.i c.loop-i.place c.loop-i.invariant (omega arith))

pub scope-returns-in-Ok : goal.scope-returns-in-Ok
scope-returns-in-Ok t c =
    let form : union (options_over c.args.schema.now.trees c.as_slice.result.now)
    ≡ type_of c.args.schema.now c.args.id =
    ap (λ os. union (options_over c.args.schema.now.trees os)) c.as_slice.ensures.value
    ∙ ap (tree_over c.args.schema.now.trees) (sym c.in-Union.is) ∙ c.ty.ensures.form in
    c.judged.ensures
    ∙ ap (first_fault (type_of c.args.schema.now c.in-Ok.option) (c.args.start + 1))
    (take_rest c.args.bytes.now 1)
    ∙ sym (c.in-Ok.ensures.ok c.args.schema.now.trees)
    ∙ ap (λ (ty : SszType). first_fault ty c.args.start c.args.bytes.now) form

pub container-fixed_size-requires : goal.container-fixed_size-requires
container-fixed_size-requires t c =
    let below : c.index-fields-i.result.1 < c.args.id =
    part_known c.args.id c.args.fields.now c.loop-i.i c.index-fields-i.result c.loop-i-test.true
    c.index-fields-i.is c.requires.before in
    omega (arith, below, c.requires.known)

-- a number of the right size has no fault
pub container-loop-i-preserved-in-Uint : goal.container-loop-i-preserved-in-Uint
container-loop-i-preserved-in-Uint t c =
    let is = sym c.ty.ensures.form ∙ ap (tree_over c.args.schema.now.trees) c.in-Uint.is in
    subst (λ (n : ℕ). FieldsFrom c.args.schema.now.trees c.args.fields.now c.args.start
    c.args.bytes.now (c.loop-i.i + 1) (c.loop-i.place + n))
    (sym (c.head_len.ensures ∙ ap head_size (c.fixed_size.ensures.exact ∙ ap fixed_size is)))
    (FieldsFrom-number c.args.schema.now.trees c.args.fields.now c.args.start c.args.bytes.now
    c.loop-i.i c.loop-i.place c.index-fields-i.result c.in-Uint.field-0 c.loop-i.invariant
    c.loop-i-test.true c.index-fields-i.is is)
