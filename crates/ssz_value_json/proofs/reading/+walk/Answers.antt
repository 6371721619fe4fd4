use Rattle.std.proofs.Common.{◌∙◌, ◌+◌, ◌≡◌, ap, sym, subst, arith, rules, length, map, Some, None, slice_get, ℕ, drop, Ok, Err, append-nil, refl, ◌<◌, Vec, Global}
use Rattle.std.specs.List.{AllByRecursion}
use Rattle.std.proofs.lemmas.Result.{err_from_is_err_and}
use Rattle.std.proofs.lemmas.List.{drop_all, length_push}
use Rattle.serde_json.specs.Find.{get_member}
use Rattle.serde_json.specs.View.{view, items_view, members_view}
use Rattle.ssz_schema.specs.Legal.{IsLegal}
use Rattle.ssz_schema.specs.Unfolding.{type_of, type_tree_at, tree_over, fields_over, options_over, IsBelow, AreBelow}
use Rattle.ssz_value.specs.Standing.{value_of, is_byte, IsFormed, FieldsFormed}
use Rattle.ssz_schema.proofs.WalkFields.{drop_at}
use Rattle.ssz_value.proofs.PartLemmas.{Part, values_push}
use Rattle.ssz_value.proofs.FormLemmas.{formed_push, fields_push, seq_formed_alike, seq_formed_fields, chosen_formed}
use Rattle.ssz_value_json.specs.declared.count.Count.TheVariants.{Exactly, AtMost}
use Rattle.ssz_value_json.specs.Walk.{json_walk, uint_at, boolean_at, bits_at, elements_at, fields_at, field_walked, members_in, none_at}
use Rattle.ssz_value_json.specs.Steps.{allows, bad_count, bad_member, json_bad_selector}
use Rattle.ssz_value_json.specs.Answers.{WalksJson, IsFormedSequence, IsFormedUnion}
use Rattle.ssz_value.specs.declared.value.Value.{Value}
use Rattle.ssz_value.specs.Values.{chosen}
use Rattle.ssz_value.proofs.ValueLemmas.{seq_is, chosen_is}
use Rattle.ssz_schema.specs.Types.{SszType, uint, boolean, bitvector, bitlist, container, union}
use Rattle.serde_json.specs.Events.{members_len}
use Rattle.serde_json.proofs.Views.{members_len-members_view}
use Rattle.ssz_json_text.proofs.Names.{fields_are_named}
use Rattle.ssz_value_json.proofs.Walking.{before, before_none, leaf_of, then_more, then_found, passed_on, item_here, refused_walks, walks_as, array_refused, array_from, items_len_is, whole_of, object_members, container_from, container_refused, union_then, chosen_of, option_past, option_none, option_some}
use Rattle.ssz_value_json.proofs.reading.+walk.Goals as goal

pub elements_in-loop-item-init : goal.elements_in-loop-item-init
elements_in-loop-item-init t c =
    record {
      walked = before_none _
          ∙ ap (λ vs. before (map value_of vs)
          (elements_at (json_walk (type_of c.args.schema.now c.args.elem)) c.args.number.now
          (items_view c.args.items.now))) (sym c.in_ok-parts.ensures.items);
      formed = subst (AllByRecursion (IsFormed (type_of c.args.schema.now c.args.elem)))
          (sym c.in_ok-parts.ensures.items) tt;
    }

pub elements_in-loop-item-preserved : goal.elements_in-loop-item-preserved
elements_in-loop-item-preserved t c =
    let ty = type_of c.args.schema.now c.args.elem in
    let i = c.loop-item.item-index in
    let items = c.args.items.now in
    let done = map value_of c.loop-item.parts.items in
    let rest = λ (m : ℕ). elements_at (json_walk ty) m (items_view (drop (i + 1) items)) in
    record {
      walked = then_more _ done (json_walk ty c.loop-item.number (view c.item-item.result)) rest
          (value_of c.in_ok-part.part) c.value_in.new.number
          (c.loop-item.invariant.walked
          ∙ ap (λ ds. before done (elements_at (json_walk ty) c.loop-item.number ds))
          (item_here items i c.item-item.result c.loop-item-test.true c.item-item.is))
          c.in_ok-part.ensures.0
          ∙ ap (λ vs. before vs (rest c.value_in.new.number))
          (sym (values_push _ _ c.in_ok-part.part c.in_ok-push.ensures.items));
      formed = subst (AllByRecursion (IsFormed ty)) (sym c.in_ok-push.ensures.items)
          (formed_push ty c.loop-item.parts.items c.in_ok-part.part c.loop-item.invariant.formed
          c.in_ok-part.ensures.1);
    }

pub elements_in-returns-in_err-part : goal.elements_in-returns-in_err-part
elements_in-returns-in_err-part t c =
    let ty = type_of c.args.schema.now c.args.elem in
    let i = c.loop-item.item-index in
    let items = c.args.items.now in
    let done = map value_of c.loop-item.parts.items in
    let rest = λ (m : ℕ). elements_at (json_walk ty) m (items_view (drop (i + 1) items)) in
    let p = err_from_is_err_and c.from_residual-in_err-part.result
    c.from_residual-in_err-part.ensures.1 in
    rw (p.1, p.2) (passed_on value_of (IsFormed ty)
    (json_walk ty c.loop-item.number (view c.item-item.result)) c.value_in.new.number
    c.in_err-part.field-0.0 (λ (vs : Vec Value Global). map value_of vs.items)
    (λ (vs : Vec Value Global). AllByRecursion (IsFormed ty) vs.items) _ c.value_in.new.number
    c.in_err-part.ensures
    (λ f found. then_found _ done (json_walk ty c.loop-item.number (view c.item-item.result)) rest f
    (c.loop-item.invariant.walked
    ∙ ap (λ ds. before done (elements_at (json_walk ty) c.loop-item.number ds))
    (item_here items i c.item-item.result c.loop-item-test.true c.item-item.is)) found))

pub elements_in-returns : goal.elements_in-returns
elements_in-returns t c =
    let ty = type_of c.args.schema.now c.args.elem in
    let done = map value_of c.loop-item.parts.items in (
      c.loop-item.invariant.walked
          ∙ ap (λ js. before done (elements_at (json_walk ty) c.loop-item.number (items_view js)))
          (drop_all c.loop-item.item-index c.args.items.now c.loop-item-test.false)
          ∙ ap (λ vs. Ok (vs, c.loop-item.number)) (append-nil done),
      c.loop-item.invariant.formed,
    )

pub fields_in-loop-field-preserved : goal.fields_in-loop-field-preserved
fields_in-loop-field-preserved t c =
    let trees = c.args.schema.now.trees in
    let fields = c.args.fields.now in
    let i = c.loop-field.field-index in
    let f = c.field-item.result in
    let ms = members_in (view c.args.json.now) in
    let done = map value_of c.loop-field.parts.items in
    let rest = λ (m : ℕ). fields_at (fields_over trees (drop (i + 1) fields)) m ms in
    record {
      walked = then_more _ done
          (field_walked (json_walk (type_tree_at trees f.1)) c.loop-field.number
          (get_member f.0 ms)) rest
          (value_of c.in_ok-part.part) c.field_in.new.number
          (c.loop-field.invariant.walked
          ∙ ap (λ ps. before done (fields_at (fields_over trees ps) c.loop-field.number ms))
          (drop_at fields i f c.loop-field-test.true c.field-item.is))
          (ap (field_walked (json_walk (type_tree_at trees f.1)) c.loop-field.number)
          (sym c.member.ensures)
          ∙ c.in_ok-part.ensures.0)
          ∙ ap (λ vs. before vs (rest c.field_in.new.number))
          (sym (values_push _ _ c.in_ok-part.part c.in_ok-push.ensures.items));
      formed = subst (FieldsFormed (fields_over trees fields)) (sym c.in_ok-push.ensures.items)
          (fields_push trees fields c.loop-field.parts.items i f c.in_ok-part.part
          c.loop-field.invariant.formed c.loop-field.invariant.count c.loop-field-test.true
          c.field-item.is c.in_ok-part.ensures.1);
      count = ap length c.in_ok-push.ensures.items
          ∙ omega (
            arith,
            length_push c.loop-field.parts.items c.in_ok-part.part,
            c.loop-field.invariant.count,
          );
    }

pub sequence_in-returns-then-not-allows : goal.sequence_in-returns-then-not-allows
sequence_in-returns-then-not-allows t c =
    let ty = type_of c.args.schema.now c.args.elem in
    let xs = c.in-Some.items.now.items in
    let long : c.len.result ≡ length c.in-Some.items.now.items =
    omega (arith, c.len.ensures, c.in-Some.items.now.ok.0) in
    refused_walks value_of (IsFormedSequence ty) _ c.take_number-here.new.number
    c.bad-then-not-allows.result _ c.bad-then-not-allows.ensures
    (array_refused (is_byte ty) (json_walk ty) c.args.count c.args.number.now (view c.args.json.now)
    (items_view xs) (sym c.is_byte.ensures ∙ c.if-is_byte.false) (sym c.in-Some.ensures)
    (ap (allows c.args.count) (items_len_is xs ∙ sym long)
    ∙ sym c.allows.ensures ∙ c.if-not-allows.true)
    ∙ ap (λ n. Err (bad_count n)) (sym c.take_number-here.ensures.here))

pub sequence_in-returns-in_err-parts : goal.sequence_in-returns-in_err-parts
sequence_in-returns-in_err-parts t c =
    let ty = type_of c.args.schema.now c.args.elem in
    let xs = c.in-Some.items.now.items in
    let long : c.len.result ≡ length c.in-Some.items.now.items =
    omega (arith, c.len.ensures, c.in-Some.items.now.ok.0) in
    let p = err_from_is_err_and c.from_residual.result c.from_residual.ensures.1 in
    rw (p.1, p.2) (passed_on (λ (vs : Vec Value Global). map value_of vs.items)
    (λ (vs : Vec Value Global). AllByRecursion (IsFormed ty) vs.items)
    (elements_at (json_walk ty) c.take_number-here.new.number (items_view c.as_slice.result.now))
    c.elements_in.new.number c.in_err-parts.field-0.0 value_of (IsFormedSequence ty) _
    c.elements_in.new.number c.in_err-parts.ensures
    (λ f found. array_from (is_byte ty) (json_walk ty) c.args.count c.args.number.now
    c.take_number-here.new.number c.len.result (view c.args.json.now) xs c.as_slice.result.now
    (sym c.is_byte.ensures ∙ c.if-is_byte.false) (sym c.in-Some.ensures) long
    (sym c.allows.ensures ∙ c.if-not-allows.false) c.take_number-here.ensures.behind
    c.as_slice.ensures.value ∙ ap whole_of found))

pub sequence_in-returns : goal.sequence_in-returns
sequence_in-returns t c =
    let ty = type_of c.args.schema.now c.args.elem in
    let xs = c.in-Some.items.now.items in
    let other = sym c.is_byte.ensures ∙ c.if-is_byte.false in
    let long : c.len.result ≡ length c.in-Some.items.now.items =
    omega (arith, c.len.ensures, c.in-Some.items.now.ok.0) in (
      array_from (is_byte ty) (json_walk ty) c.args.count c.args.number.now
          c.take_number-here.new.number c.len.result (view c.args.json.now) xs
          c.as_slice.result.now other (sym c.in-Some.ensures) long
          (sym c.allows.ensures ∙ c.if-not-allows.false) c.take_number-here.ensures.behind
          c.as_slice.ensures.value
          ∙ ap whole_of c.in_ok-parts.ensures.0
          ∙ ap (λ v. Ok (v, c.elements_in.new.number)) (sym (seq_is c.in_ok-parts.parts)),
      seq_formed_alike ty 0 c.in_ok-parts.parts other c.in_ok-parts.ensures.1,
    )

pub container_in-are_fields-requires-clause-count :
    goal.container_in-are_fields-requires-clause-count
container_in-are_fields-requires-clause-count t c =
    let es = c.in-Some.members.now.entries in
    c.len.ensures.len ∙ sym (members_len-members_view es)
    ∙ ap members_len (sym (object_members (view c.args.json.now) (members_view es)
    (sym c.in-Some.ensures)))

pub container_in-are_fields-requires-clause-names :
    goal.container_in-are_fields-requires-clause-names
container_in-are_fields-requires-clause-names t c =
    fields_are_named c.args.schema.now.format c.args.schema.now.trees c.args.fields.now
    c.requires.legal.1

pub container_in-returns-then-not-are_fields : goal.container_in-returns-then-not-are_fields
container_in-returns-then-not-are_fields t c =
    refused_walks value_of
    (IsFormed (container (fields_over c.args.schema.now.trees c.args.fields.now))) _
    c.take_number-here.new.number c.bad-then-not-are_fields.result _
    c.bad-then-not-are_fields.ensures
    (container_refused c.args.schema.now.trees c.args.fields.now c.args.number.now
    (view c.args.json.now) (members_view c.in-Some.members.now.entries) c.are_fields.result
    c.in-Some.ensures c.are_fields.ensures c.if-not-are_fields.true
    ∙ ap (λ n. Err (bad_member n)) (sym c.take_number-here.ensures.here))

pub container_in-fields_in-requires : goal.container_in-fields_in-requires
container_in-fields_in-requires t c =
    let names = fields_are_named c.args.schema.now.format c.args.schema.now.trees
    c.args.fields.now c.requires.legal.1 in
    search rules

pub container_in-returns-in_err-parts : goal.container_in-returns-in_err-parts
container_in-returns-in_err-parts t c =
    let fs = fields_over c.args.schema.now.trees c.args.fields.now in
    let p = err_from_is_err_and c.from_residual.result c.from_residual.ensures.1 in
    rw (p.1, p.2) (passed_on (λ (vs : Vec Value Global). map value_of vs.items)
    (λ (vs : Vec Value Global). FieldsFormed fs vs.items)
    (fields_at fs c.take_number-here.new.number (members_in (view c.args.json.now)))
    c.fields_in.new.number c.in_err-parts.field-0.0 value_of (IsFormed (container fs)) _
    c.fields_in.new.number c.in_err-parts.ensures
    (λ f found. container_from c.args.schema.now.trees c.args.fields.now c.args.number.now
    c.take_number-here.new.number (view c.args.json.now)
    (members_view c.in-Some.members.now.entries) c.are_fields.result
    c.in-Some.ensures c.are_fields.ensures c.if-not-are_fields.false
    c.take_number-here.ensures.behind ∙ ap whole_of found))

pub container_in-returns : goal.container_in-returns
container_in-returns t c =
    let fs = fields_over c.args.schema.now.trees c.args.fields.now in (
      container_from c.args.schema.now.trees c.args.fields.now c.args.number.now
          c.take_number-here.new.number (view c.args.json.now)
          (members_view c.in-Some.members.now.entries) c.are_fields.result
          c.in-Some.ensures c.are_fields.ensures c.if-not-are_fields.false
          c.take_number-here.ensures.behind
          ∙ ap whole_of c.in_ok-parts.ensures.0
          ∙ ap (λ v. Ok (v, c.fields_in.new.number)) (sym (seq_is c.in_ok-parts.parts)),
      seq_formed_fields fs c.in_ok-parts.parts c.in_ok-parts.ensures.1,
    )

pub chosen_in-returns-in_err-inner-in-Some-Some : goal.chosen_in-returns-in_err-inner-in-Some-Some
chosen_in-returns-in_err-inner-in-Some-Some t c =
    let os = options_over c.args.schema.now.trees c.args.options.now in
    let ty = type_of c.args.schema.now c.in-Some-Some.option in
    let here : Some (Some c.in-Some-Some.option)
    ≡ slice_get c.args.options.now c.in-Some.selector =
    ap Some (sym c.in-Some-Some.field-0-is) ∙ sym c.in-Some-Some.is ∙ c.option_at.ensures in
    let p = err_from_is_err_and c.from_residual.result c.from_residual.ensures.1 in
    rw (p.1, p.2) (passed_on value_of (IsFormed ty)
    (json_walk ty c.take_number-here.new.number (view c.in-Some.inner.now))
    c.value_in.new.number c.in_err-inner-in-Some-Some.field-0.0 value_of (IsFormed (union os)) _
    c.value_in.new.number c.in_err-inner-in-Some-Some.ensures
    (λ f found. ap (union_then os c.args.number.now) (sym c.in-Some.ensures)
    ∙ option_some c.args.schema.now.trees c.args.options.now c.in-Some.selector c.in-Some.selector
    c.args.number.now c.in-Some-Some.option (view c.in-Some.inner.now) here
    ∙ ap (λ n. chosen_of c.in-Some.selector (json_walk ty n (view c.in-Some.inner.now)))
    (sym c.take_number-here.ensures.behind)
    ∙ ap (chosen_of c.in-Some.selector) found))

pub chosen_in-returns-in-None : goal.chosen_in-returns-in-None
chosen_in-returns-in-None t c =
    let os = options_over c.args.schema.now.trees c.args.options.now in
    refused_walks value_of (IsFormed (union os)) _ c.take_number-here.new.number
    c.bad-in-None.result _ c.bad-in-None.ensures
    (ap (union_then os c.args.number.now) (sym c.in-Some.ensures)
    ∙ option_past c.args.schema.now.trees c.args.options.now c.in-Some.selector c.in-Some.selector
    c.args.number.now (view c.in-Some.inner.now) (sym c.in-None.is ∙ c.option_at.ensures)
    ∙ ap (λ n. Err (json_bad_selector n)) (sym c.take_number-here.ensures.here))

pub chosen_in-returns-in-Some-None : goal.chosen_in-returns-in-Some-None
chosen_in-returns-in-Some-None t c =
    let os = options_over c.args.schema.now.trees c.args.options.now in
    let here : Some None ≡ slice_get c.args.options.now c.in-Some.selector =
    ap Some (sym c.in-Some-None.field-0-is) ∙ sym c.in-Some-None.is ∙ c.option_at.ensures in
    walks_as value_of IsFormedUnion (IsFormed (union os)) _ _ c.none_in.new.number
    c.none_in.result (λ v formed. formed os)
    (ap (union_then os c.args.number.now) (sym c.in-Some.ensures)
    ∙ option_none c.args.schema.now.trees c.args.options.now c.in-Some.selector c.in-Some.selector
    c.args.number.now (view c.in-Some.inner.now) here
    ∙ ap (λ n. none_at c.in-Some.selector n (view c.in-Some.inner.now))
    (sym c.take_number-here.ensures.behind))
    c.none_in.ensures

pub chosen_in-returns-in_ok-new-in-Some-Some : goal.chosen_in-returns-in_ok-new-in-Some-Some
chosen_in-returns-in_ok-new-in-Some-Some t c =
    let os = options_over c.args.schema.now.trees c.args.options.now in
    let ty = type_of c.args.schema.now c.in-Some-Some.option in
    let k = c.in-Some.selector in
    let box = c.in_ok-new-in-Some-Some.field-0 in
    let is : c.in_ok-new-in-Some-Some.field-0.value ≡ c.in_ok-inner-in-Some-Some.inner =
    c.in_ok-new-in-Some-Some.ensures.ok in
    let here : Some (Some c.in-Some-Some.option)
    ≡ slice_get c.args.options.now c.in-Some.selector =
    ap Some (sym c.in-Some-Some.field-0-is) ∙ sym c.in-Some-Some.is ∙ c.option_at.ensures in (
      ap (union_then os c.args.number.now) (sym c.in-Some.ensures)
          ∙ option_some c.args.schema.now.trees c.args.options.now k k
          c.args.number.now c.in-Some-Some.option (view c.in-Some.inner.now) here
          ∙ ap (λ n. chosen_of k (json_walk ty n (view c.in-Some.inner.now)))
          (sym c.take_number-here.ensures.behind)
          ∙ ap (chosen_of k) c.in_ok-inner-in-Some-Some.ensures.0
          ∙ ap (λ v. Ok (chosen k (value_of v), c.value_in.new.number)) (sym is)
          ∙ ap (λ v. Ok (v, c.value_in.new.number)) (sym (chosen_is k box)),
      chosen_formed c.args.schema.now.trees c.args.options.now k c.in-Some-Some.option box here
          (subst (IsFormed ty) (sym is) c.in_ok-inner-in-Some-Some.ensures.1),
    )

pub value_in-returns-in-Uint : goal.value_in-returns-in-Uint
value_in-returns-in-Uint t c =
    let d = view c.args.json.now in
    leaf_of (type_of c.args.schema.now c.args.id) (uint c.in-Uint.width) c.args.number.now
    c.take_number.result c.take_number.new.number d (λ n. uint_at c.in-Uint.width n d)
    c.number_in.result
    (sym c.ty.ensures.form ∙ ap (tree_over c.args.schema.now.trees) c.in-Uint.is)
    (λ n. refl) (λ v. tt) c.take_number.ensures.here c.take_number.ensures.behind
    c.number_in.ensures

pub value_in-returns-in-Boolean : goal.value_in-returns-in-Boolean
value_in-returns-in-Boolean t c =
    let d = view c.args.json.now in
    leaf_of (type_of c.args.schema.now c.args.id) (boolean) c.args.number.now
    c.take_number-in-Boolean.result c.take_number-in-Boolean.new.number d (λ n. boolean_at n d)
    c.flag_in.result
    (sym c.ty.ensures.form ∙ ap (tree_over c.args.schema.now.trees) c.in-Boolean.is)
    (λ n. refl) (λ v. tt) c.take_number-in-Boolean.ensures.here
    c.take_number-in-Boolean.ensures.behind c.flag_in.ensures

pub value_in-returns-in-Bitvector : goal.value_in-returns-in-Bitvector
value_in-returns-in-Bitvector t c =
    let d = view c.args.json.now in
    leaf_of (type_of c.args.schema.now c.args.id) (bitvector c.in-Bitvector.length)
    c.args.number.now c.take_number-in-Bitvector.result c.take_number-in-Bitvector.new.number d
    (λ n. bits_at (Exactly c.in-Bitvector.length) n d) c.bits_in.result
    (sym c.ty.ensures.form ∙ ap (tree_over c.args.schema.now.trees) c.in-Bitvector.is)
    (λ n. refl) (λ v. tt) c.take_number-in-Bitvector.ensures.here
    c.take_number-in-Bitvector.ensures.behind c.bits_in.ensures

pub value_in-returns-in-Bitlist : goal.value_in-returns-in-Bitlist
value_in-returns-in-Bitlist t c =
    let d = view c.args.json.now in
    leaf_of (type_of c.args.schema.now c.args.id) (bitlist c.in-Bitlist.limit)
    c.args.number.now c.take_number-in-Bitlist.result c.take_number-in-Bitlist.new.number d
    (λ n. bits_at (AtMost c.in-Bitlist.limit) n d) c.bits_in-in-Bitlist.result
    (sym c.ty.ensures.form ∙ ap (tree_over c.args.schema.now.trees) c.in-Bitlist.is)
    (λ n. refl) (λ v. tt) c.take_number-in-Bitlist.ensures.here
    c.take_number-in-Bitlist.ensures.behind c.bits_in-in-Bitlist.ensures

pub value_in-returns-in-Vector : goal.value_in-returns-in-Vector
value_in-returns-in-Vector t c =
    subst (λ (ty : SszType). WalksJson value_of (IsFormed ty)
    (json_walk ty c.args.number.now (view c.args.json.now)) c.sequence_in.new.number
    c.sequence_in.result)
    (sym (sym c.ty.ensures.form ∙ ap (tree_over c.args.schema.now.trees) c.in-Vector.is))
    c.sequence_in.ensures

pub value_in-returns-in-List : goal.value_in-returns-in-List
value_in-returns-in-List t c =
    subst (λ (ty : SszType). WalksJson value_of (IsFormed ty)
    (json_walk ty c.args.number.now (view c.args.json.now)) c.sequence_in-in-List.new.number
    c.sequence_in-in-List.result)
    (sym (sym c.ty.ensures.form ∙ ap (tree_over c.args.schema.now.trees) c.in-List.is))
    c.sequence_in-in-List.ensures

pub value_in-returns-in-Union : goal.value_in-returns-in-Union
value_in-returns-in-Union t c =
    subst (λ (ty : SszType). WalksJson value_of (IsFormed ty)
    (json_walk ty c.args.number.now (view c.args.json.now)) c.chosen_in.new.number
    c.chosen_in.result)
    (sym (sym c.ty.ensures.form ∙ ap (tree_over c.args.schema.now.trees) c.in-Union.is
    ∙ ap (λ ids. union (options_over c.args.schema.now.trees ids)) (sym c.as_slice.ensures.value)))
    c.chosen_in.ensures

pub value_in-returns-in-Container : goal.value_in-returns-in-Container
value_in-returns-in-Container t c =
    subst (λ (ty : SszType). WalksJson value_of (IsFormed ty)
    (json_walk ty c.args.number.now (view c.args.json.now)) c.container_in.new.number
    c.container_in.result)
    (sym (sym c.ty.ensures.form ∙ ap (tree_over c.args.schema.now.trees) c.in-Container.is
    ∙ ap (λ parts. container (fields_over c.args.schema.now.trees parts))
    (sym c.as_slice-in-Container.ensures.value)))
    c.container_in.ensures

pub value_in-chosen_in-requires : goal.value_in-chosen_in-requires
value_in-chosen_in-requires t c =
    let before : AllByRecursion (IsBelow c.args.id) c.as_slice.result.now =
    subst (AllByRecursion (IsBelow c.args.id)) (sym c.as_slice.ensures.value)
    (subst (AreBelow c.args.id) c.in-Union.is c.ty.ensures.before) in
    search rules

pub value_in-container_in-requires : goal.value_in-container_in-requires
value_in-container_in-requires t c =
    let before : AllByRecursion (λ (part : Part). part.1 < c.args.id)
    c.as_slice-in-Container.result.now =
    subst (AllByRecursion (λ (part : Part). part.1 < c.args.id))
    (sym c.as_slice-in-Container.ensures.value)
    (subst (AreBelow c.args.id) c.in-Container.is c.ty.ensures.before) in
    let legal : IsLegal c.args.schema.now.format
    (container (fields_over c.args.schema.now.trees c.as_slice-in-Container.result.now)) =
    subst (IsLegal c.args.schema.now.format)
    (sym c.ty.ensures.form ∙ ap (tree_over c.args.schema.now.trees) c.in-Container.is
    ∙ ap (λ parts. container (fields_over c.args.schema.now.trees parts))
    (sym c.as_slice-in-Container.ensures.value)) c.ty.ensures.legal in
    search rules

pub fields_in-returns-in_err-part : goal.fields_in-returns-in_err-part
fields_in-returns-in_err-part t c =
    let trees = c.args.schema.now.trees in
    let fields = c.args.fields.now in
    let i = c.loop-field.field-index in
    let f = c.field-item.result in
    let ms = members_in (view c.args.json.now) in
    let done = map value_of c.loop-field.parts.items in
    let rest = λ (m : ℕ). fields_at (fields_over trees (drop (i + 1) fields)) m ms in
    let p = err_from_is_err_and c.from_residual-in_err-part.result
    c.from_residual-in_err-part.ensures.1 in
    rw (p.1, p.2) (passed_on value_of (IsFormed (type_tree_at trees f.1)) _ c.field_in.new.number
    c.in_err-part.field-0.0 (λ (vs : Vec Value Global). map value_of vs.items)
    (λ (vs : Vec Value Global). FieldsFormed (fields_over trees fields) vs.items) _
    c.field_in.new.number c.in_err-part.ensures
    (λ fault found. then_found _ done
    (field_walked (json_walk (type_tree_at trees f.1)) c.loop-field.number (get_member f.0 ms)) rest
    fault
    (c.loop-field.invariant.walked
    ∙ ap (λ ps. before done (fields_at (fields_over trees ps) c.loop-field.number ms))
    (drop_at fields i f c.loop-field-test.true c.field-item.is))
    (ap (field_walked (json_walk (type_tree_at trees f.1)) c.loop-field.number)
    (sym c.member.ensures)
    ∙ found)))
