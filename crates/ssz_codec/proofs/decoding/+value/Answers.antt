use Rattle.std.proofs.Common.{rules, ◌≡◌, ◌∙◌, ◌+◌, ◌-◌, ◌<◌, ◌≤◌, ◌^◌, ◌++◌, [], ◌∷◌, ℕ, List, length, map, take, drop, get_or, slice_range, Some, None, Option, IfOk, OnOk, sym, ap, ap₂, subst, arith}
use Rattle.std.specs.List.{AllByRecursion}
use Rattle.std.proofs.lemmas.List.{take_rest, take_all, length_push}
use Rattle.ssz_schema.specs.Types.{SszType, uint, container, vector}
use Rattle.ssz_schema.specs.Sizes.{byte_count, fixed_size, head_size}
use Rattle.ssz_schema.specs.Legal.{IsLegal}
use Rattle.ssz_schema.specs.Unfolding.{type_of, type_tree_at, tree_over, AreBelow, fields_over, options_over}
use Rattle.ssz_schema.proofs.SizeLemmas.{vector_few}
use Rattle.ssz_value.specs.Values.{chosen, sequence, values}
use Rattle.ssz_value.specs.Faults.{first_fault, elements_fault}
use Rattle.ssz_value.specs.Reading.{value_in, elements_in}
use Rattle.ssz_value.specs.Standing.{value_of, Stands, IsFormed, FieldsFormed}
use Rattle.ssz_value.specs.Shapes.{StandsBehind}
use Rattle.ssz_value.proofs.Agree.{IsInput-range}
use Rattle.ssz_value.proofs.Inputs.{input_of}
use Rattle.ssz_value.proofs.OptionLemmas.{option_below}
use Rattle.ssz_value.proofs.PartLemmas.{known_weaker, part_known, values_push}
use Rattle.ssz_value.proofs.ValueLemmas.{chosen_is, chosen_none_is}
use Rattle.ssz_value.proofs.FormLemmas.{formed_push, chosen_formed, no_fields_formed, fields_push, none_formed}
use Rattle.ssz_parts.specs.PartValues.{element_values}
use Rattle.ssz_parts.proofs.ElementLemmas.{element_faultless, length-elements_in, take-map-more}
use Rattle.ssz_parts.proofs.ElementValues.{length-element_values}
use Rattle.ssz_parts.proofs.Faultless.{container_faultless}
use Rattle.ssz_parts.proofs.FieldLemmas.{FieldsFrom, FieldsFrom-start, FieldsFrom-more}
use Rattle.ssz_parts.proofs.UnionValues.{union_chosen}
use Rattle.ssz_codec.proofs.ReadLemmas.{FieldsRead, FieldsRead-start, FieldsRead-more}
use Rattle.ssz_codec.proofs.OptionLemmas.{union_value, union_no_value}
use Rattle.ssz_codec.proofs.CleanLemmas.{field_clean, elements_length, of_bytes, option_clean, option_there}
use Rattle.ssz_codec.proofs.decoding.+value.Goals as goal

pub chosen-value-requires : goal.chosen-value-requires
chosen-value-requires t c =
    let b = c.args.bytes.now in
    let at = ap Some (sym c.in-Some-Some.field-0-is) ∙ c.in-Some-Some.ensures in
    let some = (union_chosen c.args.schema.now.trees c.args.options.now b c.requires.faultless).some
    in
    let below : c.in-Some-Some.option < c.args.id =
    option_below c.args.options.now _ c.in-Some-Some.option c.args.id at c.requires.before in
    let clean = option_clean c.args.schema.now.format c.args.schema.now.trees c.args.options.now
    c.in-Some-Some.option b at c.ty-legal.ensures.legal
    (input_of b c.type_inv.bytes c.requires.short) c.requires.faultless in
    let none : first_fault (type_of c.args.schema.now c.in-Some-Some.option) 0
    (take (length c.args.bytes.now - 1) (drop 1 c.args.bytes.now)) ≡ None =
    subst (λ (bytes : List ℕ).
    first_fault (type_of c.args.schema.now c.in-Some-Some.option) 0 bytes ≡ None)
    (sym (take_rest b 1)) clean in
    search rules

pub chosen-unreachable-requires : goal.chosen-unreachable-requires
chosen-unreachable-requires t c =
    option_there c.args.schema.now.trees c.args.options.now c.args.bytes.now
    (sym c.in-None.is ∙ c.option_at.ensures) c.requires.faultless

pub chosen-returns-in_ok-new-in-Some-Some : goal.chosen-returns-in_ok-new-in-Some-Some
chosen-returns-in_ok-new-in-Some-Some t c =
    let b = c.args.bytes.now in
    let at = ap Some (sym c.in-Some-Some.field-0-is) ∙ c.in-Some-Some.ensures in
    let some = (union_chosen c.args.schema.now.trees c.args.options.now b c.requires.faultless).some
    in
    record {
      value = chosen_is (get_or c.args.bytes.now 0 0) c.in_ok-new-in-Some-Some.field-0
          ∙ ap (λ v. chosen (get_or c.args.bytes.now 0 0) (value_of v))
          c.in_ok-new-in-Some-Some.ensures.ok
          ∙ ap (chosen (get_or c.args.bytes.now 0 0)) (c.in_ok-inner-in-Some-Some.ensures.value
          ∙ ap (value_in (type_of c.args.schema.now c.in-Some-Some.option))
          (take_rest c.args.bytes.now 1))
          ∙ sym (union_value c.args.schema.now.trees c.args.options.now c.in-Some-Some.option
          c.args.bytes.now some at);
      formed = chosen_formed c.args.schema.now.trees c.args.options.now
          (get_or c.args.bytes.now 0 0) c.in-Some-Some.option c.in_ok-new-in-Some-Some.field-0
          at (subst (IsFormed (type_of c.args.schema.now c.in-Some-Some.option))
          (sym c.in_ok-new-in-Some-Some.ensures.ok) c.in_ok-inner-in-Some-Some.ensures.formed);
    }

pub chosen-returns-in-Some-None : goal.chosen-returns-in-Some-None
chosen-returns-in-Some-None t c =
    let b = c.args.bytes.now in
    let at = ap Some (sym c.in-Some-None.field-0-is) ∙ c.in-Some-None.ensures in
    let some = (union_chosen c.args.schema.now.trees c.args.options.now b c.requires.faultless).some
    in
    record {
      value = chosen_none_is (get_or c.args.bytes.now 0 0)
          ∙ sym (union_no_value c.args.schema.now.trees c.args.options.now c.args.bytes.now some
          at);
      formed = none_formed (options_over c.args.schema.now.trees c.args.options.now)
          (get_or c.args.bytes.now 0 0);
    }

pub container-loop-i-init : goal.container-loop-i-init
container-loop-i-init t c = record {
  faultless = FieldsFrom-start c.args.schema.now.trees c.args.fields.now 0 c.args.bytes.now
      (container_faultless c.args.schema.now.trees c.args.fields.now c.args.bytes.now
      c.requires.faultless).head;
  read = subst (FieldsRead c.args.schema.now.trees c.args.fields.now c.args.bytes.now 0 0)
      (sym (ap (map value_of) c.in_ok-parts.ensures.items))
      (FieldsRead-start c.args.schema.now.trees c.args.fields.now c.args.bytes.now);
  formed = subst (FieldsFormed (fields_over c.args.schema.now.trees c.args.fields.now))
      (sym c.in_ok-parts.ensures.items)
      (no_fields_formed (fields_over c.args.schema.now.trees c.args.fields.now));
  items = ap length c.in_ok-parts.ensures.items;
  count = c.in_ok-parts.ensures.len;
  room = c.in_ok-parts.ensures.capacity;
}

pub
    container-field_range-from-requires-clause-known :
    goal.container-field_range-from-requires-clause-known
container-field_range-from-requires-clause-known t c =
    known_weaker c.args.id (length c.args.schema.now.trees) c.args.fields.now c.requires.known
    c.requires.before

pub container-put_field-requires : goal.container-put_field-requires
container-put_field-requires t c =
    let b = c.args.bytes.now in
    let input = input_of b c.type_inv.bytes c.requires.short in
    let below : c.index-fields-i.result.1 < c.args.id =
    part_known c.args.id c.args.fields.now c.loop-i.i c.index-fields-i.result c.loop-i-test.true
    c.index-fields-i.is c.requires.before in
    let clean = field_clean c.args.schema.now.format c.args.schema.now.trees c.args.fields.now b
    c.loop-i.i c.loop-i.place c.field_range-from.result.0 c.field_range-from.result.1
    c.index-fields-i.result c.loop-i.invariant.faultless c.loop-i-test.true c.index-fields-i.is
    c.field_range-from.ensures c.ty-legal.ensures.legal input c.requires.faultless in
    let none : first_fault (type_of c.args.schema.now c.index-fields-i.result.1) 0
    (slice_range c.args.bytes.now c.field_range-from.result.0 c.field_range-from.result.1) ≡ None =
    clean.none in
    let short : length (slice_range c.args.bytes.now c.field_range-from.result.0
    c.field_range-from.result.1) < 2 ^ 32 =
    (IsInput-range b c.field_range-from.result.0 c.field_range-from.result.1 input).short in
    search rules

pub container-loop-i-preserved : goal.container-loop-i-preserved
container-loop-i-preserved t c =
    let b = c.args.bytes.now in
    let input = input_of b c.type_inv.bytes c.requires.short in
    let clean = field_clean c.args.schema.now.format c.args.schema.now.trees c.args.fields.now b
    c.loop-i.i c.loop-i.place c.field_range-from.result.0 c.field_range-from.result.1
    c.index-fields-i.result c.loop-i.invariant.faultless c.loop-i-test.true c.index-fields-i.is
    c.field_range-from.ensures c.ty-legal.ensures.legal input c.requires.faultless in
    let size : head_size (fixed_size
    (type_tree_at c.args.schema.now.trees c.index-fields-i.result.1))
    ≡ c.head_len-head.result =
    sym (c.head_len-head.ensures ∙ ap head_size c.fixed_size.ensures.exact) in
    let next = ap (λ n. c.loop-i.place + n) size in
    record {
      faultless = subst (FieldsFrom c.args.schema.now.trees c.args.fields.now 0
          c.args.bytes.now (c.loop-i.i + 1)) next
          (FieldsFrom-more c.args.schema.now.trees c.args.fields.now 0 c.args.bytes.now
          c.loop-i.i c.loop-i.place c.field_range-from.result.0 c.field_range-from.result.1
          c.index-fields-i.result
          c.loop-i.invariant.faultless c.loop-i-test.true c.index-fields-i.is
          c.field_range-from.ensures clean.here);
      read = subst (λ (place : ℕ).
          FieldsRead c.args.schema.now.trees c.args.fields.now c.args.bytes.now
          (c.loop-i.i + 1) place (map value_of c.put_field.new.parts.items)) next
          (subst (FieldsRead c.args.schema.now.trees c.args.fields.now c.args.bytes.now
          (c.loop-i.i + 1) (c.loop-i.place + head_size
          (fixed_size (type_tree_at c.args.schema.now.trees c.index-fields-i.result.1))))
          (sym (values_push _ _ c.in_ok-put_field.ensures.put.value
          c.in_ok-put_field.ensures.put.items))
          (FieldsRead-more c.args.schema.now.trees c.args.fields.now c.args.bytes.now c.loop-i.i
          c.loop-i.place c.field_range-from.result.0 c.field_range-from.result.1
          c.index-fields-i.result _ _
          c.loop-i.invariant.read c.loop-i-test.true c.index-fields-i.is c.field_range-from.ensures
          c.in_ok-put_field.ensures.put.stands.value));
      formed = subst (FieldsFormed (fields_over c.args.schema.now.trees c.args.fields.now))
          (sym c.in_ok-put_field.ensures.put.items)
          (fields_push c.args.schema.now.trees c.args.fields.now c.loop-i.parts.items c.loop-i.i
          c.index-fields-i.result c.in_ok-put_field.ensures.put.value c.loop-i.invariant.formed
          c.loop-i.invariant.items c.loop-i-test.true c.index-fields-i.is
          c.in_ok-put_field.ensures.put.stands.formed);
      items = ap length c.in_ok-put_field.ensures.put.items
          ∙ length_push c.loop-i.parts.items c.in_ok-put_field.ensures.put.value
          ∙ ap (λ n. n + 1) c.loop-i.invariant.items;
      count = omega (arith, c.in_ok-put_field.ensures.len, c.loop-i.invariant.count);
      room = omega (arith, c.in_ok-put_field.ensures.capacity, c.loop-i.invariant.room);
    }

pub elements-returns-then-is_byte : goal.elements-returns-then-is_byte
elements-returns-then-is_byte t c =
    of_bytes (type_of c.args.schema.now c.args.elem) c.args.count c.args.bytes.now
    (λ (ty : SszType) (n : ℕ). IfOk c.bytes_run.result
    (Stands (vector ty n) (sequence (values (element_values ty n c.args.bytes.now)))))
    (sym c.is_byte.ensures ∙ c.if-is_byte.true) c.requires.faultless c.bytes_run.ensures

pub parts_of-numbers-requires-clause-exact : goal.parts_of-numbers-requires-clause-exact
parts_of-numbers-requires-clause-exact t c =
    let is : type_of c.args.schema.now c.args.elem ≡ uint c.in-Uint.width =
    sym c.ty.ensures.form ∙ ap (tree_over c.args.schema.now.trees) c.in-Uint.is in
    let size : fixed_size (type_of c.args.schema.now c.args.elem)
    ≡ Some (byte_count c.in-Uint.width) = ap fixed_size is in
    elements_length (type_of c.args.schema.now c.args.elem) (byte_count c.in-Uint.width)
    c.args.count c.args.bytes.now size c.requires.faultless

pub others-put_field-requires : goal.others-put_field-requires
others-put_field-requires t c =
    let ty = type_of c.args.schema.now c.args.elem in
    let input = input_of c.args.bytes.now c.type_inv.bytes c.requires.short in
    let good = element_faultless _ ty c.ty-legal.ensures.legal (fixed_size ty) c.args.count
    c.args.bytes.now c.loop-i.i input c.requires.faultless c.loop-i-test.true in
    let is = c.element_at-part.ensures ∙ ap (λ (size : Option ℕ). get_or
    (elements_in size c.args.count c.args.bytes.now) c.loop-i.i
    (let none : List ℕ = [] in none)) c.fixed_size-size.ensures.exact in
    let none : first_fault (type_of c.args.schema.now c.args.elem) 0 c.element_at-part.result.now
    ≡ None =
    subst (λ (b : List ℕ). first_fault ty 0 b ≡ None) (sym is) good.none in
    let short : length c.element_at-part.result.now < 2 ^ 32 =
    subst (λ (b : List ℕ). length b < 2 ^ 32) (sym is) good.input.short in
    search rules

pub others-loop-i-preserved : goal.others-loop-i-preserved
others-loop-i-preserved t c =
    let ty = type_of c.args.schema.now c.args.elem in
    let all = elements_in (fixed_size ty) c.args.count c.args.bytes.now in
    let is = c.element_at-part.ensures ∙ ap (λ (size : Option ℕ). get_or
    (elements_in size c.args.count c.args.bytes.now) c.loop-i.i
    (let none : List ℕ = [] in none)) c.fixed_size-size.ensures.exact in
    let within : c.loop-i.i < length all = omega (
      arith,
      length-elements_in (fixed_size ty) c.args.count c.args.bytes.now,
      c.loop-i-test.true,
    ) in
    record {
      read = values_push _ _ c.in_ok-put_field.ensures.put.value c.in_ok-put_field.ensures.put.items
          ∙ ap₂ (λ vs w. vs ++ w ∷ []) c.loop-i.invariant.read
          (c.in_ok-put_field.ensures.put.stands.value ∙ ap (value_in ty) is)
          ∙ sym (take-map-more (value_in ty) all c.loop-i.i within);
      formed = subst (AllByRecursion (IsFormed ty)) (sym c.in_ok-put_field.ensures.put.items)
          (formed_push ty c.loop-i.parts.items c.in_ok-put_field.ensures.put.value
          c.loop-i.invariant.formed c.in_ok-put_field.ensures.put.stands.formed);
      count = omega (arith, c.in_ok-put_field.ensures.len, c.loop-i.invariant.count);
      room = omega (arith, c.in_ok-put_field.ensures.capacity, c.loop-i.invariant.room);
    }

pub others-returns : goal.others-returns
others-returns t c =
    let ty = type_of c.args.schema.now c.args.elem in
    let many = length-element_values ty c.args.count c.args.bytes.now in
    record {
      value = c.loop-i.invariant.read
          ∙ take_all c.loop-i.i (element_values ty c.args.count c.args.bytes.now)
          (omega (arith, many));
      formed = c.loop-i.invariant.formed;
    }

pub parts_of-containers-requires : goal.parts_of-containers-requires
parts_of-containers-requires t c =
    let P : List (List ℕ × ℕ) → Type 0 =
    AllByRecursion (λ (part : List ℕ × ℕ). part.1 < c.args.elem) in
    let all : P c.in-Container.fields.items =
    subst (AreBelow c.args.elem) c.in-Container.is c.ty.ensures.before in
    let known : P c.as_slice.result.now =
    subst P (sym c.as_slice.ensures.value) all in
    let form : type_of c.args.schema.now c.args.elem
    ≡ container (fields_over c.args.schema.now.trees c.as_slice.result.now) =
    sym c.ty.ensures.form ∙ ap (tree_over c.args.schema.now.trees) c.in-Container.is
    ∙ ap (λ fs. container (fields_over c.args.schema.now.trees fs))
    (sym c.as_slice.ensures.value) in
    search rules

pub containers-put_container-requires : goal.containers-put_container-requires
containers-put_container-requires t c =
    let ty = type_of c.args.schema.now c.args.id in
    let input = input_of c.args.bytes.now c.type_inv.bytes c.requires.short in
    let good = element_faultless _ ty c.ty-legal.ensures.legal (fixed_size ty) c.args.count
    c.args.bytes.now c.loop-i.i input c.requires.faultless c.loop-i-test.true in
    let is = c.element_at-inner.ensures ∙ ap (λ (size : Option ℕ). get_or
    (elements_in size c.args.count c.args.bytes.now) c.loop-i.i
    (let none : List ℕ = [] in none)) c.fixed_size-size.ensures.exact in
    let none : first_fault (type_of c.args.schema.now c.args.id) 0 c.element_at-inner.result.now
    ≡ None =
    subst (λ (b : List ℕ). first_fault ty 0 b ≡ None) (sym is) good.none in
    let short : length c.element_at-inner.result.now < 2 ^ 32 =
    subst (λ (b : List ℕ). length b < 2 ^ 32) (sym is) good.input.short in
    search rules

pub containers-loop-i-preserved : goal.containers-loop-i-preserved
containers-loop-i-preserved t c =
    let ty = type_of c.args.schema.now c.args.id in
    let all = elements_in (fixed_size ty) c.args.count c.args.bytes.now in
    let is = c.element_at-inner.ensures ∙ ap (λ (size : Option ℕ). get_or
    (elements_in size c.args.count c.args.bytes.now) c.loop-i.i
    (let none : List ℕ = [] in none)) c.fixed_size-size.ensures.exact in
    let within : c.loop-i.i < length all = omega (
      arith,
      length-elements_in (fixed_size ty) c.args.count c.args.bytes.now,
      c.loop-i-test.true,
    ) in
    record {
      read = values_push _ _ c.in_ok-put_container.ensures.put.value
          c.in_ok-put_container.ensures.put.items
          ∙ ap₂ (λ vs w. vs ++ w ∷ []) c.loop-i.invariant.read
          (c.in_ok-put_container.ensures.put.stands.value ∙ ap (value_in ty) is)
          ∙ sym (take-map-more (value_in ty) all c.loop-i.i within);
      formed = subst (AllByRecursion (IsFormed ty)) (sym c.in_ok-put_container.ensures.put.items)
          (formed_push ty c.loop-i.parts.items c.in_ok-put_container.ensures.put.value
          c.loop-i.invariant.formed c.in_ok-put_container.ensures.put.stands.formed);
      count = omega (arith, c.in_ok-put_container.ensures.len, c.loop-i.invariant.count);
      room = omega (arith, c.in_ok-put_container.ensures.capacity, c.loop-i.invariant.room);
    }

pub containers-returns : goal.containers-returns
containers-returns t c =
    let ty = type_of c.args.schema.now c.args.id in
    let many = length-element_values ty c.args.count c.args.bytes.now in
    record {
      value = c.loop-i.invariant.read
          ∙ take_all c.loop-i.i (element_values ty c.args.count c.args.bytes.now)
          (omega (arith, many));
      formed = c.loop-i.invariant.formed;
    }

pub put_container-container-requires : goal.put_container-container-requires
put_container-container-requires t c =
    let none : first_fault (container (fields_over c.args.schema.now.trees c.args.fields.now)) 0
    c.args.bytes.now ≡ None =
    subst (λ (ty : SszType). first_fault ty 0 c.args.bytes.now ≡ None) c.requires.form
    c.requires.faultless in
    search rules

pub put_field-returns-then-is_byte-clause-put : goal.put_field-returns-then-is_byte-clause-put
put_field-returns-then-is_byte-clause-put t c =
    let b = c.args.bytes.now in
    let is = sym c.ty.ensures.form ∙ ap (tree_over c.args.schema.now.trees) c.in-Vector.is in
    let clean : elements_fault (first_fault (type_of c.args.schema.now c.in-Vector.elem))
    (fixed_size (type_of c.args.schema.now c.in-Vector.elem)) c.in-Vector.field-1 0
    c.args.bytes.now ≡ None =
    subst (λ (ty : SszType). first_fault ty 0 b ≡ None) is c.requires.faultless in
    subst (λ (ty : SszType). OnOk c.put_bytes.result (StandsBehind ty (value_in ty b)
    c.args.parts.now.items c.put_bytes.new.parts.items)) (sym is)
    (of_bytes (type_of c.args.schema.now c.in-Vector.elem) c.in-Vector.field-1 b
    (λ (ty : SszType) (n : ℕ). OnOk c.put_bytes.result (StandsBehind (vector ty n)
    (sequence (values (element_values ty n b))) c.args.parts.now.items
    c.put_bytes.new.parts.items))
    (sym c.is_byte.ensures ∙ c.if-is_byte.true) clean c.put_bytes.ensures.put)

pub value-elements-requires : goal.value-elements-requires
value-elements-requires t c =
    let is = sym c.ty.ensures.form ∙ ap (tree_over c.args.schema.now.trees) c.in-Vector.is in
    let few : c.in-Vector.count ≤ 2 ^ 24 =
    vector_few c.args.schema.now.format
    (type_tree_at c.args.schema.now.trees c.in-Vector.elem) c.in-Vector.count
    (subst (IsLegal c.args.schema.now.format) is c.ty.ensures.legal) in
    let none : elements_fault (first_fault (type_of c.args.schema.now c.in-Vector.elem))
    (fixed_size (type_of c.args.schema.now c.in-Vector.elem)) c.in-Vector.count 0
    c.args.bytes.now ≡ None =
    subst (λ (ty : SszType). first_fault ty 0 c.args.bytes.now ≡ None) is c.requires.faultless in
    search rules

pub value-container-requires : goal.value-container-requires
value-container-requires t c =
    let P : List (List ℕ × ℕ) → Type 0 =
    AllByRecursion (λ (part : List ℕ × ℕ). part.1 < c.args.id) in
    let all : P c.in-Container.fields.items =
    subst (AreBelow c.args.id) c.in-Container.is c.ty.ensures.before in
    let known : P c.as_slice-in-Container.result.now =
    subst P (sym c.as_slice-in-Container.ensures.value) all in
    let form : type_of c.args.schema.now c.args.id
    ≡ container (fields_over c.args.schema.now.trees c.as_slice-in-Container.result.now) =
    sym c.ty.ensures.form ∙ ap (tree_over c.args.schema.now.trees) c.in-Container.is
    ∙ ap (λ fs. container (fields_over c.args.schema.now.trees fs))
    (sym c.as_slice-in-Container.ensures.value) in
    let none : first_fault (container (fields_over c.args.schema.now.trees
    c.as_slice-in-Container.result.now)) 0 c.args.bytes.now ≡ None =
    subst (λ (ty : SszType). first_fault ty 0 c.args.bytes.now ≡ None) form c.requires.faultless in
    search rules
