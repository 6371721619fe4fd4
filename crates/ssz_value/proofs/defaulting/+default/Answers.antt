use Rattle.std.proofs.Common.{◌∙◌, ◌≡◌, ap, sym, subst, arith, rules, Some, slice_get, map, replicate}
use Rattle.ssz_schema.specs.Types.{SszType, vector}
use Rattle.ssz_schema.specs.Unfolding.{type_of, options_over, fields_over}
use Rattle.ssz_value.specs.declared.value.Value.TheVariants.{Bytes}
use Rattle.ssz_value.specs.Standing.{value_of, IsFormed}
use Rattle.ssz_value.specs.Values.{chosen, sequence, values, number}
use Rattle.ssz_value.specs.Defaults.{default_of}
use Rattle.ssz_value.proofs.ValueLemmas.{seq_is, bytes_are, chosen_is, chosen_none_is}
use Rattle.ssz_value.proofs.FormLemmas.{byte_type, bytes_are_formed, seq_formed_alike, seq_formed_fields, chosen_formed, none_formed}
use Rattle.ssz_value.proofs.DefaultLemmas.{zero_bytes, FieldDefaults-more, FieldDefaults-end, union_default, union_default_none, union_default_empty}
use Rattle.ssz_value.proofs.defaulting.+default.Goals as goal

pub default_container-loop-field-preserved : goal.default_container-loop-field-preserved
default_container-loop-field-preserved t c =
    FieldDefaults-more c.args.schema.now.trees c.args.fields.now c.loop-field.field-index
    c.loop-field.parts.items c.push.new.self.items c.field-item.result c.in_ok-part.part
    c.loop-field.invariant c.loop-field-test.true c.field-item.is c.in_ok-part.ensures
    c.in_ok-push.ensures.items

pub default_container-returns : goal.default_container-returns
default_container-returns t c = record {
  value = seq_is c.loop-field.parts
      ∙ ap (λ vs. sequence (values vs))
      (FieldDefaults-end c.args.schema.now.trees c.args.fields.now c.loop-field.field-index
      c.loop-field.parts.items c.loop-field.invariant (omega arith));
  formed = seq_formed_fields
      (fields_over c.args.schema.now.trees c.args.fields.now) c.loop-field.parts
      c.loop-field.invariant.formed;
}

pub default_sequence-returns : goal.default_sequence-returns
default_sequence-returns t c =
    let all : c.loop-i._i ≡ c.args.count = omega arith in
    record {
      value = seq_is c.loop-i.parts
          ∙ ap (λ vs. sequence (values vs)) (c.loop-i.invariant.value
          ∙ ap (λ n. replicate n (default_of (type_of c.args.schema.now c.args.elem))) all);
      formed = seq_formed_alike (type_of c.args.schema.now c.args.elem) c.args.count c.loop-i.parts
          (sym c.is_byte.ensures ∙ c.if-is_byte.false) c.loop-i.invariant.formed;
    }

pub default_sequence-returns-then-is_byte : goal.default_sequence-returns-then-is_byte
default_sequence-returns-then-is_byte t c =
    let byte = byte_type (type_of c.args.schema.now c.args.elem) (sym c.is_byte.ensures
    ∙ c.if-is_byte.true) in
    let items : c.in_ok-bytes.bytes.items ≡ replicate c.args.count 0 = search rules in
    record {
      value = bytes_are c.from_bytes.result
          ∙ ap (λ bytes. sequence (values (map number bytes))) (c.from_bytes.ensures ∙ items)
          ∙ ap (λ vs. sequence (values vs)) (zero_bytes c.args.count)
          ∙ ap (λ ty. sequence (values (replicate c.args.count (default_of ty)))) (sym byte);
      formed = subst (λ (ty : SszType).
          IsFormed (vector ty c.args.count) (Bytes c.from_bytes.result)) (sym byte)
          (bytes_are_formed c.args.count c.from_bytes.result);
    }

pub default_union-returns-in_ok-new-in-Some-Some : goal.default_union-returns-in_ok-new-in-Some-Some
default_union-returns-in_ok-new-in-Some-Some t c =
    let here : Some (Some c.in-Some-Some.option) ≡ slice_get c.args.options.now 0 =
    ap Some (sym c.in-Some-Some.field-0-is) ∙ c.in-Some-Some.ensures in
    record {
      value = chosen_is 0 c.in_ok-new-in-Some-Some.field-0
          ∙ ap (λ v. chosen 0 (value_of v)) c.in_ok-new-in-Some-Some.ensures.ok
          ∙ ap (chosen 0) c.in_ok-inner-in-Some-Some.ensures.value
          ∙ sym (union_default c.args.schema.now.trees c.args.options.now c.in-Some-Some.option
          here);
      formed = chosen_formed c.args.schema.now.trees c.args.options.now 0 c.in-Some-Some.option
          c.in_ok-new-in-Some-Some.field-0 here
          (subst (IsFormed (type_of c.args.schema.now c.in-Some-Some.option))
          (sym c.in_ok-new-in-Some-Some.ensures.ok) c.in_ok-inner-in-Some-Some.ensures.formed);
    }

pub default_union-returns-in-Some-None : goal.default_union-returns-in-Some-None
default_union-returns-in-Some-None t c =
    record {
      value = chosen_none_is 0
          ∙ sym (union_default_none c.args.schema.now.trees c.args.options.now
          (ap Some (sym c.in-Some-None.field-0-is) ∙ c.in-Some-None.ensures));
      formed = none_formed (options_over c.args.schema.now.trees c.args.options.now) 0;
    }

pub default_union-returns-in-None : goal.default_union-returns-in-None
default_union-returns-in-None t c =
    record {
      value = chosen_none_is 0
          ∙ sym (union_default_empty c.args.schema.now.trees c.args.options.now c.in-None.ensures);
      formed = none_formed (options_over c.args.schema.now.trees c.args.options.now) 0;
    }
