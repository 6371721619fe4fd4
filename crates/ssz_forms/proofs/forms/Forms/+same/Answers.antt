use Rattle.std.proofs.Common.{◌<◌, sym, ap, ◌∙◌, subst, arith, rules}
use Rattle.std.specs.List.{AllByRecursion}
use Rattle.std.proofs.lemmas.Bool.{eqb-true}
use Rattle.ssz_schema.specs.Unfolding.{type_of, AreBelow, IsBelow}
use Rattle.ssz_value.proofs.PartLemmas.{Part, part_known}
use Rattle.ssz_forms.specs.SameType.{same_type}
use Rattle.ssz_forms.proofs.Comparing.{fields_unlike, options_unlike, FieldsFrom-more, FieldsFrom-types, FieldsFrom-end, OptionsFrom-more, OptionsFrom-other, OptionsFrom-end, option_below}
use Rattle.ssz_forms.proofs.Kept.{known_answer}
use Rattle.ssz_forms.proofs.TypesAlike.{same_number}
use Rattle.ssz_forms.proofs.forms.Forms.+same.Goals as goal

pub fields_same-returns-then-fields-others : goal.fields_same-returns-then-fields-others
fields_same-returns-then-fields-others t c = record {
  answer = sym (fields_unlike c.args.schema.now.trees c.args.fields.now c.args.others.now
      (λ e. omega arith));
  right = c.requires.right;
}

pub options_same-returns-then-options-others : goal.options_same-returns-then-options-others
options_same-returns-then-options-others t c = record {
  answer = sym (options_unlike c.args.schema.now.trees c.args.options.now c.args.others.now
      (λ e. omega arith));
  right = c.requires.right;
}

pub same-returns-then-eq : goal.same-returns-then-eq
same-returns-then-eq t c = record {
  answer = sym (same_number (type_of c.args.schema.now c.args.first)
      (type_of c.args.schema.now c.args.second) (ap (type_of c.args.schema.now)
      (eqb-true c.args.first c.args.second (sym c.eq.ensures ∙ c.if-eq.true))));
  right = c.requires.right;
}

pub same-returns-in-Some : goal.same-returns-in-Some
same-returns-in-Some t c = record {
  answer = known_answer c.find.result c.in-Some.same
      (same_type (type_of c.args.schema.now c.args.first)
      (type_of c.args.schema.now c.args.second))
      c.in-Some.is (c.find.ensures c.args.schema.now c.requires.right);
  right = c.requires.right;
}

pub compare-is_container-requires : goal.compare-is_container-requires
compare-is_container-requires t c =
    let before : AllByRecursion (λ (part : Part). part.1 < c.args.first) c.as_slice.result.now =
    subst (AllByRecursion (λ (part : Part). part.1 < c.args.first)) (sym c.as_slice.ensures.value)
    (subst (AreBelow c.args.first) c.in-Container.is c.ty.ensures.before) in
    search rules

pub is_container-fields_same-requires : goal.is_container-fields_same-requires
is_container-fields_same-requires t c =
    let before : AllByRecursion (λ (part : Part). part.1 < c.args.id) c.as_slice.result.now =
    subst (AllByRecursion (λ (part : Part). part.1 < c.args.id)) (sym c.as_slice.ensures.value)
    (subst (AreBelow c.args.id) c.in-Container.is c.ty.ensures.before) in
    search rules

pub fields_same-same-requires : goal.fields_same-same-requires
fields_same-same-requires t c =
    let field : c.index-fields-i.result.1 < c.args.bound =
    part_known c.args.bound c.args.fields.now c.loop-i.i c.index-fields-i.result
    c.loop-i-test.true c.index-fields-i.is c.requires.before in
    let other : c.index-others-i.result.1 < c.args.limit =
    part_known c.args.limit c.args.others.now c.loop-i.i c.index-others-i.result
    (omega arith) c.index-others-i.is c.requires.others in
    search rules

pub fields_same-returns-then-not-same : goal.fields_same-returns-then-not-same
fields_same-returns-then-not-same t c = record {
  answer = sym (FieldsFrom-types c.args.schema.now.trees c.args.fields.now c.args.others.now
      c.loop-i.i c.index-fields-i.result c.index-others-i.result c.loop-i.invariant.0
      c.loop-i-test.true (omega arith) c.index-fields-i.is c.index-others-i.is (search rules)
      (sym c.in_ok-same.ensures.answer ∙ c.if-not-same.true));
  right = c.same.ensures.right;
}

pub fields_same-loop-i-preserved : goal.fields_same-loop-i-preserved
fields_same-loop-i-preserved t c = (
  FieldsFrom-more c.args.schema.now.trees c.args.fields.now c.args.others.now c.loop-i.i
      c.index-fields-i.result c.index-others-i.result c.loop-i.invariant.0
      c.loop-i-test.true (omega arith) c.index-fields-i.is c.index-others-i.is (search rules)
      (sym c.in_ok-same.ensures.answer ∙ c.if-not-same.false),
  c.same.ensures.right,
)

pub fields_same-returns : goal.fields_same-returns
fields_same-returns t c = record {
  answer = sym (FieldsFrom-end c.args.schema.now.trees c.args.fields.now c.args.others.now
      c.loop-i.i c.loop-i.invariant.0 (λ h. omega arith) c.if-fields-others.false);
  right = c.loop-i.invariant.1;
}

pub options_same-option_same-requires : goal.options_same-option_same-requires
options_same-option_same-requires t c =
    let option : IsBelow c.args.bound c.index-options-i.result =
    option_below c.args.bound c.args.options.now c.loop-i.i c.index-options-i.result
    c.loop-i-test.true c.index-options-i.is c.requires.before in
    let other : IsBelow c.args.limit c.index-others-i.result =
    option_below c.args.limit c.args.others.now c.loop-i.i c.index-others-i.result
    (omega arith) c.index-others-i.is c.requires.others in
    search rules

pub options_same-returns-then-not-same : goal.options_same-returns-then-not-same
options_same-returns-then-not-same t c = record {
  answer = sym (OptionsFrom-other c.args.schema.now.trees c.args.options.now c.args.others.now
      c.loop-i.i c.index-options-i.result c.index-others-i.result c.loop-i.invariant.0
      c.loop-i-test.true (omega arith) c.index-options-i.is c.index-others-i.is
      (sym c.in_ok-same.ensures.answer ∙ c.if-not-same.true));
  right = c.option_same.ensures.right;
}

pub options_same-loop-i-preserved : goal.options_same-loop-i-preserved
options_same-loop-i-preserved t c = (
  OptionsFrom-more c.args.schema.now.trees c.args.options.now c.args.others.now c.loop-i.i
      c.index-options-i.result c.index-others-i.result c.loop-i.invariant.0
      c.loop-i-test.true (omega arith) c.index-options-i.is c.index-others-i.is
      (sym c.in_ok-same.ensures.answer ∙ c.if-not-same.false),
  c.option_same.ensures.right,
)

pub options_same-returns : goal.options_same-returns
options_same-returns t c = record {
  answer = sym (OptionsFrom-end c.args.schema.now.trees c.args.options.now c.args.others.now
      c.loop-i.i c.loop-i.invariant.0 (λ h. omega arith) c.if-options-others.false);
  right = c.loop-i.invariant.1;
}
