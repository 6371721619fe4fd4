use Rattle.std.proofs.Common.{rules, ◌≡◌, ◌<◌, ◌∙◌, Some, None, List, ℕ, length, cond, sym, ap, subst, bytes_eq}
use Rattle.std.specs.List.{position_from}
use Rattle.ssz_schema.specs.Unfolding.{type_tree_at}
use Rattle.ssz_schema.proofs.StepLemmas.{found_field}
use Rattle.ssz_value.proofs.PartLemmas.{Part, part_known}
use Rattle.ssz_forms.specs.SameType.{same_type}
use Rattle.ssz_forms.proofs.Kept.{ok_answer}
use Rattle.ssz_forms.proofs.Taken.{numbered_at, taken_where, taken_nowhere}
use Rattle.ssz_forms.proofs.taking.field_taken.Goals as goal

pub offset_bounds-old-number : goal.offset_bounds-old-number
offset_bounds-old-number c =
    let found : position_from (λ (p : Part). bytes_eq p.0 c.as_bytes.result.now) 0 c.args.old.now
    ≡ Some c.in-Some.number =
    numbered_at c.args.old.now c.args.numbers.now c.as_bytes.result.now c.copied.result
    c.requires.numbers (c.copied.ensures ∙ c.get.ensures.value) ∙ c.in-Some.is in
    let below : c.in-Some.number < length c.args.old.now =
    (found_field c.args.schema.now.trees c.args.old.now c.as_bytes.result.now c.in-Some.number
    found).below in
    search rules

pub bounds-old-number : goal.bounds-old-number
bounds-old-number c =
    (found_field c.args.schema.now.trees c.args.old.now c.as_bytes.result.now c.in-Some.number
    (numbered_at c.args.old.now c.args.numbers.now c.as_bytes.result.now c.copied.result
    c.requires.numbers (c.copied.ensures ∙ c.get.ensures.value) ∙ c.in-Some.is)).below

pub bounds-old-number-in-Some : goal.bounds-old-number-in-Some
bounds-old-number-in-Some c =
    (found_field c.args.schema.now.trees c.args.old.now c.as_bytes.result.now c.in-Some.number
    (numbered_at c.args.old.now c.args.numbers.now c.as_bytes.result.now c.copied.result
    c.requires.numbers (c.copied.ensures ∙ c.get.ensures.value) ∙ c.in-Some.is)).below

pub same-requires-clause-first : goal.same-requires-clause-first
same-requires-clause-first c =
    let below : c.in-Some.number < length c.args.old.now =
    (found_field c.args.schema.now.trees c.args.old.now c.as_bytes.result.now c.in-Some.number
    (numbered_at c.args.old.now c.args.numbers.now c.as_bytes.result.now c.copied.result
    c.requires.numbers (c.copied.ensures ∙ c.get.ensures.value) ∙ c.in-Some.is)).below in
    subst (λ (p : Part). p.1 < length c.args.schema.now.trees) c.index-old-number.is
    (part_known (length c.args.schema.now.trees) c.args.old.now c.in-Some.number
    c.index-old-number.result below c.index-old-number.is c.requires.old)

pub returns-then-same : goal.returns-then-same
returns-then-same c =
    let trees = c.args.schema.now.trees in
    let t = type_tree_at trees c.args.field.now.1 in
    let found : position_from (λ (p : Part). bytes_eq p.0 c.args.field.now.0) 0 c.args.old.now
    ≡ Some c.in-Some.number =
    subst (λ (name : List ℕ). position_from (λ (p : Part). bytes_eq p.0 name) 0 c.args.old.now
    ≡ Some c.in-Some.number) c.as_bytes.ensures
    (numbered_at c.args.old.now c.args.numbers.now c.as_bytes.result.now c.copied.result
    c.requires.numbers (c.copied.ensures ∙ c.get.ensures.value) ∙ c.in-Some.is) in
    record {
      found = ap (λ b. cond b (Some c.in-Some.number) None) (sym c.if-same.true)
          ∙ sym (taken_where trees c.args.old.now c.args.field.now.0 t c.in-Some.number
          c.index-old-number.result c.in_ok-same-in-Some.same found c.index-old-number.is
          (ok_answer c.same.result c.in_ok-same-in-Some.same _ c.same.ensures.answer
          c.in_ok-same-in-Some.was
          ∙ ap (λ (p : Part). same_type (type_tree_at trees p.1) t) (sym c.index-old-number.is)));
      right = c.same.ensures.right;
    }

pub returns-else-same : goal.returns-else-same
returns-else-same c =
    let trees = c.args.schema.now.trees in
    let t = type_tree_at trees c.args.field.now.1 in
    let found : position_from (λ (p : Part). bytes_eq p.0 c.args.field.now.0) 0 c.args.old.now
    ≡ Some c.in-Some.number =
    subst (λ (name : List ℕ). position_from (λ (p : Part). bytes_eq p.0 name) 0 c.args.old.now
    ≡ Some c.in-Some.number) c.as_bytes.ensures
    (numbered_at c.args.old.now c.args.numbers.now c.as_bytes.result.now c.copied.result
    c.requires.numbers (c.copied.ensures ∙ c.get.ensures.value) ∙ c.in-Some.is) in
    record {
      found = ap (λ b. cond b (Some c.in-Some.number) None) (sym c.if-same.false)
          ∙ sym (taken_where trees c.args.old.now c.args.field.now.0 t c.in-Some.number
          c.index-old-number.result c.in_ok-same-in-Some.same found c.index-old-number.is
          (ok_answer c.same.result c.in_ok-same-in-Some.same _ c.same.ensures.answer
          c.in_ok-same-in-Some.was
          ∙ ap (λ (p : Part). same_type (type_tree_at trees p.1) t) (sym c.index-old-number.is)));
      right = c.same.ensures.right;
    }

pub returns-in-None : goal.returns-in-None
returns-in-None c = record {
  found = sym (taken_nowhere c.args.schema.now.trees c.args.old.now c.args.field.now.0
      (type_tree_at c.args.schema.now.trees c.args.field.now.1)
      (subst (λ (name : List ℕ). position_from (λ (p : Part). bytes_eq p.0 name) 0
      c.args.old.now ≡ None) c.as_bytes.ensures
      (numbered_at c.args.old.now c.args.numbers.now c.as_bytes.result.now c.copied.result
      c.requires.numbers (c.copied.ensures ∙ c.get.ensures.value) ∙ c.in-None.is)));
  right = c.requires.right;
}
