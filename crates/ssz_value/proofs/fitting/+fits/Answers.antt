use Rattle.std.proofs.Common.{◌∙◌, ◌≡◌, ap, sym, subst, Some, None, slice_get, refl}
use Rattle.std.specs.List.{AllByRecursion}
use Rattle.ssz_schema.specs.Types.{container, union}
use Rattle.ssz_schema.specs.Unfolding.{type_of, fields_over, options_over}
use Rattle.ssz_value.specs.declared.value.Value.TheVariants.{Union}
use Rattle.ssz_value.specs.Standing.{IsValue}
use Rattle.ssz_value.specs.Shapes.{IsSequence, AreFields}
use Rattle.ssz_value.proofs.FormLemmas.{seq_elements, seq_fields, chosen_fits, chosen_option}
use Rattle.ssz_value.proofs.PartLemmas.{field_count_is}
use Rattle.ssz_value.proofs.FitLemmas.{seq_sequence, bytes_sequence, bytes_need, seq_container, chosen_value, none_value, none_needs}
use Rattle.ssz_value.proofs.fitting.+fits.Goals as goal

pub container_fits-returns-in-Seq : goal.container_fits-returns-in-Seq
container_fits-returns-in-Seq t c =
    let fs = fields_over c.args.schema.now.trees c.args.fields.now in (
      λ yes. subst (IsValue (container (fields_over c.args.schema.now.trees c.args.fields.now)))
          (sym c.in-Seq.is)
          (seq_container (fields_over c.args.schema.now.trees c.args.fields.now) c.in-Seq.parts
          (subst (AreFields (fields_over c.args.schema.now.trees c.args.fields.now))
          c.as_slice.ensures.value (c.fields_fit.ensures.0 yes))),
      λ h. c.fields_fit.ensures.1
          (subst (AreFields (fields_over c.args.schema.now.trees c.args.fields.now))
          (sym c.as_slice.ensures.value)
          (seq_fields (fields_over c.args.schema.now.trees c.args.fields.now) c.in-Seq.parts
          (subst (IsValue (container (fields_over c.args.schema.now.trees c.args.fields.now)))
          c.in-Seq.is h))),
    )

pub fields_fit-returns-then-fields-parts : goal.fields_fit-returns-then-fields-parts
fields_fit-returns-then-fields-parts t c = (
  λ no. absurd cc,
  λ h. absurd (let same = field_count_is c.args.schema.now.trees c.args.fields.now c.args.parts.now
      h in c.if-fields-parts.true same),
)

pub sequence_fits-returns-else-is_byte : goal.sequence_fits-returns-else-is_byte
sequence_fits-returns-else-is_byte t c = (
  λ yes. subst (IsSequence (type_of c.args.schema.now c.args.elem)) (sym c.in-Seq.is)
      (seq_sequence (type_of c.args.schema.now c.args.elem) c.in-Seq.parts (sym c.is_byte.ensures
      ∙ c.if-is_byte.false) (subst
      (AllByRecursion (IsValue (type_of c.args.schema.now c.args.elem)))
      c.as_slice.ensures.value (c.elements_fit.ensures.0 yes))),
  λ h. c.elements_fit.ensures.1
      (subst (AllByRecursion (IsValue (type_of c.args.schema.now c.args.elem)))
      (sym c.as_slice.ensures.value)
      (seq_elements (type_of c.args.schema.now c.args.elem) c.in-Seq.parts
      (subst (IsSequence (type_of c.args.schema.now c.args.elem)) c.in-Seq.is h))),
)

pub sequence_fits-returns-in-Bytes : goal.sequence_fits-returns-in-Bytes
sequence_fits-returns-in-Bytes t c = (
  λ yes. subst (IsSequence (type_of c.args.schema.now c.args.elem)) (sym c.in-Bytes.is)
      (bytes_sequence (type_of c.args.schema.now c.args.elem) c.in-Bytes.run'
      (sym c.is_byte-in-Bytes.ensures ∙ yes) c.as_slice-bytes.ensures.bytes),
  λ h. c.is_byte-in-Bytes.ensures
      ∙ bytes_need (type_of c.args.schema.now c.args.elem) c.in-Bytes.run'
      (subst (IsSequence (type_of c.args.schema.now c.args.elem)) c.in-Bytes.is h),
)

pub union_fits-returns-in-Some-Some : goal.union_fits-returns-in-Some-Some
union_fits-returns-in-Some-Some t c =
    let here : Some (Some c.in-Some-Some.option)
    ≡ slice_get c.args.options.now c.in-Union.selector =
    ap Some (sym c.in-Some-Some.field-0-is) ∙ sym c.in-Some-Some.is ∙ c.option_at.ensures in
    let whole : c.args.value.now ≡ Union c.in-Union.selector (Some c.in-Some.inner) =
    c.in-Union.is ∙ ap (Union c.in-Union.selector) c.in-Some.is in (
      λ yes. subst (IsValue (union (options_over c.args.schema.now.trees c.args.options.now)))
          (sym whole)
          (chosen_value c.args.schema.now.trees c.args.options.now c.in-Union.selector
          c.in-Some-Some.option c.in-Some.inner here
          (subst (IsValue (type_of c.args.schema.now c.in-Some-Some.option)) c.deref.ensures
          (c.fits.ensures.0 yes))),
      λ h. c.fits.ensures.1 (subst (IsValue (type_of c.args.schema.now c.in-Some-Some.option))
          (sym c.deref.ensures)
          (chosen_fits c.args.schema.now.trees c.args.options.now c.in-Union.selector
          c.in-Some-Some.option c.in-Some.inner
          (subst (IsValue (union (options_over c.args.schema.now.trees c.args.options.now)))
          whole h) here)),
    )

pub union_fits-returns-in-Some-None : goal.union_fits-returns-in-Some-None
union_fits-returns-in-Some-None t c =
    let whole : c.args.value.now ≡ Union c.in-Union.selector (Some c.in-Some.inner) =
    c.in-Union.is ∙ ap (Union c.in-Union.selector) c.in-Some.is in (
      λ no. absurd cc,
      λ h. absurd (
          let some = chosen_option c.args.schema.now.trees c.args.options.now c.in-Union.selector
          c.in-Some.inner (subst (IsValue
          (union (options_over c.args.schema.now.trees c.args.options.now))) whole h) in
          let is : Some (Some some.0) ≡ Some None =
          some.1 ∙ sym c.option_at.ensures ∙ c.in-Some-None.is
          ∙ ap Some c.in-Some-None.field-0-is in
          cc
          ),
    )

pub union_fits-returns-in-None-option_at : goal.union_fits-returns-in-None-option_at
union_fits-returns-in-None-option_at t c =
    let whole : c.args.value.now ≡ Union c.in-Union.selector (Some c.in-Some.inner) =
    c.in-Union.is ∙ ap (Union c.in-Union.selector) c.in-Some.is in (
      λ no. absurd cc,
      λ h. absurd (
          let some = chosen_option c.args.schema.now.trees c.args.options.now c.in-Union.selector
          c.in-Some.inner (subst (IsValue
          (union (options_over c.args.schema.now.trees c.args.options.now))) whole h) in
          let is : Some (Some some.0) ≡ None =
          some.1 ∙ sym c.option_at.ensures ∙ c.in-None-option_at.is in
          cc
          ),
    )

pub union_fits-returns-in-Some-Some-option_at : goal.union_fits-returns-in-Some-Some-option_at
union_fits-returns-in-Some-Some-option_at t c =
    let whole : c.args.value.now ≡ Union c.in-Union.selector None =
    c.in-Union.is ∙ ap (Union c.in-Union.selector) c.in-None.is in (
      λ no. absurd cc,
      λ h. absurd (
          let none = none_needs c.args.schema.now.trees c.args.options.now c.in-Union.selector
          (subst (IsValue (union (options_over c.args.schema.now.trees c.args.options.now)))
          whole h) in
          let is : Some None ≡ Some (Some c.in-Some-Some-option_at.field-0-0) =
          none ∙ sym c.option_at-in-None.ensures ∙ c.in-Some-Some-option_at.is
          ∙ ap Some c.in-Some-Some-option_at.field-0-is in
          cc
          ),
    )

pub union_fits-returns-in-Some-None-option_at : goal.union_fits-returns-in-Some-None-option_at
union_fits-returns-in-Some-None-option_at t c =
    let whole : c.args.value.now ≡ Union c.in-Union.selector None =
    c.in-Union.is ∙ ap (Union c.in-Union.selector) c.in-None.is in
    let here : Some None ≡ slice_get c.args.options.now c.in-Union.selector =
    ap Some (sym c.in-Some-None-option_at.field-0-is) ∙ sym c.in-Some-None-option_at.is
    ∙ c.option_at-in-None.ensures in (
      λ yes. subst (IsValue (union (options_over c.args.schema.now.trees c.args.options.now)))
          (sym whole) (none_value c.args.schema.now.trees c.args.options.now c.in-Union.selector
          here),
      λ h. refl,
    )

pub union_fits-returns-in-None-option_at-2 : goal.union_fits-returns-in-None-option_at-2
union_fits-returns-in-None-option_at-2 t c =
    let whole : c.args.value.now ≡ Union c.in-Union.selector None =
    c.in-Union.is ∙ ap (Union c.in-Union.selector) c.in-None.is in (
      λ no. absurd cc,
      λ h. absurd (
          let none = none_needs c.args.schema.now.trees c.args.options.now c.in-Union.selector
          (subst (IsValue (union (options_over c.args.schema.now.trees c.args.options.now)))
          whole h) in
          let is : Some None ≡ None =
          none ∙ sym c.option_at-in-None.ensures ∙ c.in-None-option_at-2.is in
          cc
          ),
    )
