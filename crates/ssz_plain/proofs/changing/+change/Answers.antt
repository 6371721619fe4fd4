use Rattle.std.proofs.Common.{sym, ◌∙◌, ap, rules, refl, subst, ◌≡◌, ◌+◌, ◌-◌, ◌<◌, ◌≤◌, Some, length, take, drop, arith}
use Rattle.std.specs.Vec.{with_item}
use Rattle.std.specs.Box.{with_value}
use Rattle.ssz_value.specs.Edits.{edited}
use Rattle.ssz_plain.specs.Making.{EditsValue, SuitsPath, edit_of, takes_memory}
use Rattle.ssz_schema.specs.Unfolding.{type_of}
use Rattle.ssz_schema.specs.declared.path.PathStep.TheVariants.{Len, Selector, Option as Chosen}
use Rattle.ssz_value.specs.declared.value.Value.TheVariants.{Union}
use Rattle.ssz_value.specs.Standing.{IsValue, value_of}
use Rattle.ssz_plain.specs.Leading.{step_to, LeadsBy}
use Rattle.ssz_plain.specs.declared.leading.Place.TheVariants.{Item, Inner}
use Rattle.ssz_plain.proofs.Steps.{length_there, selector_there}
use Rattle.ssz_plain.proofs.Changed.{no_inner, absent, counted, onward_suits, item_absent, item_changed, item_value, byte_suits, byte_changed, bit_suits, bit_changed, byte_misfits, bit_misfits, inner_value, inner_changed, leads_by}
use Rattle.ssz_plain.proofs.Endings.{refused_on, last_is, rest_is}
use Rattle.ssz_plain.proofs.changing.+change.Goals as goal

pub change-returns-in-Length : goal.change-returns-in-Length
change-returns-in-Length t c =
    let lead = c.in-Some-step_lead.ensures.led in
    let at = lead.numbered ∙ ap step_to c.in-Length.is in
    counted _ _ _ _ _ _ _ Len c.in-Some.ensures.cases.0 lead.typed at c.requires.value
    c.requires.suits _ (length_there _ _ _ _ lead.typed at c.requires.value.fits) (λ x. refl)
    _ c.refusal.ensures

pub change-returns-in-Selector : goal.change-returns-in-Selector
change-returns-in-Selector t c =
    let lead = c.in-Some-step_lead.ensures.led in
    let at = lead.numbered ∙ ap step_to c.in-Selector.is in
    counted _ _ _ _ _ _ _ Selector c.in-Some.ensures.cases.0 lead.typed at c.requires.value
    c.requires.suits _ (selector_there _ _ _ _ lead.typed at c.requires.value.fits) (λ x. refl)
    _ c.refusal-in-Selector.ensures

pub change-change_item-requires : goal.change-change_item-requires
change-change_item-requires t c =
    let led : LeadsBy c.args.schema.now c.args.id c.args.path.now c.in-Some-step_lead.next.id
    (Item c.in-Item.i) =
    leads_by _ _ _ _ _ c.in-Some-step_lead.next (Item c.in-Item.i) c.in-Some.ensures.cases.0
    c.in-Some-step_lead.ensures.led c.in-Item.is in
    search rules

pub change-change_inner-requires : goal.change-change_inner-requires
change-change_inner-requires t c =
    let led : LeadsBy c.args.schema.now c.args.id c.args.path.now c.in-Some-step_lead.next.id
    (Inner c.in-Inner.number) =
    leads_by _ _ _ _ _ c.in-Some-step_lead.next (Inner c.in-Inner.number) c.in-Some.ensures.cases.0
    c.in-Some-step_lead.ensures.led c.in-Inner.is in
    search rules

pub change_item-change_byte-requires : goal.change_item-change_byte-requires
change_item-change_byte-requires t c =
    let led = c.requires.led in
    byte_suits _ _ _ _ _ _ _ c.args.at.1 led.path_is led.typed
    led.numbered c.requires.value c.requires.suits c.in-Bytes.run'
    c.in-Bytes.is (last_is _ _ _ led.path_is (search rules))

pub change_item-change_bit-requires : goal.change_item-change_bit-requires
change_item-change_bit-requires t c =
    let led = c.requires.led in
    bit_suits _ _ _ _ _ _ _ c.args.at.1 led.path_is led.typed
    led.numbered c.requires.value c.requires.suits c.in-Bits.run'
    c.in-Bits.is (last_is _ _ _ led.path_is (search rules))

pub change_item-returns-then-path-gt1 : goal.change_item-returns-then-path-gt1
change_item-returns-then-path-gt1 t c =
    let led = c.requires.led in
    byte_misfits _ _ _ _ _ _ _ c.args.at.1 led.path_is led.typed led.numbered c.requires.value
    c.requires.suits c.in-Bytes.run' c.in-Bytes.is _ _ (search rules) (search rules)

pub change_item-returns-else-path-gt1 : goal.change_item-returns-else-path-gt1
change_item-returns-else-path-gt1 t c =
    let led = c.requires.led in
    byte_changed _ _ _ _ _ _ _ c.args.at.1 led.path_is led.typed
    led.numbered c.requires.value c.requires.suits c.in-Bytes.run'
    c.in-Bytes.is (last_is _ _ _ led.path_is (search rules)) _ _ c.change_byte.new.run _
    (search rules) (rw c.in-Bytes.run-is at c.change_byte.ensures)

pub change_item-returns-then-path-gt1-2 : goal.change_item-returns-then-path-gt1-2
change_item-returns-then-path-gt1-2 t c =
    let led = c.requires.led in
    bit_misfits _ _ _ _ _ _ _ c.args.at.1 led.path_is led.typed led.numbered c.requires.value
    c.requires.suits c.in-Bits.run' c.in-Bits.is _ _ (search rules) (search rules)

pub change_item-returns-else-path-gt1-2 : goal.change_item-returns-else-path-gt1-2
change_item-returns-else-path-gt1-2 t c =
    let led = c.requires.led in
    bit_changed _ _ _ _ _ _ _ c.args.at.1 led.path_is led.typed
    led.numbered c.requires.value c.requires.suits c.in-Bits.run'
    c.in-Bits.is (last_is _ _ _ led.path_is (search rules)) _ _ c.change_bit.new.run _
    (search rules) (rw c.in-Bits.run-is at c.change_bit.ensures)

pub change_item-change-requires : goal.change_item-change-requires
change_item-change-requires t c =
    let led = c.requires.led in
    let rest = rest_is c.args.path.now led.step led.rest led.path_is in
    let longer : length c.args.path.now ≡ length (take (length c.args.path.now - 1)
    (drop 1 c.args.path.now)) + 1 = omega (arith, ap length rest, ap length led.path_is) in
    let inside : c.args.at.1 < length c.in-Seq.parts.items = search rules in (
      search rules,
      (
        led.known,
        (
          item_value _ _ _ _ _ _ _ c.args.at.1 led.path_is led.typed led.numbered
              c.requires.value c.requires.suits c.in-Seq.parts _ c.in-Seq.is inside
              (rw c.in-Seq.parts-is at c.index_mut.ensures.value),
          subst (λ more. SuitsPath (type_of c.args.schema.now c.args.at.0) more c.args.edit)
              (sym rest) (onward_suits _ _ _ _ _ _ _ _ led.path_is led.typed led.numbered
              c.requires.value c.requires.suits),
        ),
      ),
    )

pub change_item-returns-then-i-len : goal.change_item-returns-then-i-len
change_item-returns-then-i-len t c =
    let led = c.requires.led in
    let past : length c.in-Seq.parts.items ≤ c.args.at.1 = search rules in
    item_absent _ _ _ _ _ _ _ c.args.at.1 led.path_is led.typed
    led.numbered c.requires.value c.requires.suits _ _ c.in-Seq.parts
    c.in-Seq.is (search rules) past _
    (refused_on _ _ _ _ _ _ led.path_is c.refusal.ensures)

pub change_item-returns-else-i-len : goal.change_item-returns-else-i-len
change_item-returns-else-i-len t c =
    let led = c.requires.led in
    let rest = rest_is c.args.path.now led.step led.rest led.path_is in
    let inside : c.args.at.1 < length c.in-Seq.parts.items = search rules in
    item_changed _ _ _ _ _ _ _ c.args.at.1 led.path_is led.typed
    led.numbered c.requires.value c.requires.suits _ _ c.in-Seq.parts
    (with_item c.in-Seq.parts c.args.at.1 c.change.new.value) c.index_mut.result.now
    c.change.new.value _ c.in-Seq.is (rw c.in-Seq.parts-is (search rules)) inside
    (rw c.in-Seq.parts-is at c.index_mut.ensures.value) refl
    (subst (λ more. EditsValue (takes_memory c.args.edit) (type_of c.args.schema.now c.args.at.0)
    (edited (edit_of c.args.edit) (type_of c.args.schema.now c.args.at.0)
    (value_of c.index_mut.result.now) more) c.index_mut.result.now c.change.new.value
    c.change.result) rest c.change.ensures)

pub change_inner-change-requires : goal.change_inner-change-requires
change_inner-change-requires t c =
    let led = c.requires.led in
    let rest = rest_is c.args.path.now led.step led.rest led.path_is in
    let longer : length c.args.path.now ≡ length (take (length c.args.path.now - 1)
    (drop 1 c.args.path.now)) + 1 = omega (arith, ap length rest, ap length led.path_is) in
    let same : c.in-Union.selector ≡ c.args.at.1 =
    sym c.in-Union.selector-is ∙ c.if-selector-number.false in
    let whole : c.args.value.now ≡ Union c.args.at.1 (Some c.in-Some.part) =
    c.in-Union.is ∙ ap (λ k. Union k c.in-Union.inner) same
    ∙ ap (Union c.args.at.1) (sym c.in-Union.inner-is ∙ c.in-Some.is) in (
      search rules,
      (
        led.known,
        (
          subst (IsValue (type_of c.args.schema.now c.args.at.0))
              (sym c.as_mut.ensures.value)
              (inner_value _ _ _ _ _ _ _ c.args.at.1 led.path_is led.typed led.numbered
              c.requires.value c.requires.suits c.in-Some.part whole),
          subst (λ more. SuitsPath (type_of c.args.schema.now c.args.at.0) more c.args.edit)
              (sym rest) (onward_suits _ _ _ _ _ _ _ _ led.path_is led.typed led.numbered
              c.requires.value c.requires.suits),
        ),
      ),
    )

pub change_inner-returns-in-Some : goal.change_inner-returns-in-Some
change_inner-returns-in-Some t c =
    let led = c.requires.led in
    let rest = rest_is c.args.path.now led.step led.rest led.path_is in
    let same : c.in-Union.selector ≡ c.args.at.1 =
    sym c.in-Union.selector-is ∙ c.if-selector-number.false in
    let whole : c.args.value.now ≡ Union c.args.at.1 (Some c.in-Some.part) =
    c.in-Union.is ∙ ap (λ k. Union k c.in-Union.inner) same
    ∙ ap (Union c.args.at.1) (sym c.in-Union.inner-is ∙ c.in-Some.is) in
    inner_changed _ _ _ _ _ _ _ c.args.at.1 led.path_is led.typed
    led.numbered c.requires.value c.requires.suits _ _
    c.in-Some.part (with_value c.in-Some.part c.change.new.value) _ whole
    (ap (λ k. Union k (Some (with_value c.in-Some.part c.change.new.value)))
    c.if-selector-number.false)
    (subst (λ part. EditsValue (takes_memory c.args.edit)
    (type_of c.args.schema.now c.args.at.0)
    (edited (edit_of c.args.edit) (type_of c.args.schema.now c.args.at.0)
    (value_of part) led.rest) part c.change.new.value
    c.change.result)
    c.as_mut.ensures.value
    (subst (λ more. EditsValue (takes_memory c.args.edit) (type_of c.args.schema.now c.args.at.0)
    (edited (edit_of c.args.edit) (type_of c.args.schema.now c.args.at.0)
    (value_of c.as_mut.result.now) more) c.as_mut.result.now c.change.new.value c.change.result)
    rest c.change.ensures))

pub change_inner-returns-in_default : goal.change_inner-returns-in_default
change_inner-returns-in_default t c =
    let led = c.requires.led in
    absent _ _ _ _ _ _ _ (Chosen c.args.at.1) led.path_is led.typed
    led.numbered c.requires.value c.requires.suits _
    (no_inner c.args.value.now c.args.at.1 c.in_default.not-Union) _
    (refused_on _ _ _ _ _ _ led.path_is c.refusal-in_default.ensures)
