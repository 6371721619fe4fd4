use Rattle.std.proofs.Common.{[], ◌∷◌, refl, Some, slice_range, sym, ap, ◌∙◌}
use Rattle.ssz_schema.specs.declared.path.PathStep.TheVariants.{Field}
use Rattle.ssz_schema.specs.Unfolding.{type_of}
use Rattle.ssz_slices.specs.Inside.{part_inside}
use Rattle.ssz_slices.specs.Held.{held_value, held_span}
use Rattle.ssz_slices.specs.Part.{Part, part_reached}
use Rattle.ssz_slices.proofs.Stretches.{stretch_at}
use Rattle.ssz_slices.proofs.FieldSteps.{led_below, led_held}
use Rattle.ssz_slices.proofs.NamedFields.{IsFound, field_room, field_part}
use Rattle.ssz_slices.proofs.slice.Slice.field.Goals as goal

pub field_part-part-requires-clause-below : goal.field_part-part-requires-clause-below
field_part-part-requires-clause-below c =
    led_below c.self.inside.schema.now c.self.inside.id c.as_bytes.result.now c.in-Some.lead
    c.in-Some.ensures.led

pub moved-requires : goal.moved-requires
moved-requires c =
    let types = c.self.inside.schema.now in
    let t = type_of types c.self.inside.id in
    let b = c.self.inside.input.now in
    let found : IsFound types b c.self.inside.id c.in-Bytes.from c.in-Bytes.to
    c.as_bytes.result.now (c.in-Some.lead.part, c.field_part-part.result) = record {
      legal = c.self.invariant.legal;
      input_is = record { bytes = c.self.invariant.bytes; short = c.self.invariant.short };
      stretch = stretch_at t b c.self.inside.held c.in-Bytes.from c.in-Bytes.to
          c.self.invariant.holds c.in-Bytes.is;
      form = sym c.in-Some.ensures.led.typed;
      held = ap Some c.field_part-part.ensures ∙ led_held types c.self.inside.id
          c.as_bytes.result.now (slice_range b c.in-Bytes.from c.in-Bytes.to) c.in-Some.lead
          c.in-Some.ensures.led;
    } in
    field_room types b c.self.inside.id c.in-Bytes.from c.in-Bytes.to c.as_bytes.result.now
    (c.in-Some.lead.part, c.field_part-part.result) found

pub invariant_of-result : goal.invariant_of-result
invariant_of-result c =
    let types = c.self.inside.schema.now in
    let t = type_of types c.self.inside.id in
    let b = c.self.inside.input.now in
    let found : IsFound types b c.self.inside.id c.in-Bytes.from c.in-Bytes.to
    c.as_bytes.result.now (c.in-Some.lead.part, c.field_part-part.result) = record {
      legal = c.self.invariant.legal;
      input_is = record { bytes = c.self.invariant.bytes; short = c.self.invariant.short };
      stretch = stretch_at t b c.self.inside.held c.in-Bytes.from c.in-Bytes.to
          c.self.invariant.holds c.in-Bytes.is;
      form = sym c.in-Some.ensures.led.typed;
      held = ap Some c.field_part-part.ensures ∙ led_held types c.self.inside.id
          c.as_bytes.result.now (slice_range b c.in-Bytes.from c.in-Bytes.to) c.in-Some.lead
          c.in-Some.ensures.led;
    } in
    let part = field_part types (part_inside c.self.inside) c.self.inside.id c.in-Bytes.from
    c.in-Bytes.to c.as_bytes.result.now (c.in-Some.lead.part, c.field_part-part.result)
    c.moved.result found refl (ap (held_value t b) c.in-Bytes.is) (ap held_span c.in-Bytes.is)
    c.moved.ensures in
    record {
      known = c.in-Some.ensures.led.known;
      legal = part.legal;
      bytes = c.self.invariant.bytes;
      short = c.self.invariant.short;
      holds = part.holds;
    }

pub returns : goal.returns
returns c =
    let types = c.self.inside.schema.now in
    let t = type_of types c.self.inside.id in
    let b = c.self.inside.input.now in
    let found : IsFound types b c.self.inside.id c.in-Bytes.from c.in-Bytes.to
    c.as_bytes.result.now (c.in-Some.lead.part, c.field_part-part.result) = record {
      legal = c.self.invariant.legal;
      input_is = record { bytes = c.self.invariant.bytes; short = c.self.invariant.short };
      stretch = stretch_at t b c.self.inside.held c.in-Bytes.from c.in-Bytes.to
          c.self.invariant.holds c.in-Bytes.is;
      form = sym c.in-Some.ensures.led.typed;
      held = ap Some c.field_part-part.ensures ∙ led_held types c.self.inside.id
          c.as_bytes.result.now (slice_range b c.in-Bytes.from c.in-Bytes.to) c.in-Some.lead
          c.in-Some.ensures.led;
    } in
    let part = field_part types (part_inside c.self.inside) c.self.inside.id c.in-Bytes.from
    c.in-Bytes.to c.as_bytes.result.now (c.in-Some.lead.part, c.field_part-part.result)
    c.moved.result found refl (ap (held_value t b) c.in-Bytes.is) (ap held_span c.in-Bytes.is)
    c.moved.ensures in
    part.answer ∙ ap (λ name. part_reached (part_inside c.self.inside) (Field name ∷ []))
    c.as_bytes.ensures.value
    ∙ ap (λ (whole : Part). part_reached whole (Field c.args.name.now ∷ [])) c.self.view_is
