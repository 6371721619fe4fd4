use Rattle.std.proofs.Common.{ap, ◌∙◌, arith}
use Rattle.ssz_schema.specs.Unfolding.{type_of}
use Rattle.ssz_value.proofs.Agree.{IsInput}
use Rattle.ssz_places.proofs.PathLaws.{step_legal}
use Rattle.ssz_slices.specs.Inside.{part_inside}
use Rattle.ssz_slices.specs.Part.{Part, part_reached}
use Rattle.ssz_slices.proofs.Along.{along-next, along-done}
use Rattle.ssz_slices.proofs.slice.Slice.at.Goals as goal

pub loop-step-preserved : goal.loop-step-preserved
loop-step-preserved c =
    let types = c.self.inside.schema.now in
    let input : IsInput c.self.inside.input.now =
    record { bytes = c.self.invariant.bytes; short = c.self.invariant.short } in
    let led = c.in-Some.ensures.led in
    record {
      known = led.known;
      legal = step_legal types.format (type_of types c.loop-step.id) c.step-item.result
          (type_of types c.in-Some.lead.part) c.loop-step.invariant.legal led.typed;
      along = along-next types (part_inside c.self.inside) c.args.path.now c.loop-step.id
          c.in-Some.lead.part c.loop-step.step-index c.loop-step.held c.step_from-held.result
          c.step-item.result c.loop-step.invariant.legal input c.loop-step.invariant.along
          c.loop-step-test.true c.step-item.is led.typed c.step_from-held.ensures;
    }

pub returns-in-Some-held : goal.returns-in-Some-held
returns-in-Some-held c =
    let types = c.self.inside.schema.now in
    let input : IsInput c.self.inside.input.now =
    record { bytes = c.self.invariant.bytes; short = c.self.invariant.short } in
    along-done types.format (part_inside c.self.inside) c.args.path.now
    (type_of types c.loop-step.id) c.loop-step.step-index c.in-Some-held.held c.loop-step.held
    c.loop-step.invariant.legal input c.loop-step.invariant.along (omega arith) c.in-Some-held.is
    ∙ ap (λ (whole : Part). part_reached whole c.args.path.now) c.self.view_is
