use Rattle.std.proofs.Common.{subst}
use Rattle.ssz_schema.specs.Steps.{IsLead}
use Rattle.ssz_slices.proofs.FieldSteps.{led_below}
use Rattle.ssz_slices.proofs.steps.step_within.Goals as goal

pub field_part-requires-clause-below : goal.field_part-requires-clause-below
field_part-requires-clause-below c =
    led_below c.args.schema.now c.args.id c.in-Field.field-0 c.args.lead.now
    (subst (λ step. IsLead c.args.schema.now c.args.id step c.args.lead.now) c.in-Field.is
    c.requires.lead)
