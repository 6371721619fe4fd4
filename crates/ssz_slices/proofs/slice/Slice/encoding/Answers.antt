use Rattle.std.proofs.Common.{ap, ◌∙◌}
use Rattle.ssz_schema.specs.Unfolding.{type_of}
use Rattle.ssz_value.specs.Encoding.{serialize}
use Rattle.ssz_slices.specs.Part.{Part}
use Rattle.ssz_slices.proofs.Stretches.{stretch_encoded}
use Rattle.ssz_slices.proofs.slice.Slice.encoding.Goals as goal

pub returns-in-Bytes : goal.returns-in-Bytes
returns-in-Bytes c =
    stretch_encoded c.self.inside.schema.now.format
    (type_of c.self.inside.schema.now c.self.inside.id)
    c.self.inside.input.now c.self.inside.held c.in-Bytes.from c.in-Bytes.to
    c.self.invariant.legal (record {
      bytes = c.self.invariant.bytes;
      short = c.self.invariant.short;
    }) c.self.invariant.holds c.in-Bytes.is
    ∙ ap (λ (p : Part). serialize p.form p.value) c.self.view_is
