use Rattle.std.proofs.Common.{◌∙◌}
use Rattle.ssz_schema.specs.Unfolding.{type_of}
use Rattle.ssz_gindex.proofs.PathWalk.{field_position}
use Rattle.ssz_gindex.proofs.of_path.step_position.Goals as goal

pub returns-in-Field : goal.returns-in-Field
returns-in-Field c =
    c.requires.number
    ∙ field_position (type_of c.args.schema.now c.args.id) c.args.step.now _ c.in-Field.is
