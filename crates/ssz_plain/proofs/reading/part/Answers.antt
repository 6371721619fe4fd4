use Rattle.ssz_schema.specs.Unfolding.{type_of}
use Rattle.ssz_schema.specs.Paths.{path_type}
use Rattle.ssz_value.specs.Standing.{value_of}
use Rattle.ssz_plain.specs.Lent.{part_value}
use Rattle.ssz_plain.proofs.Parting.{part_is_told, fault_is_told, nothing_is_said}
use Rattle.ssz_plain.proofs.reading.part.Goals as goal

pub returns-in-Some-clause-exact : goal.returns-in-Some-clause-exact
returns-in-Some-clause-exact c =
    part_is_told (type_of c.args.schema.now c.args.id) (value_of c.args.value.now) c.args.path.now
    (part_value c.in-Some.part) c.in-Some.ensures.exact

pub returns-in-None-clause-exact : goal.returns-in-None-clause-exact
returns-in-None-clause-exact c =
    fault_is_told (type_of c.args.schema.now c.args.id) (value_of c.args.value.now) c.args.path.now
    c.without.result c.without.ensures c.in-None.ensures.exact

pub returns-in-None-clause-fits : goal.returns-in-None-clause-fits
returns-in-None-clause-fits c _ =
    nothing_is_said (path_type (type_of c.args.schema.now c.args.id) c.args.path.now)
