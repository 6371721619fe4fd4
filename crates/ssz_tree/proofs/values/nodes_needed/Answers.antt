use Rattle.ssz_schema.specs.Unfolding.{type_of}
use Rattle.ssz_value.specs.Standing.{value_of}
use Rattle.ssz_tree.proofs.FewNodes.{few_nodes}
use Rattle.ssz_tree.proofs.values.nodes_needed.Goals as goal

pub returns-clause-enough : goal.returns-clause-enough
returns-clause-enough c = few_nodes (type_of c.args.schema.now c.args.id)
    (value_of c.args.value.now) c.requires.value.fits
