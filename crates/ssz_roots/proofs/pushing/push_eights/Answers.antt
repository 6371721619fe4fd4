use Rattle.ssz_schema.specs.Unfolding.{type_of}
use Rattle.ssz_roots.proofs.ElementRows.{counts_none}
use Rattle.ssz_roots.proofs.pushing.push_eights.Goals as goal

pub returns-in_default-clause-counts : goal.returns-in_default-clause-counts
returns-in_default-clause-counts g c = counts_none (type_of c.args.schema.now c.args.elem)
    c.args.count c.args.bytes.now c.args.pushed.now.depth _

pub returns-then-few-clause-counts : goal.returns-then-few-clause-counts
returns-then-few-clause-counts g c = counts_none (type_of c.args.schema.now c.args.elem)
    c.args.count c.args.bytes.now c.args.pushed.now.depth _
