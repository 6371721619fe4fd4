use Rattle.std.proofs.Common.{◌∙◌, ap, is_some}
use Rattle.ssz_schema.specs.Unfolding.{type_of}
use Rattle.ssz_schema.proofs.PathLemmas.{index_where_fits, none_where}
use Rattle.ssz_line.proofs.steps.Steps.gindex.Goals as goal

pub returns-in-None : goal.returns-in-None
returns-in-None c =
    none_where _
    (index_where_fits 1 (type_of c.args.schema.now c.args.id) c.args.self.now
    ∙ ap is_some (rw c.in-None.is at c.in_ok-steps.ensures))
