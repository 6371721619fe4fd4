use Rattle.ssz_schema.proofs.PathLemmas.{indices_within}
use Rattle.ssz_schema.proofs.law.indices_have_levels.Goals as goal

pub returns : goal.returns
returns c = indices_within
