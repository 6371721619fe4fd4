use Rattle.ssz_machine.proofs.KeptValues.{scripts_keep_values_lem}
use Rattle.ssz_machine.proofs.laws.scripts_keep_values.Goals as goal

pub returns : goal.returns
returns c = scripts_keep_values_lem
