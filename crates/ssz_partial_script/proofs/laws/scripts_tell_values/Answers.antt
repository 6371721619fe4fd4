use Rattle.ssz_partial_script.proofs.Telling.{scripts_tell_values_lem}
use Rattle.ssz_partial_script.proofs.laws.scripts_tell_values.Goals as goal

pub returns : goal.returns
returns c = scripts_tell_values_lem
