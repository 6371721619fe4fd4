use Rattle.ssz_tool.proofs.ScriptProofs.{scripts_print_valid_proofs_lem}
use Rattle.ssz_tool.proofs.laws.scripts_print_valid_proofs.Goals as goal

pub returns : goal.returns
returns c = scripts_print_valid_proofs_lem
