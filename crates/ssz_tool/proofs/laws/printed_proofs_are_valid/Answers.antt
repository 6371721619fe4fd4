use Rattle.ssz_tool.proofs.PrintedProofs.{printed_proofs_are_valid_lem}
use Rattle.ssz_tool.proofs.laws.printed_proofs_are_valid.Goals as goal

pub returns : goal.returns
returns c = printed_proofs_are_valid_lem
