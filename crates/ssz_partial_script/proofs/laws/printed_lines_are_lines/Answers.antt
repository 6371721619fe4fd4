use Rattle.ssz_partial_script.proofs.OneLine.{printed_lines_are_lines_lem}
use Rattle.ssz_partial_script.proofs.laws.printed_lines_are_lines.Goals as goal

pub returns : goal.returns
returns c = printed_lines_are_lines_lem
