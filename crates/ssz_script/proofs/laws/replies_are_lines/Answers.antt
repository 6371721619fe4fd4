use Rattle.ssz_script.proofs.OneLineLemmas.{replies_are_lines_lem}
use Rattle.ssz_script.proofs.laws.replies_are_lines.Goals as goal

pub returns : goal.returns
returns c = replies_are_lines_lem
