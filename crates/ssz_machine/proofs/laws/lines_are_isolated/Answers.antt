use Rattle.ssz_machine.proofs.IsolatedLines.{lines_are_isolated_lem}
use Rattle.ssz_machine.proofs.laws.lines_are_isolated.Goals as goal

pub returns : goal.returns
returns c = lines_are_isolated_lem
