use Rattle.std.proofs.Common.{arith}
use Rattle.ssz_line.proofs.LinesLength.{length-lines}
use Rattle.ssz_line.proofs.lines.Lines.new.Goals as goal

pub invariant_of-result : goal.invariant_of-result
invariant_of-result c = omega (arith, length-lines c.args.script.now)
