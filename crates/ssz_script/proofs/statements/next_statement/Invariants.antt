use Rattle.std.proofs.Common.{◌≡◌, length}
use Rattle.ssz_script.specs.Grammar.{statements}
use Rattle.ssz_script.specs.Lines.{lines_said}
use Rattle.ssz_script.proofs.statements.next_statement.Given as goal

-- the lines that were passed say nothing
abbrev pub invariant-loop-line : goal.invariant-loop-line
invariant-loop-line l = lines_said statements l.lines ≡ lines_said statements l.fn.lines

abbrev pub decreases-loop-line : goal.decreases-loop-line
decreases-loop-line l = length l.lines
