use Rattle.std.proofs.Common.{◌≡◌, take, map}
use Rattle.ssz_script.specs.Lines.{statements_in}
use Rattle.ssz_engine.proofs.weave.statements_of.Given as goal

abbrev pub invariant-loop-script : goal.invariant-loop-script
invariant-loop-script l = l.lines.items ≡ map statements_in (take l.script-index l.scripts)
