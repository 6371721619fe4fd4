use Rattle.std.proofs.Common.{◌≡◌, ◌++◌, drop}
use Rattle.ssz_typed.specs.Names.{name_lines}
use Rattle.ssz_typed.proofs.names.lines_of.Given as goal

-- what was written, and what is to come, are all
abbrev pub invariant-loop-part : goal.invariant-loop-part
invariant-loop-part l =
    l.text.items ++ name_lines (drop l.part-index l.names) ≡ name_lines l.names
