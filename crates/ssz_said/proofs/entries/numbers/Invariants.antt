use Rattle.std.proofs.Common.{◌≡◌, ◌++◌, drop}
use Rattle.ssz_said.specs.Entries.{numbers_said}
use Rattle.ssz_said.proofs.entries.numbers.Given as goal

-- those that stand there, and those to come, are all
abbrev pub invariant-loop-index : goal.invariant-loop-index
invariant-loop-index l =
    l.numbers.items ++ numbers_said (drop l.index-index l.indices) ≡ numbers_said l.indices
