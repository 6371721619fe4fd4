use Rattle.std.proofs.Common.{◌≡◌, ◌++◌, drop, map}
use Rattle.ssz_said.specs.Entries.{entry_shown}
use Rattle.ssz_said.proofs.entries.shown.Given as goal

-- those that stand there, and those to come, are all
abbrev pub invariant-loop-entry : goal.invariant-loop-entry
invariant-loop-entry l =
    l.shown.items ++ map entry_shown (drop l.entry-index l.entries) ≡ map entry_shown l.entries
