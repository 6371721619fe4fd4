use Rattle.std.proofs.Common.{◌≡◌, [], drop}
use Rattle.ssz_said.specs.Entries.{said_behind}
use Rattle.ssz_said.proofs.entries.read_entries.Given as goal

-- all come to what those to come do behind those that stand there
abbrev pub invariant-loop-entry : goal.invariant-loop-entry
invariant-loop-entry l =
    said_behind l.known.items (drop l.entry-index l.entries) ≡ said_behind [] l.entries
