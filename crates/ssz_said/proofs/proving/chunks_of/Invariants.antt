use Rattle.std.proofs.Common.{◌≡◌, ◌++◌, drop}
use Rattle.ssz_said.specs.Proving.{chunks_in}
use Rattle.ssz_said.proofs.proving.chunks_of.Given as goal

-- what was put there, and what is to come, are all
abbrev pub invariant-loop-entry : goal.invariant-loop-entry
invariant-loop-entry l =
    l.bytes.items ++ chunks_in (drop l.entry-index l.entries) ≡ chunks_in l.entries
