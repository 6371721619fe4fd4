use Rattle.std.proofs.Common.{◌≡◌, ◌++◌, take}
use Rattle.ssz_proof.specs.Text.{entries_text}
use Rattle.ssz_proof.proofs.text.push_entries.Given as goal

abbrev pub invariant-loop-entry : goal.invariant-loop-entry
invariant-loop-entry l =
    l.text.items ≡ l.initial.text.items ++ entries_text (take l.entry-index l.entries)
