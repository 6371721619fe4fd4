use Rattle.std.proofs.Common.{take}
use Rattle.std.specs.List.{AllZip}
use Rattle.ssz_types.specs.Copies.{IsSameEntry}
use Rattle.ssz_types.proofs.copying.copied_entries.Given as goal

abbrev pub invariant-loop-entry : goal.invariant-loop-entry
invariant-loop-entry l = AllZip IsSameEntry (take l.entry-index l.entries) l.copies.items
