-- What a call that edits a value in place says by its answer.
use Rattle.std.specs.Prelude.{Result, Ok, Err}
use Rattle.ssz_value.specs.declared.edit_fault.EditFault.{EditFault}
use Rattle.ssz_value.specs.declared.edit_fault.EditFault.TheVariants.{Memory}
use Rattle.ssz_value.specs.Values.{SszValue}
use Rattle.ssz_value.specs.Edits.{Edited}

-- what came of an edit: the value that there is now, or why it is not edited
abbrev pub edit_outcome : Result Unit EditFault → SszValue → Edited
edit_outcome (Ok done) now = Ok now
edit_outcome (Err fault) now = Err fault

-- want of memory, or this
abbrev pub OrMemory : Result Unit EditFault → Type 0 → Type 0
OrMemory (Err Memory) P = Unit {0}
OrMemory answer P = P
