-- What a reading call may answer.
use Rattle.std.specs.Prelude.{◌≡◌, Option, Some, None, Result, Ok, Err}
use Rattle.ssz_line.specs.declared.fault.LineFault.{LineFault}
use Rattle.ssz_line.specs.declared.fault.LineFault.TheVariants.{Syntax, Memory}

-- What the grammar reads, or Syntax exactly where it reads nothing. Want of memory may come in
-- place of either.
abbrev pub Reads : {A : Type 0} → Result A LineFault → Option A → Type 0
Reads (Ok x) read = read ≡ Some x
Reads (Err Syntax) read = read ≡ None
Reads (Err Memory) read = Unit {0}
