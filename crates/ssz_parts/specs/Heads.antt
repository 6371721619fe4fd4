-- An offset among the fixed parts of fields.
use Rattle.std.specs.Prelude.{ℕ, ◌==◌, nat_lt, if◌then◌else◌, Option, Some, None}
use Rattle.ssz_bytes.specs.declared.fault.Fault.{Fault}
use Rattle.ssz_bytes.specs.Faults.{first_offset, offset_range, offset_order}

-- the fault of the offset found at a position, where the fixed parts end at end and the scope at
-- len: of the first offset, or of one with another before it
abbrev pub offset_fault : Option ℕ → ℕ → ℕ → ℕ → ℕ → Option Fault
offset_fault None end len found position = if found == end then None else first_offset position
offset_fault (Some before) end len found position =
    if nat_lt len found then offset_range position
    else if nat_lt found before then offset_order position
    else None
