-- Where a part lies.
use Rattle.std.specs.Prelude.{ℕ, ◌+◌, List, Option, Some, None}
use Rattle.ssz_value.specs.Faults.{offset_at, next_offset}

-- from where to where the part of this size lies, before parts of these sizes
abbrev pub part_range : Option ℕ → List (Option ℕ) → ℕ → List ℕ → ℕ × ℕ
part_range (Some z) sizes place b = (place, place + z)
part_range None sizes place b = (offset_at b place, next_offset sizes (place + 4) b)
