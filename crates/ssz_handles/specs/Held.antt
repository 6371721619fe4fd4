-- What a handle owns: a box of what it holds, or nothing.
use base.Fml.{Fml, ftrue}
use base.Stored.{Coded}
use denote.RattleType.{RattleType}
use denote.RawPtr.{Ptr}
use Rattle.std.specs.Box.Ownership.{box_owns}
use Rattle.std.specs.Coded.{coded_option}
use Rattle.std.specs.Global.{Global}
use Rattle.std.specs.Prelude.{ℕ, Option, None, Some}
use Rattle.std_heap.specs.contracts.GlobalAllocator.TheImpl.{ghosts}
use Rattle.ssz_typed.specs.contracts.library.Library as library
use Rattle.ssz_typed.specs.contracts.checked_bytes.CheckedBytes as checked
use Rattle.ssz_handles.specs.contracts.session.Session as session

-- the box of what is held, at its place, or nothing
abbrev pub held_owns : (R : RattleType) → Global → Ptr → Option R.Denot → Fml
held_owns R alloc at None = ftrue
held_owns R alloc at (Some held) = box_owns (ghosts.dealloc_token alloc) R at held

-- the same of a schema, of a session, and of a slice
abbrev pub schema_owns : Global → Ptr → Option library.the_row.Denot → Fml
schema_owns = held_owns library.the_row

abbrev pub session_owns : Global → Ptr → Option session.the_row.Denot → Fml
session_owns = held_owns session.the_row

abbrev pub slice_owns : Global → Ptr → Option checked.the_row.Denot → Fml
slice_owns = held_owns checked.the_row

abbrev pub library_coded : Coded (Option library.the_row.Denot)
library_coded = coded_option library.the_row.coded

abbrev pub session_coded : Coded (Option session.the_row.Denot)
session_coded = coded_option session.the_row.coded

abbrev pub slice_coded : Coded (Option checked.the_row.Denot)
slice_coded = coded_option checked.the_row.coded

-- the mark of its kind where a handle holds something, else 0
abbrev pub live_of : {A : Type 0} → ℕ → Option A → ℕ
live_of mark None = 0
live_of mark (Some held) = mark
