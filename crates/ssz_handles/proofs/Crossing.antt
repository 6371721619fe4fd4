-- What a handle owns goes to another thread as what it holds does.
use base.Shift.{Keyless}
use mir.Raw.{raw}
use denote.RattleType.{RattleType}
use denote.Memory.{lone}
use denote.RawPtr.{Ptr}
use denote.Builtin.{RawPtr}
use denote.Param.Send.{IsSend, sendable}
use Rattle.std.specs.Global.{Global}
use Rattle.std.specs.Prelude.{Option, None, Some}
use Rattle.std.proofs.Crossing.{frees}
use Rattle.std_alloc.proofs.SendSync.{lies}
use Rattle.ssz_handles.specs.Held.{held_owns}

pub pointer : IsSend RawPtr
pointer = search sendable

pub owns : (R : RattleType) → IsSend R → (alloc : Global) (at : Ptr) (held : Option R.Denot)
    → Keyless (held_owns R alloc at held)
owns R crosses alloc at None = tt
owns R crosses alloc at (Some held) =
    (lies R crosses at held, frees.frees alloc (raw (lone R.mir)) at)
