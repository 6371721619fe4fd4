use denote.Param.Send.{IsSend}
use denote.Param.SendFields.{owner_send}
use Rattle.std.proofs.Crossing.{send as heap}
use Rattle.ssz_typed.specs.contracts.checked_bytes.CheckedBytes.{the_row as kept}
use Rattle.ssz_typed.proofs.checked_bytes.CheckedBytes.TheSendSync.{the_send as checked}
use Rattle.ssz_handles.specs.contracts.held_slice.HeldSlice.{the_row, the_type}
use Rattle.ssz_handles.proofs.Crossing.{pointer, owns}

pub send : IsSend the_row
send = owner_send the_type (pointer, (heap, tt))
    (λ held. owns kept checked held.alloc held.at held.value) (λ k held w. tt)
