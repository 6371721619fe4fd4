use denote.Param.Send.{IsSend}
use denote.Param.SendFields.{owner_send}
use Rattle.std.proofs.Crossing.{send as heap}
use Rattle.ssz_typed.specs.contracts.library.Library.{the_row as kept}
use Rattle.ssz_typed.proofs.library.Library.TheSendSync.{the_send as library}
use Rattle.ssz_handles.specs.contracts.held.Held.{the_row, the_type}
use Rattle.ssz_handles.proofs.Crossing.{pointer, owns}

pub send : IsSend the_row
send = owner_send the_type (pointer, (heap, tt))
    (λ held. owns kept library held.alloc held.at held.value) (λ k held w. tt)
