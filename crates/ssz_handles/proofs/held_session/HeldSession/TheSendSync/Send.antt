use denote.Param.Send.{IsSend, sendable}
use denote.Param.SendFields.{owner_send}
use Rattle.std.proofs.Crossing.{crosses, send as heap}
use Rattle.std.proofs.MapsCrossing.{crosses as maps}
use Rattle.ssz_versions.proofs.tree.Tree.TheLaws.TheKnot.{crosses as trees}
use Rattle.ssz_handles.specs.contracts.session.Session.{the_row as kept}
use Rattle.ssz_handles.specs.contracts.held_session.HeldSession.{the_row, the_type}
use Rattle.ssz_handles.proofs.Crossing.{pointer, owns}

session : IsSend kept
session = search (maps, crosses, trees, sendable) depth 60 fits 20000

pub send : IsSend the_row
send = owner_send the_type (pointer, (heap, tt))
    (λ held. owns kept session held.alloc held.at held.value) (λ k held w. tt)
