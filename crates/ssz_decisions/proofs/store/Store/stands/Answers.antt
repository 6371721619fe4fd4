use Rattle.std.proofs.Common.{subst}
use Rattle.ssz_decisions.specs.Standing.{StandsForSome}
use Rattle.ssz_decisions.proofs.Brought.{over}
use Rattle.ssz_decisions.proofs.Held.{stands-for-some}
use Rattle.ssz_decisions.proofs.store.Store.stands.Goals as goal

pub returns : goal.returns
returns g c =
    let inside = c.self.inside in
    subst StandsForSome c.self.view_is
    (stands-for-some (over inside.schema inside.max inside.versions.entries inside.base
    inside.arena) c.self.invariant)
