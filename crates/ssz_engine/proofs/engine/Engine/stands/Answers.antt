use Rattle.std.proofs.Common.{subst}
use Rattle.ssz_decisions.specs.Standing.{StandsForSome}
use Rattle.ssz_engine.proofs.engine.Engine.stands.Goals as goal

pub returns : goal.returns
returns g c = subst StandsForSome c.self.view_is c.stands.ensures
