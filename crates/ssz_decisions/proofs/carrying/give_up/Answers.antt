use Rattle.std.proofs.Common.{refl}
use Rattle.ssz_decisions.proofs.Entries.{are-left}
use Rattle.ssz_decisions.proofs.carrying.give_up.Goals as goal

pub invariant_of-store : goal.invariant_of-store
invariant_of-store g c =
    are-left _ _ _ c.store.invariant c.args.writer.0 c.as_name.result.now _ _ refl
    c.in-Ok.ensures.dropped.1
