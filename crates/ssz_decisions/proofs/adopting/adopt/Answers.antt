use Rattle.std.proofs.Common.{refl}
use Rattle.ssz_machine.specs.Plays.{base_writer}
use Rattle.ssz_decisions.proofs.Entries.{are-adopted-or-same}
use Rattle.ssz_decisions.proofs.adopting.adopt.Goals as goal

pub invariant_of-store : goal.invariant_of-store
invariant_of-store g c =
    are-adopted-or-same c.adopt.result _ _ _ _ _ base_writer c.args.writer.0 refl
    c.store.invariant c.adopt.ensures.ok c.adopt.ensures.err
