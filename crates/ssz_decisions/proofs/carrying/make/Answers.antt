use Rattle.std.proofs.Common.{refl, sym, subst}
use Rattle.ssz_decisions.specs.Content.{EngineContent}
use Rattle.ssz_decisions.specs.Standing.{IsSomeVersion}
use Rattle.ssz_decisions.proofs.Entries.{are-made}
use Rattle.ssz_decisions.proofs.carrying.make.Goals as goal

pub invariant_of-store : goal.invariant_of-store
invariant_of-store g c =
    are-made _ _ _ c.store.invariant c.args.writer.0 c.as_name.result.now _ _ c.args.held
    refl c.put.ensures.entries
    (subst (λ (v : EngineContent). IsSomeVersion v.types v.arena c.args.held) (sym c.store.view_is)
    c.requires)
