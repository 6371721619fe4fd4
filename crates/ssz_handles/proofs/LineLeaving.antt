-- What the steps of an engine leave, as what the lines of a session do.
use Rattle.std.proofs.Common.{◌≡◌, ℕ, false, List, refl}
use Rattle.std.specs.Prelude.{Result, Ok, Err, IfOk, OnErr}
use Rattle.ssz_script.specs.declared.statement.Statement.{Statement}
use Rattle.ssz_machine.specs.Changes.{touch}
use Rattle.ssz_decisions.specs.Content.{EngineContent as Engine}
use Rattle.ssz_decisions.specs.Roots.{LeavesHashed}
use Rattle.ssz_decisions.specs.declared.outcome.Outcome.{Outcome as Ended}
use Rattle.ssz_decisions.specs.declared.outcome.Outcome.TheVariants.{Accepted, Refused}
use Rattle.ssz_decisions.specs.declared.fault.EngineFault.{EngineFault}
use Rattle.ssz_decisions.specs.declared.fault.EngineFault.TheVariants.{Read, Write, Memory}
use Rattle.ssz_engine.specs.Answered.{Effects}
use Rattle.ssz_engine.specs.Compacting.{compacted, is_compact}
use Rattle.ssz_engine.specs.Steps.{StatementForks, StatementUpgrades, TouchesWhere, WhereAccepted}
use Rattle.ssz_engine.specs.Tops.{Tops}
use Rattle.ssz_handles.specs.Scene.{LineScene}
use Rattle.ssz_handles.specs.Leaving.{SaidLeaves, StepLeft}
use Rattle.ssz_handles.specs.Session.{ran_of}

-- a statement that is no `compact` was no `compact` that was done
pub none-compacted : (statement : Statement) (ended : Result Ended EngineFault)
    → is_compact statement ≡ false → compacted statement ended ≡ false
none-compacted statement (Ok Accepted) is = is
none-compacted statement (Ok Refused) is = refl
none-compacted statement (Err fault) is = refl

-- the entries of a statement that was not done
pub entries-kept : {A : Type 0} (ended : Result A EngineFault) (old new : Engine)
    (Same : Type 0) → OnErr ended ((new.entries ≡ old.entries) × Same)
    → OnErr ended (new.entries ≡ old.entries)
entries-kept (Ok x) old new Same err = tt
entries-kept (Err fault) old new Same err = err.0

-- what a step says of entries and nodes, in one
pub effects-of : (statement : Statement) (old new : Engine) (ended : Result Ended EngineFault)
    → (compacted statement ended ≡ false
    → IfOk ended (λ made. TouchesWhere made (touch statement) 0 old.entries new.entries))
    → IfOk ended (λ made. WhereAccepted made (StatementForks statement 0 old.entries new.entries))
    → IfOk ended (λ made. WhereAccepted made (StatementUpgrades statement 0 old new))
    → IfOk ended (λ made. LeavesHashed statement 0 new)
    → IfOk ended (λ made. WhereAccepted made (Tops statement 0 old new))
    → IfOk ended (Effects statement 0 old new)
effects-of statement old new (Ok Accepted) entries forks upgrades roots tops = record {
  entries = entries;
  forks = forks;
  upgrades = upgrades;
  roots = roots;
  tops = tops;
}
effects-of statement old new (Ok Refused) entries forks upgrades roots tops = record {
  entries = λ is. entries refl;
  forks = forks;
  upgrades = upgrades;
  roots = roots;
  tops = tops;
}
effects-of statement old new (Err fault) entries forks upgrades roots tops = tt

-- what a step leaves is what its line does
pub step-leaves : (statement : Statement) (ended : Result Ended EngineFault) (scene : LineScene)
    (new : Engine) (after : ℕ) (reply : List ℕ)
    → StepLeft ended statement scene new after reply
    → SaidLeaves (ran_of ended) statement scene new after reply
step-leaves statement (Ok Accepted) scene new after reply left = left
step-leaves statement (Ok Refused) scene new after reply left = left
step-leaves statement (Err Read) scene new after reply left = left
step-leaves statement (Err Write) scene new after reply left = left
step-leaves statement (Err Memory) scene new after reply left = left
