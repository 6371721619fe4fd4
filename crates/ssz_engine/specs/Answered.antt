-- What a statement leaves whose reply is answered as a value.
use Rattle.std.specs.Prelude.{◌≡◌, ◌-◌, ℕ, false, [], Option}
use Rattle.ssz_outside.specs.Content.{Content as Files}
use Rattle.ssz_proof.specs.Calculation.{PairOf}
use Rattle.ssz_script.specs.declared.statement.Statement.{Statement}
use Rattle.ssz_script.specs.declared.reply.Reply.{Reply}
use Rattle.ssz_script.specs.Texts.{reply_line}
use Rattle.ssz_machine.specs.declared.place.Place.{Place}
use Rattle.ssz_machine.specs.State.{Versions}
use Rattle.ssz_machine.specs.Machine.{Turn, reply_of, state_of}
use Rattle.ssz_machine.specs.Changes.{touch}
use Rattle.ssz_engine.specs.Compacting.{is_compact}
use Rattle.ssz_decisions.specs.Content.{EngineContent}
use Rattle.ssz_decisions.specs.Standing.{StandsFor}
use Rattle.ssz_decisions.specs.Roots.{LeavesHashed}
use Rattle.ssz_engine.specs.Steps.{DoesStep, StatementForks, StatementUpgrades, TouchesWhere, WhereAccepted, turn_at}
use Rattle.ssz_engine.specs.Tops.{Tops}
use Rattle.ssz_decisions.specs.Outside.{FilesHold}
use Rattle.ssz_decisions.specs.declared.outcome.Outcome.{Outcome}
use Rattle.ssz_decisions.specs.declared.outcome.Outcome.TheVariants.{Refused}

-- A statement was answered as the turn says: with its reply, and the engine and the files stand
-- for the state after it.
pub record IsTurn (turn : Turn) (reply : Reply) (engine : EngineContent) (told : Option Files)
    : Type 0 where
  pub says : reply ≡ reply_of turn
  pub versions : StandsFor engine (state_of turn).versions
  pub files : FilesHold told (state_of turn).files

-- What a statement that was done leaves of the names and the nodes, by how it ended.
pub record Effects (statement : Statement) (writer : ℕ) (old new : EngineContent) (made : Outcome)
    : Type 0 where
  -- only what the table of statements names changes; `compact` moves all
  pub entries : is_compact statement ≡ false
      → TouchesWhere made (touch statement) writer old.entries new.entries
  -- a fork holds what its source holds, the same node
  pub forks : WhereAccepted made (StatementForks statement writer old.entries new.entries)
  -- what an upgrade makes has no more to be hashed than what it was made of, and the charge
  pub upgrades : WhereAccepted made (StatementUpgrades statement writer old new)
  -- a root leaves nothing to be hashed of what it was asked of
  pub roots : LeavesHashed statement writer new
  -- what is edited below its top has a new pair there
  pub tops : WhereAccepted made (Tops statement writer old new)

-- A statement was answered: it was done as by a step that says the reply's line alone, and the
-- reply is that of the machine's turn, whatever versions the engine stood for.
pub record DoesAnswer (pair_of : PairOf) (place : Place) (writer line : ℕ) (statement : Statement)
    (old new : EngineContent) (before after : ℕ) (told_old told_new : Option Files) (reply : Reply)
    : Type 0 where
  pub made : Outcome
  pub step : DoesStep pair_of place writer line statement old new before after told_old told_new
      [] (reply_line reply) made
  pub turns : (versions : ℕ → Versions) → StandsFor old versions
      → IsTurn (turn_at pair_of old place (before - old.base) writer line statement versions
      step.files) reply new told_new
  pub effects : Effects statement writer old new made
  -- what is refused hashes nothing
  pub refused : made ≡ Refused → after ≡ before
