-- What a statement leaves of a session's engine, and of the count of its pairs: all that the engine
-- says of it.
use Rattle.std.specs.Prelude.{◌≡◌, ℕ, ◌+◌, ◌≤◌, true, false, List, [], Option, Some, Result, Ok, Err, IfOk, OnOk, OnErr}
use Rattle.ssz_chunk.specs.Chunk.{sha_pair}
use Rattle.ssz_arena.specs.Content.{KeepsNodes, node_count, unhashed}
use Rattle.ssz_script.specs.declared.reply.Reply.{Reply}
use Rattle.ssz_script.specs.declared.statement.Statement.{Statement}
use Rattle.ssz_machine.specs.declared.place.Place.TheVariants as place
use Rattle.ssz_machine.specs.Counts.{asks_root}
use Rattle.ssz_versions.specs.Compacted.{IsCompacted}
use Rattle.ssz_decisions.specs.Content.{EngineContent as Engine}
use Rattle.ssz_decisions.specs.Roots.{HashesDue, HashesSome}
use Rattle.ssz_decisions.specs.declared.outcome.Outcome.{Outcome as Ended}
use Rattle.ssz_decisions.specs.declared.outcome.Outcome.TheVariants as outcome
use Rattle.ssz_decisions.specs.declared.fault.EngineFault.{EngineFault}
use Rattle.ssz_decisions.specs.declared.fault.EngineFault.TheVariants as stop
use Rattle.ssz_engine.specs.Answered.{DoesAnswer, Effects}
use Rattle.ssz_engine.specs.Compacting.{compacted, is_compact}
use Rattle.ssz_engine.specs.Steps.{DoesStep, StatementFindsFile}
use Rattle.ssz_handles.specs.declared.ran.Ran.{Ran}
use Rattle.ssz_handles.specs.declared.ran.Ran.TheVariants.{Quiet, Done, Refused, Unread, Unwritten, TooLong, Memory}
use Rattle.ssz_handles.specs.Scene.{LineScene, no_files}

-- What is left by a statement, however it ended.
pub record Leaves {A : Type 0} (ended : Result A EngineFault) (statement : Statement)
    (scene : LineScene) (engine : Engine) (hashed : ℕ) : Type 0 where
  -- each node is there, with the same tree and no more to be hashed, but after `compact`
  pub nodes : is_compact statement ≡ false → KeepsNodes scene.engine.arena engine.arena
  -- one that was not done adds no node and changes no entry, and `compact` then nothing at all
  pub whole : OnErr ended (node_count engine.arena ≡ node_count scene.engine.arena)
  pub entries : OnErr ended (engine.entries ≡ scene.engine.entries)
  pub intact : is_compact statement ≡ true → OnErr ended (engine ≡ scene.engine)
  -- one that reads a file was not done, since each is absent
  pub finds : OnOk ended (StatementFindsFile sha_pair scene.engine 0 statement (Some no_files))
  -- what is hashed was to be hashed: for `root` and `prove`, of the version that they are of
  pub rises : scene.hashed ≤ hashed
  pub most : hashed ≤ scene.hashed + unhashed scene.engine.arena
  pub due : HashesDue statement 0 scene.engine scene.hashed hashed
  -- a root hashes something where something is to be hashed, and others nothing
  pub some : OnOk ended (HashesSome statement 0 scene.engine scene.hashed hashed)
  pub still : asks_root (Some statement) ≡ false → hashed ≡ scene.hashed

-- What is left by a statement whose reply is answered as a value.
pub record StatementLeaves (reached : Result Reply EngineFault) (statement : Statement)
    (scene : LineScene) (engine : Engine) (hashed : ℕ) : Type 0 where
  pub each : Leaves reached statement scene engine hashed
  -- no node is left that no version needs, and no root is lost
  pub compacts : is_compact statement ≡ true → OnOk reached (IsCompacted scene.engine.entries
      engine.entries scene.engine.arena engine.arena)
  -- the entries and nodes that it makes, and its charges
  pub does : IfOk reached (DoesAnswer sha_pair place.Run 0 scene.line statement scene.engine engine
      scene.hashed hashed (Some no_files) (Some no_files))

-- What is left by a statement whose reply is written as a line.
pub record StepLeft (ended : Result Ended EngineFault) (statement : Statement) (scene : LineScene)
    (engine : Engine) (hashed : ℕ) (reply : List ℕ) : Type 0 where
  pub each : Leaves ended statement scene engine hashed
  pub compacts : compacted statement ended ≡ true → IsCompacted scene.engine.entries engine.entries
      scene.engine.arena engine.arena
  pub does : IfOk ended (DoesStep sha_pair place.Run 0 scene.line statement scene.engine engine
      scene.hashed hashed (Some no_files) (Some no_files) [] reply)
  pub effects : IfOk ended (Effects statement 0 scene.engine engine)
  -- what is refused hashes nothing
  pub refused : IfOk ended (λ made. made ≡ outcome.Refused → hashed ≡ scene.hashed)

-- nothing was done, and nothing is changed
abbrev pub LeavesAll : LineScene → Engine → ℕ → Type 0
LeavesAll scene engine hashed = (engine ≡ scene.engine) × (hashed ≡ scene.hashed)

-- what is left by the line of a statement, by what it came to: one that is too long is not done
abbrev pub SaidLeaves : Ran → Statement → LineScene → Engine → ℕ → List ℕ → Type 0
SaidLeaves Quiet statement scene engine hashed reply = ⊥
SaidLeaves Done statement scene engine hashed reply =
    StepLeft (Ok outcome.Accepted) statement scene engine hashed reply
SaidLeaves Refused statement scene engine hashed reply =
    StepLeft (Ok outcome.Refused) statement scene engine hashed reply
SaidLeaves Unread statement scene engine hashed reply =
    StepLeft (Err stop.Read) statement scene engine hashed reply
SaidLeaves Unwritten statement scene engine hashed reply =
    StepLeft (Err stop.Write) statement scene engine hashed reply
SaidLeaves TooLong statement scene engine hashed reply = LeavesAll scene engine hashed
SaidLeaves Memory statement scene engine hashed reply =
    StepLeft (Err stop.Memory) statement scene engine hashed reply

-- what is left by a line: one that says no statement leaves all as it was
abbrev pub LineLeaves : Option (Option Statement) → Ran → LineScene → Engine → ℕ → List ℕ → Type 0
LineLeaves (Some (Some statement)) ran scene engine hashed reply =
    SaidLeaves ran statement scene engine hashed reply
LineLeaves said ran scene engine hashed reply = LeavesAll scene engine hashed
