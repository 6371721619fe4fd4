-- What a session answers to a line: as the plain machine does, which keeps whole values.
use Rattle.std.specs.Prelude.{◌≡◌, ◌⊎◌, ◌<◌, ◌≤◌, ◌-◌, ℕ, IsSome, Bool, true, false, List, [], length, Option, Some, None, Result, Ok, Err}
use Rattle.ssz_chunk.specs.Chunk.{sha_pair}
use Rattle.ssz_outside.specs.Outcome.{next_count}
use Rattle.ssz_schema.specs.Unfolding.{Types}
use Rattle.ssz_script.specs.declared.statement.Statement.{Statement}
use Rattle.ssz_script.specs.Grammar.{statements, line_of}
use Rattle.ssz_script.specs.Literals.{HasShortLiteral}
use Rattle.ssz_script.specs.declared.reply.Reply.TheVariants as says
use Rattle.ssz_script.specs.declared.reply.TheConstants.Reply.{SYNTAX}
use Rattle.ssz_script.specs.Texts.{reply_line}
use Rattle.ssz_machine.specs.declared.place.Place.TheVariants as place
use Rattle.ssz_machine.specs.State.{Versions}
use Rattle.ssz_machine.specs.Machine.{Turn, step, reply_of, state_of, is_refused, save_of}
use Rattle.ssz_decisions.specs.Content.{EngineContent as Engine, rules_of, KeepsEngine}
use Rattle.ssz_decisions.specs.Standing.{StandsFor}
use Rattle.ssz_engine.specs.Steps.{CanAsk}
use Rattle.ssz_decisions.specs.declared.outcome.Outcome.{Outcome as Ended}
use Rattle.ssz_decisions.specs.declared.outcome.Outcome.TheVariants as outcome
use Rattle.ssz_decisions.specs.declared.fault.EngineFault.{EngineFault}
use Rattle.ssz_decisions.specs.declared.fault.EngineFault.TheVariants as stop
use Rattle.ssz_said.specs.declared.fault.SszFault.{SszFault}
use Rattle.ssz_handles.specs.declared.ran.Ran.{Ran}
use Rattle.ssz_handles.specs.declared.ran.Ran.TheVariants.{Quiet, Done, Refused, Unread, Unwritten, TooLong, Memory}
use Rattle.ssz_handles.specs.declared.session.Session.{Session}
use Rattle.ssz_said.specs.declared.status.TheConstants.{NO_HANDLE, REFUSED, NO_READ, NO_WRITE, TOO_LONG, NO_MEMORY, MOST_BYTES, MOST_SHOWN}
use Rattle.ssz_handles.specs.Scene.{LineScene, no_files}
use Rattle.ssz_handles.specs.Leaving.{LineLeaves}
use Rattle.ssz_typed.specs.declared.library.Library.{Library}
use Rattle.ssz_typed.specs.Library.{ReadsTypes}
use Rattle.ssz_typed.specs.Sharing.{schema_in}
use Rattle.ssz_said.specs.Outcome.{CallOutcome, done, refused}

-- what the next line of a session finds
abbrev pub scene_of : Session → LineScene
scene_of session = record {
  engine = session.engine;
  hashed = session.hasher;
  line = next_count session.lines;
}

-- The turn of the machine for what a line is, where the engine stands for these versions: a
-- statement, or None where it is not of the grammar. The number is the one that `hashes` prints.
abbrev pub turn_of : LineScene → (ℕ → Versions) → Option Statement → Turn
turn_of scene versions said =
    step (rules_of sha_pair scene.engine) place.Run (scene.hashed - scene.engine.base)
    (record { versions = versions; files = no_files }) 0 (scene.line, said)

-- A line was answered as the turn says: with its reply, and the engine stands for the versions
-- after it.
pub record AnswersLine (turn : Turn) (refusal : Bool) (engine : Engine) (reply : List ℕ)
    : Type 0 where
  pub outcome : is_refused turn ≡ refusal
  pub text : reply ≡ reply_line (reply_of turn)
  pub stands : StandsFor engine (state_of turn).versions

-- so it was, whatever versions were stood for
abbrev pub SessionTakes : Bool → Option Statement → LineScene → Engine → List ℕ → Type 0
SessionTakes refusal said scene engine reply =
    (versions : ℕ → Versions) → StandsFor scene.engine versions
    → AnswersLine (turn_of scene versions said) refusal engine reply

-- Nothing came of a line: there is no reply, and what was stood for is stood for.
pub record Rests (scene : LineScene) (engine : Engine) (reply : List ℕ) : Type 0 where
  pub text : reply ≡ []
  pub stands : (versions : ℕ → Versions) → StandsFor scene.engine versions
      → StandsFor engine versions

-- the statement writes into a file
abbrev pub Saves : LineScene → Statement → Type 0
Saves scene statement = (versions : ℕ → Versions) → StandsFor scene.engine versions
    → IsSome (save_of (turn_of scene versions (Some statement)))

-- what a statement came to
abbrev pub StatementDoes : Ran → Statement → LineScene → Engine → List ℕ → Type 0
StatementDoes Quiet statement scene engine reply = ⊥
StatementDoes Done statement scene engine reply =
    SessionTakes false (Some statement) scene engine reply
StatementDoes Refused statement scene engine reply =
    SessionTakes true (Some statement) scene engine reply
StatementDoes Unread statement scene engine reply =
    CanAsk sha_pair scene.engine 0 statement × Rests scene engine reply
StatementDoes Unwritten statement scene engine reply =
    Saves scene statement × Rests scene engine reply
StatementDoes TooLong statement scene engine reply =
    (¬ HasShortLiteral statement) × Rests scene engine reply
StatementDoes Memory statement scene engine reply = Rests scene engine reply

-- what a statement's line came to, by how its step ended
abbrev pub ran_of : Result Ended EngineFault → Ran
ran_of (Ok outcome.Accepted) = Done
ran_of (Ok outcome.Refused) = Refused
ran_of (Err stop.Read) = Unread
ran_of (Err stop.Write) = Unwritten
ran_of (Err stop.Memory) = Memory

-- what a line of the grammar came to
abbrev pub DoesSaid : Ran → List ℕ → LineScene → Engine → List ℕ → Type 0
DoesSaid ran text scene engine reply =
    (statement : Statement) × (line_of statements text ≡ Some (Some statement))
    × StatementDoes ran statement scene engine reply

-- the refusal of a line that is not of the grammar
abbrev pub Refuses : Ran → ℕ → List ℕ → Type 0
Refuses Refused line reply = reply ≡ reply_line (says.Refused line SYNTAX None)
Refuses Memory line reply = reply ≡ []
Refuses ran line reply = ⊥

-- What a line came to: one that says nothing to nothing, one that is not of the grammar to a
-- refusal.
abbrev pub SessionDoesLine : Ran → List ℕ → LineScene → Engine → List ℕ → Type 0
SessionDoesLine Quiet text scene engine reply =
    (line_of statements text ≡ Some None) × Rests scene engine reply
SessionDoesLine Refused text scene engine reply =
    ((line_of statements text ≡ None) × SessionTakes true None scene engine reply)
    ⊎ DoesSaid Refused text scene engine reply
SessionDoesLine TooLong text scene engine reply =
    ((MOST_BYTES < length text) × Rests scene engine reply)
    ⊎ DoesSaid TooLong text scene engine reply
SessionDoesLine Memory text scene engine reply =
    (length text ≤ MOST_BYTES) × Rests scene engine reply
SessionDoesLine ran text scene engine reply = DoesSaid ran text scene engine reply

-- A line of a session came to this; it is counted, and the types and the limit stay. The count of
-- hashed pairs is the hasher's.
pub record SessionRuns (ran : Ran) (text : List ℕ) (old new : Session) : Type 0 where
  pub keeps : KeepsEngine old.engine new.engine
  pub lines : new.lines ≡ next_count old.lines
  pub does : SessionDoesLine ran text (scene_of old) new.engine new.reply.items
  pub leaves : LineLeaves (line_of statements text) ran (scene_of old) new.engine new.hasher
      new.reply.items

-- a status with the number of a line
abbrev pub at_line : ℕ → ℕ → SszFault
at_line status line = record { status = status; code = 0; position = line }

-- the fault of what a line came to
abbrev pub session_fault : ℕ → Ran → SszFault
session_fault line Quiet = done
session_fault line Done = done
session_fault line Refused = at_line REFUSED line
session_fault line Unread = at_line NO_READ line
session_fault line Unwritten = at_line NO_WRITE line
session_fault line TooLong = at_line TOO_LONG line
session_fault line Memory = at_line NO_MEMORY line

-- what a handle holds after a line, the length of the reply where another number stood, and the
-- fault
abbrev pub IsRun : List ℕ → Option Session → Option Session → ℕ → ℕ → SszFault → Type 0
IsRun text None new before len fault =
    (new ≡ None) × (len ≡ before) × (fault ≡ refused NO_HANDLE)
IsRun text (Some old) None before len fault = ⊥
IsRun text (Some old) (Some new) before len fault =
    (len ≡ length new.reply.items)
    × ((ran : Ran) × SessionRuns ran text old new × (fault ≡ session_fault new.lines ran))

-- the reply to the last line
abbrev pub session_reply : Option Session → CallOutcome (List ℕ)
session_reply None = Err (refused NO_HANDLE)
session_reply (Some session) = Ok session.reply.items

-- A session as it begins: no version, no line, no reply.
pub record Begins (session : Session) : Type 0 where
  pub most : session.engine.most ≡ MOST_SHOWN
  pub stands : StandsFor session.engine (λ writer. [])
  pub base : session.engine.base ≡ session.hasher
  pub lines : session.lines ≡ 0
  pub reply : session.reply.items ≡ []

-- a session over the types that the bytes define, or why there is none
abbrev pub Starts : CallOutcome Session → List ℕ → Type 0
Starts (Ok session) bytes = ReadsTypes (Ok session.engine.types) bytes × Begins session
Starts (Err fault) bytes = ReadsTypes (Err fault) bytes

-- a handle that holds such a session, or none and why
abbrev pub IsStarted : Option Session → SszFault → List ℕ → Type 0
IsStarted (Some session) fault bytes = Starts (Ok session) bytes × (fault ≡ done)
IsStarted None fault bytes = Starts (Err fault) bytes

-- a session over a schema that is there, unless memory runs out
abbrev pub StartsOn : Types → CallOutcome Session → Type 0
StartsOn types (Ok session) = (session.engine.types ≡ types) × Begins session
StartsOn types (Err fault) = fault ≡ refused NO_MEMORY

-- a handle that holds a session over the schema that another holds, or none and why
abbrev pub IsStartedOn : Option Library → Option Session → SszFault → Type 0
IsStartedOn None session fault = (session ≡ None) × (fault ≡ refused NO_HANDLE)
IsStartedOn (Some library) None fault = StartsOn (schema_in library) (Err fault)
IsStartedOn (Some library) (Some session) fault =
    StartsOn (schema_in library) (Ok session) × (fault ≡ done)
