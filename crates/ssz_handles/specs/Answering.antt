-- The calls of a session that do a statement of their arguments.
use Rattle.std.specs.Prelude.{◌≡◌, ℕ, List, Option, Some, None, Result, Ok, Err}
use Rattle.ssz_chunk.specs.Chunk.{sha_pair}
use Rattle.ssz_arena.specs.Content.{node_count}
use Rattle.ssz_script.specs.declared.statement.Statement.{Statement}
use Rattle.ssz_script.specs.declared.reply.Reply.{Reply}
use Rattle.ssz_machine.specs.State.{Versions}
use Rattle.ssz_engine.specs.Answered.{IsTurn}
use Rattle.ssz_decisions.specs.Content.{EngineContent as Engine, KeepsEngine}
use Rattle.ssz_decisions.specs.Standing.{StandsFor}
use Rattle.ssz_engine.specs.Steps.{CanAsk}
use Rattle.ssz_decisions.specs.declared.fault.EngineFault.{EngineFault}
use Rattle.ssz_decisions.specs.declared.fault.EngineFault.TheVariants as stop
use Rattle.ssz_said.specs.declared.status.TheConstants.{MOST_BYTES, NO_HANDLE, NO_READ, NO_WRITE, NO_MEMORY, TOO_LONG}
use Rattle.ssz_said.specs.Outcome.{CallOutcome, IsUnlessMemory, at_most, refused}
use Rattle.ssz_said.specs.Replies.{reply_taken}
use Rattle.ssz_handles.specs.declared.session.Session.{Session}
use Rattle.ssz_handles.specs.Scene.{LineScene, no_files}
use Rattle.ssz_handles.specs.Leaving.{StatementLeaves}
use Rattle.ssz_handles.specs.Session.{Saves, turn_of}

-- what the engine answered
abbrev pub Reached : Type 0
Reached = Result Reply EngineFault

-- what it comes to for C
abbrev pub answer_of : Reached → CallOutcome Reply
answer_of (Ok reply) = reply_taken reply
answer_of (Err stop.Read) = Err (refused NO_READ)
answer_of (Err stop.Write) = Err (refused NO_WRITE)
answer_of (Err stop.Memory) = Err (refused NO_MEMORY)

-- what a statement finds that is no line: the number is that of the last line
abbrev pub scene_at : Session → LineScene
scene_at session = record {
  engine = session.engine;
  hashed = session.hasher;
  line = session.lines;
}

-- what was stood for is stood for
abbrev pub Stays : LineScene → Engine → Type 0
Stays scene engine = (versions : ℕ → Versions) → StandsFor scene.engine versions
    → StandsFor engine versions

-- what a statement came to, whatever versions were stood for
abbrev pub StatementReaches : Reached → Statement → LineScene → Engine → Type 0
StatementReaches (Ok reply) statement scene engine =
    (versions : ℕ → Versions) → StandsFor scene.engine versions
    → IsTurn (turn_of scene versions (Some statement)) reply engine (Some no_files)
StatementReaches (Err stop.Read) statement scene engine =
    CanAsk sha_pair scene.engine 0 statement × Stays scene engine
StatementReaches (Err stop.Write) statement scene engine =
    Saves scene statement × Stays scene engine
StatementReaches (Err stop.Memory) statement scene engine = Stays scene engine

-- A statement was done in a session: no line is counted, and the reply to the last one stays.
pub record Turns (reached : Reached) (statement : Statement) (old new : Session) : Type 0 where
  pub keeps : KeepsEngine old.engine new.engine
  pub lines : new.lines ≡ old.lines
  pub text : new.reply ≡ old.reply
  pub does : StatementReaches reached statement (scene_at old) new.engine
  pub leaves : StatementLeaves reached statement (scene_at old) new.engine new.hasher

-- what comes of arguments: nothing, where they say no statement
abbrev pub ArgumentsDo : CallOutcome Statement → Session → Session → CallOutcome Reply → Type 0
ArgumentsDo (Err why) old new answer = (new ≡ old) × (answer ≡ Err why)
ArgumentsDo (Ok statement) old new answer =
    (reached : Reached) × Turns reached statement old new × (answer ≡ answer_of reached)

-- the same in what a handle holds before and after
abbrev pub DoesIn : CallOutcome Statement → Option Session → Option Session → CallOutcome Reply
    → Type 0
DoesIn said None new answer = (new ≡ None) × (answer ≡ Err (refused NO_HANDLE))
DoesIn said (Some old) None answer = ⊥
DoesIn said (Some old) (Some new) answer = ArgumentsDo said old new answer

-- the same of arguments that say this, unless memory runs out before
abbrev pub IsDone : CallOutcome Statement → Option Session → Option Session → CallOutcome Reply
    → Type 0
IsDone meant old new answer =
    (said : CallOutcome Statement) × IsUnlessMemory said meant × DoesIn said old new answer

-- What a call does whose arguments say this, by what its handle holds before and after, and what it
-- tells of the answer.
abbrev pub IsCall : CallOutcome Statement → Option Session → Option Session
    → (CallOutcome Reply → Type 0) → Type 0
IsCall meant old new Tells =
    (answer : CallOutcome Reply) × IsDone meant old new answer × Tells answer

-- bytes that are not too many, for what a handle holds
abbrev pub few_in : List ℕ → Option Session → CallOutcome (List ℕ)
few_in bytes None = Err (refused NO_HANDLE)
few_in bytes (Some session) = at_most TOO_LONG MOST_BYTES bytes

-- how many nodes there are
abbrev pub nodes_in : Option Session → CallOutcome ℕ
nodes_in None = Err (refused NO_HANDLE)
nodes_in (Some session) = Ok (node_count session.engine.arena)
