-- What the steps of an engine make of the lines of a session.
use Rattle.std.proofs.Common.{◌≡◌, ℕ, ◌-◌, ◌≤◌, false, List, [], ◌++◌, length, Some, refl, sym, ap, ◌∙◌, subst, inr}
use Rattle.std.specs.Prelude.{Result, Ok, Err, IfOk, IfErr, OnErr, is_some}
use Rattle.ssz_chunk.specs.Chunk.{sha_pair}
use Rattle.ssz_arena.specs.Content.{KeepsNodes}
use Rattle.ssz_outside.specs.Content.{Content as Files}
use Rattle.ssz_script.specs.declared.statement.Statement.{Statement}
use Rattle.ssz_script.specs.Texts.{reply_line}
use Rattle.ssz_machine.specs.declared.place.Place.TheVariants as place
use Rattle.ssz_machine.specs.State.{Versions}
use Rattle.ssz_machine.specs.Machine.{Turn, reply_of}
use Rattle.ssz_engine.specs.Compacting.{compacted}
use Rattle.ssz_decisions.specs.Content.{EngineContent as Engine, KeepsEngine}
use Rattle.ssz_decisions.specs.Standing.{StandsFor, StandsForVersions}
use Rattle.ssz_engine.specs.Steps.{DoesStep, StepLeaves, SavesPart, Stops, is_refusal, turn_at}
use Rattle.ssz_decisions.specs.declared.outcome.Outcome.{Outcome}
use Rattle.ssz_decisions.specs.declared.outcome.Outcome.TheVariants.{Accepted, Refused}
use Rattle.ssz_decisions.specs.declared.fault.EngineFault.{EngineFault}
use Rattle.ssz_decisions.specs.declared.fault.EngineFault.TheVariants.{Read, Write, Memory}
use Rattle.ssz_decisions.proofs.Standing.{stand-kept}
use Rattle.ssz_said.specs.declared.status.TheConstants.{MOST_BYTES}
use Rattle.ssz_handles.specs.declared.ran.Ran.{Ran}
use Rattle.ssz_handles.specs.declared.ran.Ran.TheVariants as ran
use Rattle.ssz_handles.specs.Scene.{LineScene, no_files}
use Rattle.ssz_handles.specs.Session.{StatementDoes, SessionDoesLine, DoesSaid, Rests, SessionTakes, ran_of}

-- an engine with the same types and entries, in which each node is kept, stands for the same
pub stands-kept : (old new : Engine) → KeepsEngine old new → new.entries ≡ old.entries
    → KeepsNodes old.arena new.arena → (versions : ℕ → Versions) → StandsFor old versions
    → StandsFor new versions
stands-kept old new keeps same nodes versions stands = record {
  each = λ writer.
      subst (λ types. StandsForVersions types new.arena new.entries writer (versions writer))
      (sym keeps.types)
      (subst (λ entries. StandsForVersions old.types new.arena entries writer (versions writer))
      (sym same)
      (stand-kept old.types old.arena old.entries writer (versions writer) (stands.each writer)
      new.arena nodes));
}

module _ (scene : LineScene) (statement : Statement) (new : Engine) (after : ℕ)
    (reply more : List ℕ) (empty : reply ≡ []) where
  abbrev number : ℕ
  number = scene.hashed - scene.engine.base

  abbrev turn : (ℕ → Versions) → Files → Turn
  turn versions files =
      turn_at sha_pair scene.engine place.Run number 0 scene.line statement versions files

  -- as the machine's turn, over files that are no files
  takes : (made : Outcome) (files : Files) → no_files ≡ files
      → ((versions : ℕ → Versions) → StandsFor scene.engine versions
      → StepLeaves (turn versions files) made new (Some no_files) reply more)
      → SessionTakes (is_refusal made) (Some statement) scene new more
  takes made files same leaves versions stands =
      let left = subst (λ files.
      StepLeaves (turn versions files) made new (Some no_files) reply more)
      (sym same) (leaves versions stands) in
      record {
        outcome = sym left.outcome;
        text = left.text
            ∙ ap (λ front. front ++ reply_line (reply_of (turn versions no_files))) empty;
        stands = left.versions;
      }

  -- nothing came of it
  rests : (fault : EngineFault) → KeepsEngine scene.engine new
      → (new.entries ≡ scene.engine.entries) × (more ≡ reply)
      → KeepsNodes scene.engine.arena new.arena → Rests scene new more
  rests fault keeps err nodes = record {
    text = err.1 ∙ empty;
    stands = stands-kept scene.engine new keeps err.0 nodes;
  }

  -- a statement does what its step did
  pub step-does : (result : Result Outcome EngineFault)
      → IfOk result (DoesStep sha_pair place.Run 0 scene.line statement scene.engine new
      scene.hashed after (Some no_files) (Some no_files) reply more)
      → IfErr result (λ fault. Stops fault sha_pair place.Run 0 scene.line number statement
      scene.engine (Some no_files) (Some no_files))
      → OnErr result ((new.entries ≡ scene.engine.entries) × (more ≡ reply))
      → KeepsEngine scene.engine new
      → (compacted statement result ≡ false → KeepsNodes scene.engine.arena new.arena)
      → StatementDoes (ran_of result) statement scene new more
  step-does (Ok Accepted) ok stops err keeps nodes = takes Accepted ok.files ok.tells ok.leaves
  step-does (Ok Refused) ok stops err keeps nodes = takes Refused ok.files ok.tells ok.leaves
  step-does (Err Read) ok stops err keeps nodes = (stops.1, rests Read keeps err (nodes refl))
  step-does (Err Write) ok stops err keeps nodes = (
    (λ versions stands.
        let part = subst (λ files. SavesPart (turn versions files) (Some no_files) (Some no_files))
        (sym stops.tells) (stops.part versions stands) in
        ap is_some part.1),
    rests Write keeps err (nodes refl),
  )
  step-does (Err Memory) ok stops err keeps nodes = rests Memory keeps err (nodes refl)

-- what a statement's line came to
pub said-does : (it : Ran) (text : List ℕ) (scene : LineScene) (new : Engine) (reply : List ℕ)
    → length text ≤ MOST_BYTES → DoesSaid it text scene new reply
    → SessionDoesLine it text scene new reply
said-does ran.Quiet text scene new reply few said = absurd said.2
said-does ran.Done text scene new reply few said = said
said-does ran.Refused text scene new reply few said = inr said
said-does ran.Unread text scene new reply few said = said
said-does ran.Unwritten text scene new reply few said = said
said-does ran.TooLong text scene new reply few said = inr said
said-does ran.Memory text scene new reply few said = (few, said.2)
