-- What the answers of an engine make of the statements of a session.
use Rattle.std.proofs.Common.{◌≡◌, ◌-◌, ℕ, Bool, true, false, Some, refl, sym, ap, subst}
use Rattle.std.specs.Prelude.{Result, Ok, Err, IfOk, IfErr, OnErr, is_some}
use Rattle.ssz_chunk.specs.Chunk.{sha_pair}
use Rattle.ssz_arena.specs.Content.{KeepsNodes}
use Rattle.ssz_script.specs.declared.reply.Reply.{Reply}
use Rattle.ssz_script.specs.declared.statement.Statement.{Statement}
use Rattle.ssz_machine.specs.declared.place.Place.TheVariants as place
use Rattle.ssz_engine.specs.Answered.{DoesAnswer, IsTurn}
use Rattle.ssz_engine.specs.Compacting.{is_compact}
use Rattle.ssz_decisions.specs.Content.{EngineContent as Engine, KeepsEngine}
use Rattle.ssz_engine.specs.Steps.{SavesPart, Stops, turn_at}
use Rattle.ssz_decisions.specs.declared.fault.EngineFault.{EngineFault}
use Rattle.ssz_decisions.specs.declared.fault.EngineFault.TheVariants.{Read, Write, Memory}
use Rattle.ssz_engine.proofs.Moving.{kept-whole}
use Rattle.ssz_handles.specs.Scene.{LineScene, no_files}
use Rattle.ssz_handles.specs.Answering.{StatementReaches}
use Rattle.ssz_handles.proofs.LineSteps.{stands-kept}

module _ (scene : LineScene) (statement : Statement) (new : Engine) (after : ℕ)
    (keeps : KeepsEngine scene.engine new) where
  abbrev number : ℕ
  number = scene.hashed - scene.engine.base

  -- a statement that was not done gives up no node
  kept : (is_compact statement ≡ false → KeepsNodes scene.engine.arena new.arena)
      → (is_compact statement ≡ true → new ≡ scene.engine)
      → KeepsNodes scene.engine.arena new.arena
  kept nodes whole = by (is_compact statement) refl
    where
      by : (test : Bool) → is_compact statement ≡ test → KeepsNodes scene.engine.arena new.arena
      by true is = kept-whole scene.engine new (whole is)
      by false is = nodes is

  -- a statement comes to what the engine answered
  pub reaches : (result : Result Reply EngineFault)
      → IfOk result (DoesAnswer sha_pair place.Run 0 scene.line statement scene.engine new
      scene.hashed after (Some no_files) (Some no_files))
      → IfErr result (λ fault. Stops fault sha_pair place.Run 0 scene.line number statement
      scene.engine (Some no_files) (Some no_files))
      → OnErr result (new.entries ≡ scene.engine.entries)
      → (is_compact statement ≡ false → KeepsNodes scene.engine.arena new.arena)
      → (is_compact statement ≡ true → OnErr result (new ≡ scene.engine))
      → StatementReaches result statement scene new
  reaches (Ok reply) ok stops err nodes whole = λ versions stands.
      subst (λ files. IsTurn (turn_at sha_pair scene.engine place.Run number 0 scene.line statement
      versions files) reply new (Some no_files)) (sym ok.step.tells) (ok.turns versions stands)
  reaches (Err Read) ok stops err nodes whole =
      (stops.1, stands-kept scene.engine new keeps err (kept nodes whole))
  reaches (Err Write) ok stops err nodes whole = (
    (λ versions stands.
        let part = subst (λ files. SavesPart (turn_at sha_pair scene.engine place.Run number 0
        scene.line statement versions files) (Some no_files) (Some no_files))
        (sym stops.tells) (stops.part versions stands) in
        ap is_some part.1),
    stands-kept scene.engine new keeps err (kept nodes whole),
  )
  reaches (Err Memory) ok stops err nodes whole =
      stands-kept scene.engine new keeps err (kept nodes whole)
