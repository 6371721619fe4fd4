-- Scripts that were read and woven.
use Rattle.std.proofs.Common.{◌≡◌, ◌≢◌, ℕ, ◌+◌, ◌-◌, ◌≤◌, Bool, List, [], ◌∷◌, Some, refl, subst, arith}
use Rattle.std.specs.List.{AllByRecursion}
use Rattle.ssz_chunk.specs.Chunk.{CountsUp}
use Rattle.ssz_outside.specs.Asked.{AsksOf, is_cut}
use Rattle.ssz_outside.specs.Content.{Content}
use Rattle.ssz_outside.specs.Job.{Ends}
use Rattle.ssz_outside.specs.declared.status.Status.{Status}
use Rattle.ssz_outside.specs.declared.status.Status.TheVariants as status
use Rattle.ssz_proof.specs.Calculation.{PairOf}
use Rattle.ssz_schema.specs.Unfolding.{Types, known_in}
use Rattle.ssz_machine.specs.State.{Name, fresh}
use Rattle.ssz_machine.specs.Machine.{Line}
use Rattle.ssz_machine.specs.Rules.{Rules}
use Rattle.ssz_machine.specs.Jobs.{turns_of_weave, weave_job}
use Rattle.ssz_machine.proofs.Endings.{ends_after_reading}
use Rattle.ssz_decisions.specs.Content.{rules_of as engine_rules}
use Rattle.ssz_decisions.specs.Standing.{StandsFor}
use Rattle.ssz_engine.specs.Scripts.{AreNamedReadable, IsFreshScene, Scene, files_named}
use Rattle.ssz_engine.specs.Weaves.{EndsWeave, EndsWeaveFrom}
use Rattle.ssz_tool.specs.Runs.{JobDoes, asks_of_task, job_of_task, pairs_of_task, reached_of_task, run_rules, turns_of_task}
use Rattle.ssz_tool.specs.ToDo.{weaves}
use Rattle.ssz_tool.proofs.Asked.{asks_of_job}
use Rattle.ssz_tool.proofs.Beginnings.{all_readable}
use Rattle.ssz_tool.proofs.Quiet.{weave_counts}

-- where each file can be read, so can those that scripts name
pub all_named : (P : Name → Type 0) → ((name : Name) → P name) → (scripts : List (List Line))
    → AllByRecursion (AreNamedReadable P) scripts
all_named P each [] = tt
all_named P each (lines ∷ scripts) =
    (all_readable P each (files_named lines), all_named P each scripts)

-- An engine that was just started wove scripts.
module _ (pair_of : PairOf) (schema : Types) (most : ℕ) (held : Content) (base order : List ℕ)
    (scripts : List (List ℕ)) (ended : Status) (before after : Scene)
    (types : before.engine.types ≡ schema) (limit : before.engine.most ≡ most)
    (stands : StandsFor before.engine (λ writer. [])) (told : before.told ≡ Some held)
    (new : IsFreshScene before)
    (ends : EndsWeave pair_of base order scripts ended before after) where
  abbrev rules : Rules
  rules = run_rules pair_of (known_in schema) most

  same : engine_rules pair_of before.engine ≡ rules
  same = rw (types, limit) refl

  run : EndsWeaveFrom rules base order scripts (fresh held) ended before after
  run = subst (λ (r : Rules). EndsWeaveFrom r base order scripts (fresh held) ended before after)
      same (ends (fresh held) stands told)

  -- what it left is of the task's job
  pub weave_does : (reads : Bool) (first : ℕ) → CountsUp 126 first before.hashed
      → JobDoes (λ numbers. job_of_task pair_of numbers held reads
      (weaves (known_in schema) most base order scripts))
      (λ numbers. turns_of_task pair_of numbers held
      (weaves (known_in schema) most base order scripts)) ended first after.hashed
      (λ job. Ends before.ample ended job before.pieces after.pieces after.told)
  weave_does reads first zeros = record {
    numbers = [];
    left = ends_after_reading before.ample reads ended
        (weave_job rules (fresh held) base order scripts) before.pieces after.pieces after.told
        run.ends;
    base = before.hashed;
    zeros = zeros;
    counts = weave_counts rules (fresh held) base order scripts ended
        (after.hashed - before.hashed);
  }

  -- what it hashed is at most its charges
  pub weave_pairs : (first : ℕ) → CountsUp 126 first before.hashed → after.hashed ≤ first
      + pairs_of_task pair_of held (weaves (known_in schema) most base order scripts)
  weave_pairs first zeros = omega (arith, run.paid, new.left, zeros.at_most)

  -- and a read failed only of a file that its statements read
  pub weave_reached : AllByRecursion before.readable
      (reached_of_task pair_of held (weaves (known_in schema) most base order scripts))
      → ended ≢ status.ReadFault
  weave_reached all = run.reached all

  -- and the files were asked for those that they read, in turn
  pub weave_asks : AsksOf (is_cut ended)
      (asks_of_task pair_of held (weaves (known_in schema) most base order scripts)) before.asked
      after.asked
  weave_asks =
      asks_of_job rules (turns_of_weave rules (fresh held) base order scripts) before.asked
      after.asked before.ample ended (weave_job rules (fresh held) base order scripts)
      before.pieces after.pieces after.told run.ends refl run.asks
