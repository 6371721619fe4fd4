-- The work that the words ask for, and how it was done.
use Rattle.std.proofs.Common.{◌≡◌, ℕ, ◌+◌, ◌-◌, ◌≤◌, Bool, true, false, List, [], Option, Some, None, refl, sym, ap, ◌∙◌, subst, arith}
use Rattle.std.specs.Prelude.{◌≢◌, option_and_then}
use Rattle.ssz_chunk.specs.Chunk.{CountsUp}
use Rattle.ssz_outside.specs.Content.{Content}
use Rattle.ssz_outside.specs.Job.{Ends}
use Rattle.ssz_outside.specs.declared.status.Status.{Status}
use Rattle.ssz_outside.specs.declared.status.Status.TheVariants as status
use Rattle.ssz_line.specs.Single.{name, word_if}
use Rattle.ssz_proof.specs.Calculation.{PairOf}
use Rattle.ssz_schema.specs.Names.{is_name}
use Rattle.ssz_schema.specs.Types.{SszType}
use Rattle.ssz_schema.specs.Unfolding.{Types, known_in}
use Rattle.ssz_machine.specs.State.{Name, fresh}
use Rattle.ssz_machine.specs.Rules.{Rules}
use Rattle.ssz_machine.specs.Work.{work_job}
use Rattle.ssz_machine.proofs.Endings.{ends_after_reading}
use Rattle.ssz_decisions.specs.Content.{rules_of as engine_rules}
use Rattle.ssz_decisions.specs.Standing.{StandsFor}
use Rattle.ssz_engine.specs.Scripts.{IsFreshScene, Scene}
use Rattle.ssz_engine.specs.Works.{EndsWork, EndsWorkFrom}
use Rattle.ssz_tool.specs.Runs.{JobDoes, RisesWhere, job_of_task, least_of_task, pairs_of_task, rules_of_work, turns_of_task}
use Rattle.ssz_tool.specs.ToDo.{works}
use Rattle.ssz_tool.specs.Commands.{type_of_word}
use Rattle.ssz_tool.proofs.Quiet.{no_counts}

-- a word that is read as a name is the name
pub name_is : (word made : List ℕ) → name word ≡ Some made → made ≡ word
name_is word made = by (is_name word)
  where
    by : (test : Bool) → word_if test word ≡ Some made → made ≡ word
    by true same = let is : word ≡ made = cc in sym is
    by false same = let differ : None ≡ Some made = same in cc

-- and its type is that of the name
pub type_of_name : (type_named : List ℕ → Option SszType) (word made : List ℕ)
    → name word ≡ Some made → type_of_word type_named word ≡ type_named word
type_of_name type_named word made is =
    ap (option_and_then type_named) is ∙ ap type_named (name_is word made is)

-- no other word has one
pub type_of_no_name : (type_named : List ℕ → Option SszType) (word : List ℕ) → name word ≡ None
    → type_of_word type_named word ≡ None
type_of_no_name type_named word is = ap (option_and_then type_named) is

-- An engine that was just started did a work.
module _ (pair_of : PairOf) (schema : Types) (held : Content) (type_name : Name) (seed count : ℕ)
    (ended : Status) (before after : Scene) (types : before.engine.types ≡ schema)
    (limit : before.engine.most ≡ 0) (stands : StandsFor before.engine (λ writer. []))
    (told : before.told ≡ Some held) (new : IsFreshScene before)
    (ends : EndsWork pair_of type_name seed count ended before after) where
  abbrev rules : Rules
  rules = rules_of_work pair_of (known_in schema)

  same : engine_rules pair_of before.engine ≡ rules
  same = rw (types, limit) refl

  run : EndsWorkFrom rules type_name seed count (fresh held) ended before after
  run = subst (λ (r : Rules). EndsWorkFrom r type_name seed count (fresh held) ended before after)
      same (ends (fresh held) stands told)

  -- what it left is of the task's job
  pub work_does : (reads : Bool) (first : ℕ) → CountsUp 126 first before.hashed
      → JobDoes (λ numbers. job_of_task pair_of numbers held reads
      (works (known_in schema) type_name seed count))
      (λ numbers. turns_of_task pair_of numbers held
      (works (known_in schema) type_name seed count)) ended first after.hashed
      (λ job. Ends before.ample ended job before.pieces after.pieces after.told)
  work_does reads first zeros = record {
    numbers = [];
    left = ends_after_reading before.ample reads ended
        (work_job rules (fresh held) type_name seed count) before.pieces after.pieces after.told
        run.ends;
    base = before.hashed;
    zeros = zeros;
    counts = no_counts ended (after.hashed - before.hashed);
  }

  -- what it hashed is at most its charges
  pub work_pairs : (first : ℕ) → CountsUp 126 first before.hashed → after.hashed ≤ first
      + pairs_of_task pair_of held (works (known_in schema) type_name seed count)
  work_pairs first zeros = omega (arith, run.paid, new.left, zeros.at_most)

  -- and no less than the zero table and a pair for each edit below the top
  pub work_least : (first : ℕ) → CountsUp 126 first before.hashed → ended ≢ status.Memory
      → RisesWhere (least_of_task pair_of held (works (known_in schema) type_name seed count)) first
      after.hashed
  work_least first zeros through = λ few.
      let rise = run.least through few in
      let table = zeros.exact (omega (arith, rise, few)) in
      omega (arith, rise, table)
