-- Commands that print no number for `hashes`, commands that end before their first step, and tasks
-- that do the same.
use Rattle.std.proofs.Common.{◌≡◌, ◌≢◌, ℕ, zero, suc, ◌+◌, ◌-◌, ◌≤◌, true, Bool, List, [], ◌∷◌, ◌++◌, Option, Some, None, inl, refl, sym, subst, arith}
use Rattle.std.specs.Prelude.{IsTrue}
use Rattle.std.specs.List.{AllByRecursion}
use Rattle.ssz_chunk.specs.Chunk.{CountsUp}
use Rattle.ssz_outside.specs.Asked.{Ask, AsksOf, is_cut}
use Rattle.ssz_outside.specs.Content.{Content}
use Rattle.ssz_outside.specs.Job.{CountsRun, Job, Ends, Finishes, IsFinished, JobStandsAt}
use Rattle.ssz_outside.specs.Outcome.{Rose}
use Rattle.ssz_outside.proofs.Finishing.{Finishes-quiet}
use Rattle.ssz_outside.specs.Pieces.{Told}
use Rattle.ssz_outside.specs.declared.status.Status.{Status}
use Rattle.ssz_outside.specs.declared.status.Status.TheVariants as status
use Rattle.ssz_proof.specs.Calculation.{PairOf}
use Rattle.ssz_schema.specs.Unfolding.{Types, known_in}
use Rattle.ssz_script.specs.Lines.{statements_in}
use Rattle.ssz_script.specs.declared.statement.Statement.{Statement}
use Rattle.ssz_script.specs.declared.statement.Statement.TheVariants.{Hashes}
use Rattle.ssz_machine.specs.declared.place.Place.{Place}
use Rattle.ssz_machine.specs.declared.place.Place.TheVariants.{Run, Weave}
use Rattle.ssz_machine.specs.State.{State, fresh}
use Rattle.ssz_machine.specs.Rules.{Rules}
use Rattle.ssz_machine.specs.Machine.{Turn, step, state_of}
use Rattle.ssz_machine.specs.Plays.{Event, says as speaks, adopts, adopted, all_of, numbers_after, play}
use Rattle.ssz_machine.specs.Jobs.{script_job, turns_of_script}
use Rattle.ssz_machine.proofs.Endings.{ends_after_reading}
use Rattle.ssz_machine.specs.Counts.{turn_number_at}
use Rattle.ssz_machine.proofs.Ledgers.{ledgers_count_lem}
use Rattle.ssz_decisions.specs.Content.{rules_of as engine_rules}
use Rattle.ssz_decisions.specs.Standing.{StandsFor}
use Rattle.ssz_engine.specs.Scripts.{EndsRun, EndsScript, HasCounts, IsFreshScene, Scene}
use Rattle.ssz_engine.proofs.Reaching.{same_charges}
use Rattle.ssz_engine.proofs.Replies.{said_number}
use Rattle.ssz_engine.proofs.Scripts.{told_append-none}
use Rattle.ssz_tool.specs.Runs.{JobDoes, asks_of_task, job_of_line, job_of_print, job_of_task, pairs_of_task, reached_of_task, run_rules, turns_of_task}
use Rattle.ssz_tool.specs.Tasks.{DoesSame}
use Rattle.ssz_tool.specs.declared.line.Line.{Line}
use Rattle.ssz_tool.specs.ToDo.{Printed, printed, Task, prints, plays, weaves, works, plays_tree}
use Rattle.ssz_tool.proofs.Asked.{asks_of_job, same_asks}
use Rattle.ssz_tool.proofs.Quiet.{no_counts, weave_counts}

-- a count that goes up by the pairs of the zero table
pub zero_table : (first : ℕ) → CountsUp 126 first (first + 126)
zero_table first = record { rises = omega arith; at_most = omega arith; exact = λ few. refl }

-- so a job of one line is done for no numbers
pub line_does : (ample : Bool) (held : Content) (reads : Bool) (made : Printed) (ended : Status)
    (first last : ℕ) (old new : Told) → Ends ample ended (job_of_print held reads made) old new
    (Some held)
    → JobDoes (λ numbers. job_of_print held reads made) (λ numbers. []) ended first last
    (λ job. Ends ample ended job old new (Some held))
line_does ample held reads made ended first last old new ends = record {
  numbers = [];
  left = ends;
  base = first + 126;
  zeros = zero_table first;
  counts = no_counts ended (last - (first + 126));
}

-- and so is one of a line that is the same
pub line_does_as : (ample : Bool) (held : Content) (reads : Bool) (line wanted : Line)
    (ended : Status) (first last : ℕ) (old new : Told) → line ≡ wanted
    → Ends ample ended (job_of_line held reads line) old new (Some held)
    → JobDoes (λ numbers. job_of_line held reads wanted) (λ numbers. []) ended first last
    (λ job. Ends ample ended job old new (Some held))
line_does_as ample held reads line wanted ended first last old new is ends =
    line_does ample held reads (printed wanted) ended first last old new
    (subst (λ (l : Line). Ends ample ended (job_of_line held reads l) old new (Some held)) is ends)

-- so a task that prints one text is done for no numbers
pub print_does : (ample : Bool) (pair_of : PairOf) (held : Content) (reads : Bool)
    (made : PairOf → Printed) (most : ℕ) (ended : Status) (first last : ℕ) (old new : Told)
    → Ends ample ended (job_of_print held reads (made pair_of)) old new (Some held)
    → JobDoes (λ numbers. job_of_task pair_of numbers held reads (prints made most))
    (λ numbers. turns_of_task pair_of numbers held (prints made most)) ended first last
    (λ job. Ends ample ended job old new (Some held))
print_does ample pair_of held reads made most ended first last old new ends = record {
  numbers = [];
  left = ends;
  base = first + 126;
  zeros = zero_table first;
  counts = no_counts ended (last - (first + 126));
}

pub said_does : (ample : Bool) (pair_of : PairOf) (held : Content) (reads : Bool) (task : Task)
    (made : PairOf → Printed) (most : ℕ) (ended : Status) (first last : ℕ) (old new : Told)
    (left : Option Content) → task ≡ prints made most → left ≡ Some held
    → Ends ample ended (job_of_print held reads (made pair_of)) old new (Some held)
    → JobDoes (λ numbers. job_of_task pair_of numbers held reads task)
    (λ numbers. turns_of_task pair_of numbers held task) ended first last
    (λ job. Ends ample ended job old new left)
said_does ample pair_of held reads task made most ended first last old new left is told ends =
    rw (is, told) (print_does ample pair_of held reads made most ended first last old new ends)

-- before its first step a job has printed nothing, and the files are as they were
pub stands_first : (pair_of : PairOf) (numbers : List ℕ) (held : Content) (reads : Bool)
    (task : Task) (told : Told)
    → JobStandsAt ((job_of_task pair_of numbers held reads task).at 0) told told (Some held)
stands_first pair_of numbers held reads (prints made most) told =
    record { printed = told_append-none told; held = refl }
stands_first pair_of numbers held reads (plays type_named most script) told =
    record { printed = told_append-none told; held = refl }
stands_first pair_of numbers held reads (weaves type_named most base order scripts) told =
    record { printed = told_append-none told; held = refl }
stands_first pair_of numbers held reads (works type_named type_name seed count) told =
    record { printed = told_append-none told; held = refl }
stands_first pair_of numbers held reads (plays_tree t lists script) told =
    record { printed = told_append-none told; held = refl }

reads_first : (pair_of : PairOf) (numbers : List ℕ) (held : Content) (reads : Bool) (task : Task)
    → reads ≡ true → IsTrue ((job_of_task pair_of numbers held reads task).reads 0)
reads_first pair_of numbers held reads (prints made most) is = is
reads_first pair_of numbers held reads (plays type_named most script) is = rw is refl
reads_first pair_of numbers held reads (weaves type_named most base order scripts) is = rw is refl
reads_first pair_of numbers held reads (works type_named type_name seed count) is = rw is refl
reads_first pair_of numbers held reads (plays_tree t lists script) is = rw is refl

-- where no numbers are given, each that is printed is 0
no_number : (place : Place) (statement : Option Statement) → numbers_after place statement [] ≡ []
no_number Run (Some Hashes) = refl
no_number Run other = search
no_number Weave other = refl

zero_numbers : (rules : Rules) (place : Place) (state : State) (events : List Event) (i n : ℕ)
    → turn_number_at (play rules place [] state events) i ≡ Some n → n ≡ 0
zero_numbers rules place state [] i n said = let differ : None ≡ Some n = said in cc
zero_numbers rules place state (adopts writer ∷ events) i n said =
    zero_numbers rules place (adopted writer state) events i n said
zero_numbers rules place state (speaks writer line ∷ events) zero n said =
    said_number rules place 0 state writer line n said
zero_numbers rules place state (speaks writer line ∷ events) (suc i) n said =
    let turn = step rules place 0 state writer line in
    zero_numbers rules place (state_of turn) events i n
    (subst (λ numbers. turn_number_at (play rules place numbers (state_of turn) events) i ≡ Some n)
    (no_number place line.1) said)

-- and so they are counts where nothing was hashed yet
zero_counts : (rules : Rules) (state : State) (script : List ℕ) (ended : Status) (rise : ℕ)
    → ¬ IsFinished ended → HasCounts ended (turns_of_script rules [] state script) rise
zero_counts rules state script ended rise stopped = record {
  total = 0;
  most = omega arith;
  whole = λ finished. absurd (stopped finished);
  counts = ledgers_count_lem (turns_of_script rules [] state script) (λ i. 0) (λ i. 0) (record {
    begins = refl;
    rises = λ i turn found. omega arith;
    stays = λ i turn found hashes. refl;
    paid = λ i turn found. omega arith;
    said = zero_numbers rules Run state (all_of 0 (statements_in script));
  });
}

first_counts : (pair_of : PairOf) (held : Content) (task : Task) (ended : Status) (rise : ℕ)
    → ¬ IsFinished ended → HasCounts ended (turns_of_task pair_of [] held task) rise
first_counts pair_of held (prints made most) ended rise stopped = no_counts ended rise
first_counts pair_of held (plays type_named most script) ended rise stopped =
    zero_counts (run_rules pair_of type_named most) (fresh held) script ended rise stopped
first_counts pair_of held (weaves type_named most base order scripts) ended rise stopped =
    weave_counts (run_rules pair_of type_named most) (fresh held) base order scripts ended rise
first_counts pair_of held (works type_named type_name seed count) ended rise stopped =
    no_counts ended rise
first_counts pair_of held (plays_tree t lists script) ended rise stopped = no_counts ended rise

-- A job that a fault or want of memory ends before its first step.
module _ (ample : Bool) (pair_of : PairOf) (held : Content) (reads : Bool) (task : Task)
    (first base last : ℕ) (told : Told) where
  abbrev job : List ℕ → Job
  job numbers = job_of_task pair_of numbers held reads task

  abbrev turns : List ℕ → List Turn
  turns numbers = turns_of_task pair_of numbers held task

  begun : (ended : Status) → ¬ IsFinished ended → CountsUp 126 first base
      → Ends ample ended (job []) told told (Some held)
      → JobDoes job turns ended first last (λ job. Ends ample ended job told told (Some held))
  begun ended stopped zeros ends = record {
    numbers = [];
    left = ends;
    base = base;
    zeros = zeros;
    counts = first_counts pair_of held task ended (last - base) stopped;
  }

  pub wants_memory_first : CountsUp 126 first base
      → JobDoes job turns status.Memory first last
      (λ job. Ends ample status.Memory job told told (Some held))
  wants_memory_first zeros =
      begun status.Memory (λ finished. finished) zeros
      (0, inl (omega arith, stands_first pair_of [] held reads task told))

pub fails_first : (ample : Bool) (pair_of : PairOf) (held : Content) (reads : Bool) (task : Task)
    (first last : ℕ) (told : Told) → reads ≡ true
    → JobDoes (λ numbers. job_of_task pair_of numbers held reads task)
    (λ numbers. turns_of_task pair_of numbers held task) status.ReadFault first last
    (λ job. Ends ample status.ReadFault job told told (Some held))
fails_first ample pair_of held reads task first last told is =
    begun ample pair_of held reads task first (first + 126) last told status.ReadFault
    (λ finished. finished) (zero_table first) (
      0,
      omega arith,
      reads_first pair_of [] held reads task is,
      stands_first pair_of [] held reads task told,
    )

-- tasks that do the same end in the same way
pub does_same : (pair_of : PairOf) (held : Content) (reads : Bool) (meant made : Task)
    (ended : Status) (first last : ℕ) (Left : Job → Type 0) → DoesSame meant made
    → JobDoes (λ numbers. job_of_task pair_of numbers held reads made)
    (λ numbers. turns_of_task pair_of numbers held made) ended first last Left
    → JobDoes (λ numbers. job_of_task pair_of numbers held reads meant)
    (λ numbers. turns_of_task pair_of numbers held meant) ended first last Left
does_same pair_of held reads meant made ended first last Left same does = record {
  numbers = does.numbers;
  left = subst Left (sym (same.jobs pair_of does.numbers held reads)) does.left;
  base = does.base;
  zeros = does.zeros;
  counts = subst (λ turns. HasCounts ended turns (last - does.base))
      (sym (same.turns pair_of does.numbers held)) does.counts;
}

-- where no fault is counted and memory is not wanting, it was done
pub does_quietly : (ample : Bool) (job : List ℕ → Job) (turns : List ℕ → List Turn)
    (ended : Status) (first last : ℕ) (old new : Told) (left : Option Content)
    (gets gets_now puts puts_now sinks sinks_now : ℕ)
    → JobDoes job turns ended first last (λ job. Ends ample ended job old new left)
    → CountsRun ended gets gets_now puts puts_now sinks sinks_now → ¬ Rose gets gets_now
    → ¬ Rose puts puts_now → ¬ Rose sinks sinks_now → ended ≢ status.Memory
    → JobDoes job turns ended first last (λ job. Finishes job ended old new left)
does_quietly ample job turns ended first last old new left gets gets_now puts puts_now sinks
    sinks_now does counts no_get no_put no_sink memory = record {
      numbers = does.numbers;
      left = Finishes-quiet ample ended _ _ _ _ _ _ _ _ _ _ does.left counts no_get no_put no_sink
          memory;
      base = does.base;
      zeros = does.zeros;
      counts = does.counts;
    }

-- the files of the words are read, and those of the statements
pub all_back : (P : List ℕ → Type 0) (xs ys : List (List ℕ)) → AllByRecursion P (xs ++ ys)
    → AllByRecursion P ys
all_back P [] ys all = all
all_back P (x ∷ xs) ys all = all_back P xs ys all.1

pub all_front : (P : List ℕ → Type 0) (xs ys : List (List ℕ)) → AllByRecursion P (xs ++ ys)
    → AllByRecursion P xs
all_front P [] ys all = tt
all_front P (x ∷ xs) ys all = (all.0, all_front P xs ys all.1)

-- An engine that was just started ran a script.
module _ (pair_of : PairOf) (schema : Types) (most : ℕ) (held : Content) (script : List ℕ)
    (ended : Status) (before after : Scene) (types : before.engine.types ≡ schema)
    (limit : before.engine.most ≡ most) (stands : StandsFor before.engine (λ writer. []))
    (told : before.told ≡ Some held) (new : IsFreshScene before)
    (ends : EndsScript pair_of script ended before after) where
  abbrev rules : Rules
  rules = run_rules pair_of (known_in schema) most

  same : engine_rules pair_of before.engine ≡ rules
  same = rw (types, limit) refl

  run : EndsRun rules Run (all_of 0 (statements_in script)) (fresh held) ended before after
  run = subst (λ (r : Rules). EndsRun r Run (all_of 0 (statements_in script)) (fresh held) ended
      before after) same (ends (fresh held) stands told)

  -- what it left is of the task's job
  pub script_does : (reads : Bool) (first : ℕ) → CountsUp 126 first before.hashed
      → JobDoes (λ numbers. job_of_task pair_of numbers held reads
      (plays (known_in schema) most script))
      (λ numbers. turns_of_task pair_of numbers held (plays (known_in schema) most script)) ended
      first after.hashed (λ job. Ends before.ample ended job before.pieces after.pieces after.told)
  script_does reads first zeros = record {
    numbers = run.numbers;
    left = ends_after_reading before.ample reads ended
        (script_job rules run.numbers (fresh held) script) before.pieces after.pieces after.told
        run.ends;
    base = before.hashed;
    zeros = zeros;
    counts = run.counts new;
  }

  -- what it hashed is at most its charges, whatever numbers it printed
  pub script_pairs : (first : ℕ) → CountsUp 126 first before.hashed → after.hashed ≤ first
      + pairs_of_task pair_of held (plays (known_in schema) most script)
  script_pairs first zeros =
      let charged = same_charges rules Run (all_of 0 (statements_in script)) (fresh held)
      run.numbers [] in
      omega (arith, run.paid, new.left, zeros.at_most, charged)

  -- and a read failed only of a file that its statements read
  pub script_reached : AllByRecursion before.readable
      (reached_of_task pair_of held (plays (known_in schema) most script))
      → ended ≢ status.ReadFault
  script_reached all = run.reached [] all

  -- and the files were asked for those that they read, in turn
  pub script_asks : AsksOf (is_cut ended)
      (asks_of_task pair_of held (plays (known_in schema) most script)) before.asked after.asked
  script_asks =
      subst (λ (asks : List Ask). AsksOf (is_cut ended) asks before.asked after.asked)
      (same_asks rules Run (all_of 0 (statements_in script)) (fresh held) run.numbers [])
      (asks_of_job rules (turns_of_script rules run.numbers (fresh held) script) before.asked
      after.asked before.ample ended (script_job rules run.numbers (fresh held) script)
      before.pieces after.pieces after.told run.ends refl run.asks)

pub all_readable : (P : List ℕ → Type 0) → ((name : List ℕ) → P name) → (names : List (List ℕ))
    → AllByRecursion P names
all_readable P each [] = tt
all_readable P each (name ∷ names) = (each name, all_readable P each names)
