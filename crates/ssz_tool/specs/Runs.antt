-- The job of the program's words, and the pairs that it may hash.
use Rattle.std.specs.Prelude.{ℕ, ◌+◌, ◌-◌, List, [], ◌++◌, Bool, false, is_some, Option, Some, None}
use Rattle.ssz_chunk.specs.Chunk.{CountsUp}
use Rattle.ssz_outside.specs.Asked.{Ask}
use Rattle.ssz_outside.specs.Content.{Content}
use Rattle.ssz_outside.specs.Job.{Job, line_job}
use Rattle.ssz_outside.specs.declared.status.Status.{Status}
use Rattle.ssz_proof.specs.Calculation.{PairOf}
use Rattle.ssz_schema.specs.Types.{SszType}
use Rattle.ssz_machine.specs.State.{fresh}
use Rattle.ssz_machine.specs.Rules.{Rules}
use Rattle.ssz_machine.specs.Machine.{Turn}
use Rattle.ssz_machine.specs.Plays.{charges}
use Rattle.ssz_machine.specs.Jobs.{after_reading, script_job, turns_of_script, turns_of_weave, weave_job}
use Rattle.ssz_machine.specs.Work.{work_job}
use Rattle.ssz_engine.specs.Scripts.{HasCounts, files_reached, asks_of_turns}
use Rattle.ssz_decisions.specs.Roots.{RisesBy}
use Rattle.ssz_engine.specs.Works.{whole_work}
use Rattle.ssz_partial_script.specs.Plays.{partial_charges as tree_charges, partial_script_job as tree_job, partial_turns_of_script as tree_turns}
use Rattle.ssz_tool.specs.Commands.{plan_of}
use Rattle.ssz_tool.specs.Follows.{asks_by}
use Rattle.ssz_tool.specs.Plans.{Plan, files_in, task_in}
use Rattle.ssz_tool.specs.ToDo.{Printed, printed, Task, prints, plays, weaves, works, plays_tree, shows_usage}
use Rattle.ssz_tool.specs.declared.line.Line.{Line}

-- the rules of a script: the types of its schema, the most bytes of a value, the hasher's pair
abbrev pub run_rules : PairOf → (List ℕ → Option SszType) → ℕ → Rules
run_rules pair_of type_named most =
    record { type_named = type_named; max_bytes = most; pair_of = pair_of }

-- the job that prints a text, after it has read files or not
abbrev pub job_of_print : Content → Bool → Printed → Job
job_of_print held reads made = line_job held reads made.text made.status

abbrev pub job_of_line : Content → Bool → Line → Job
job_of_line held reads line = job_of_print held reads (printed line)

-- a work reads and prints no encoding, so there is no most of its bytes
abbrev pub rules_of_work : PairOf → (List ℕ → Option SszType) → Rules
rules_of_work pair_of type_named = run_rules pair_of type_named 0

-- The job of a task, where `hashes` prints these numbers: files are read before the first
-- statement, or not any more.
abbrev pub job_of_task : PairOf → List ℕ → Content → Bool → Task → Job
job_of_task pair_of numbers held reads (prints made most) = job_of_print held reads (made pair_of)
job_of_task pair_of numbers held reads (plays type_named most script) =
    after_reading reads (script_job (run_rules pair_of type_named most) numbers (fresh held) script)
job_of_task pair_of numbers held reads (weaves type_named most base order scripts) =
    after_reading reads
    (weave_job (run_rules pair_of type_named most) (fresh held) base order scripts)
job_of_task pair_of numbers held reads (works type_named type_name seed count) =
    after_reading reads
    (work_job (rules_of_work pair_of type_named) (fresh held) type_name seed count)
job_of_task pair_of numbers held reads (plays_tree t lists script) =
    after_reading reads (tree_job pair_of t lists held script)

-- the task of a plan, if there is one
abbrev pub task_by : Content → Option (Plan Task) → Task
task_by held None = shows_usage
task_by held (Some plan) = task_in held plan

-- the task of these words
abbrev pub task_of : Content → List (List ℕ) → Task
task_of held words = task_by held (plan_of words)

-- the job of these words over files with this content; files are read for words that are taken
abbrev pub run_job_of : PairOf → List (List ℕ) → Content → List ℕ → Job
run_job_of pair_of words held numbers =
    job_of_task pair_of numbers held (is_some (plan_of words)) (task_of held words)

-- the same once the files that the words name are read
abbrev pub job_once_read : PairOf → List (List ℕ) → Content → List ℕ → Job
job_once_read pair_of words held numbers =
    job_of_task pair_of numbers held false (task_of held words)

-- the steps of a task's scripts, where they may ask for `hashes`
abbrev pub turns_of_task : PairOf → List ℕ → Content → Task → List Turn
turns_of_task pair_of numbers held (prints made most) = []
turns_of_task pair_of numbers held (plays type_named most script) =
    turns_of_script (run_rules pair_of type_named most) numbers (fresh held) script
turns_of_task pair_of numbers held (weaves type_named most base order scripts) =
    turns_of_weave (run_rules pair_of type_named most) (fresh held) base order scripts
turns_of_task pair_of numbers held (works type_named type_name seed count) = []
turns_of_task pair_of numbers held (plays_tree t lists script) = []

-- the steps of the scripts that the words run, if they run any
abbrev pub run_turns : PairOf → List (List ℕ) → Content → List ℕ → List Turn
run_turns pair_of words held numbers = turns_of_task pair_of numbers held (task_of held words)

-- How many pairs a task may hash: of scripts, and of a work, the charges of the statements, and 126
-- for the zero table, which a partial tree needs not.
abbrev pub pairs_of_task : PairOf → Content → Task → ℕ
pairs_of_task pair_of held (prints made most) = most
pairs_of_task pair_of held (plays type_named most script) =
    126 + charges (turns_of_task pair_of [] held (plays type_named most script))
pairs_of_task pair_of held (weaves type_named most base order scripts) =
    126 + charges (turns_of_task pair_of [] held (weaves type_named most base order scripts))
pairs_of_task pair_of held (works type_named type_name seed count) =
    let work = whole_work (rules_of_work pair_of type_named) (fresh held) type_name seed count in
    126 + charges work.turns
pairs_of_task pair_of held (plays_tree t lists script) =
    tree_charges (tree_turns pair_of t lists script)

-- How many pairs a task hashes at least, where that is said: a work those of the zero table, and
-- one for each edit of something below the top of its value. Such an edit makes the pair at the top
-- anew, and the root behind it hashes that, before the next edit.
abbrev pub least_of_task : PairOf → Content → Task → Option ℕ
least_of_task pair_of held (prints made most) = None
least_of_task pair_of held (plays type_named most script) = None
least_of_task pair_of held (weaves type_named most base order scripts) = None
least_of_task pair_of held (works type_named type_name seed count) =
    let work = whole_work (rules_of_work pair_of type_named) (fresh held) type_name seed count in
    Some (126 + work.tops)
least_of_task pair_of held (plays_tree t lists script) = None

abbrev pub least_asked : PairOf → List (List ℕ) → Content → Option ℕ
least_asked pair_of words held = least_of_task pair_of held (task_of held words)

-- a count of pairs rose by as many at least, or came to the greatest u64
abbrev pub RisesWhere : Option ℕ → ℕ → ℕ → Type 0
RisesWhere None before after = Unit {0}
RisesWhere (Some n) before after = RisesBy n before after

abbrev pub pairs_allowed : PairOf → List (List ℕ) → Content → ℕ
pairs_allowed pair_of words held = pairs_of_task pair_of held (task_of held words)

-- What is so of a job, for some numbers that `hashes` printed: they are counts of the pairs that
-- were hashed, beyond the 126 of the zero table, from a first count of them to a last.
pub record JobDoes (job : List ℕ → Job) (turns : List ℕ → List Turn) (ended : Status)
    (first last : ℕ) (Left : Job → Type 0) : Type 0 where
  pub numbers : List ℕ
  pub left : Left (job numbers)
  pub base : ℕ
  pub zeros : CountsUp 126 first base
  pub counts : HasCounts ended (turns numbers) (last - base)

-- ---- the files that are reached, in the order of work

-- words that are not taken reach no file
abbrev pub files_by : Content → Option (Plan Task) → List (List ℕ)
files_by held None = []
files_by held (Some plan) = files_in held plan

-- the files of the words
abbrev pub reached_first : Content → List (List ℕ) → List (List ℕ)
reached_first held words = files_by held (plan_of words)

-- what they are asked for, for the words
abbrev pub asked_first : Content → List (List ℕ) → List Ask
asked_first held words = asks_by held (plan_of words)

-- the files that the statements of scripts read: one is reached where the statement is not refused
-- before it reads
abbrev pub reached_of_task : PairOf → Content → Task → List (List ℕ)
reached_of_task pair_of held (prints made most) = []
reached_of_task pair_of held (works type_named type_name seed count) = []
reached_of_task pair_of held (plays_tree t lists script) = []
reached_of_task pair_of held (plays type_named most script) =
    files_reached (run_rules pair_of type_named most)
    (turns_of_task pair_of [] held (plays type_named most script))
reached_of_task pair_of held (weaves type_named most base order scripts) =
    files_reached (run_rules pair_of type_named most)
    (turns_of_task pair_of [] held (weaves type_named most base order scripts))

-- what the files are asked for by these statements: each file with the most bytes of a value
abbrev pub asks_of_task : PairOf → Content → Task → List Ask
asks_of_task pair_of held (prints made most) = []
asks_of_task pair_of held (works type_named type_name seed count) = []
asks_of_task pair_of held (plays_tree t lists script) = []
asks_of_task pair_of held (plays type_named most script) =
    asks_of_turns (run_rules pair_of type_named most)
    (turns_of_task pair_of [] held (plays type_named most script))
asks_of_task pair_of held (weaves type_named most base order scripts) =
    asks_of_turns (run_rules pair_of type_named most)
    (turns_of_task pair_of [] held (weaves type_named most base order scripts))

-- what they are asked for in all
abbrev pub asked_by : PairOf → Content → List (List ℕ) → List Ask
asked_by pair_of held words =
    asked_first held words ++ asks_of_task pair_of held (task_of held words)

abbrev pub files_reached_by : PairOf → Content → List (List ℕ) → List (List ℕ)
files_reached_by pair_of held words =
    reached_first held words ++ reached_of_task pair_of held (task_of held words)
