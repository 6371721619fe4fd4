-- What the program's own values stand for.
use Rattle.std.specs.Prelude.{◌≡◌, ℕ, ◌<◌, ◌^◌, Bool, List, length, Option, None, ⊤, String, string_bytes, Vec}
use Rattle.std.specs.declared.alloc.Global.{Global}
use Rattle.ssz_outside.specs.Content.{Content}
use Rattle.ssz_outside.specs.declared.status.Status.TheVariants as status
use Rattle.ssz_proof.specs.Calculation.{PairOf}
use Rattle.ssz_schema.specs.Types.{SszType}
use Rattle.ssz_schema.specs.Unfolding.{Types, known_in, type_of}
use Rattle.ssz_bytes.specs.declared.fault.Fault.{Fault}
use Rattle.ssz_value.specs.Faults.{first_fault}
use Rattle.ssz_words.specs.Limits.{IsWeaveOf}
use Rattle.ssz_tool.specs.Lines.{bytes_text}
use Rattle.ssz_tool.specs.Runs.{asks_of_task, job_of_task, least_of_task, pairs_of_task, reached_of_task, turns_of_task}
use Rattle.ssz_tool.specs.ToDo as job
use Rattle.ssz_tool.specs.declared.job.Task.{Task}
use Rattle.ssz_tool.specs.declared.job.Task.TheVariants as task
use Rattle.ssz_tool.specs.declared.weaving.Weaving.{Weaving}
use Rattle.ssz_tool.specs.declared.working.Work.{Work}

-- ---- what files give

abbrev pub HasItems : List ℕ → Vec ℕ Global → Type 0
HasItems bytes made = made.items ≡ bytes

abbrev pub AreItems : List (List ℕ) → Vec (List ℕ) Global → Type 0
AreItems scripts made = made.items ≡ scripts

abbrev pub NamesHaveTypes : (List ℕ → Option SszType) → Types → Type 0
NamesHaveTypes types schema = types ≡ known_in schema

-- the line of an encoding
abbrev pub IsTextOf : List ℕ → String Global → Type 0
IsTextOf bytes text = string_bytes text ≡ bytes_text bytes

-- ---- tasks

abbrev pub work_view : Work → job.Task
work_view work = job.works (known_in work.schema) work.type_name work.seed work.edits

abbrev pub weaving_view : Weaving → job.Task
weaving_view weaving = job.weaves (known_in weaving.schema) weaving.max weaving.base.items
    weaving.order.items weaving.scripts.items

abbrev pub task_view : Task → job.Task
task_view (task.Text text) = job.prints (λ pair_of.
    record { text = string_bytes text; status = status.Accepted }) 0
task_view (task.Root schema id bytes) = job.roots (type_of schema id) bytes.items
task_view (task.Verify root proof) = job.verifies root.0 proof
task_view (task.Clash one other) = job.compares one other
task_view (task.Script schema most script) = job.plays (known_in schema) most script.items
task_view (task.Weave weaving) = weaving_view weaving
task_view (task.Work work) = work_view work
task_view (task.Partial schema partial script) =
    job.plays_tree (type_of schema partial.id) partial.proof script.items

-- Two tasks that do the same, whatever hasher there is: their jobs, their steps, the files that
-- these read, and the pairs that they may hash and hash at least.
pub record DoesSame (meant made : job.Task) : Type 0 where
  pub jobs : (pair_of : PairOf) (numbers : List ℕ) (held : Content) (reads : Bool)
      → job_of_task pair_of numbers held reads meant ≡ job_of_task pair_of numbers held reads made
  pub turns : (pair_of : PairOf) (numbers : List ℕ) (held : Content)
      → turns_of_task pair_of numbers held meant ≡ turns_of_task pair_of numbers held made
  pub reached : (pair_of : PairOf) (held : Content)
      → reached_of_task pair_of held meant ≡ reached_of_task pair_of held made
  pub pairs : (pair_of : PairOf) (held : Content)
      → pairs_of_task pair_of held meant ≡ pairs_of_task pair_of held made
  pub least : (pair_of : PairOf) (held : Content)
      → least_of_task pair_of held meant ≡ least_of_task pair_of held made
  pub scripts : job.is_script meant ≡ job.is_script made
  pub asks : (pair_of : PairOf) (held : Content)
      → asks_of_task pair_of held meant ≡ asks_of_task pair_of held made

-- the bytes of a value are few enough, of a type of the schema, and have no fault
pub record IsFaultless (trees : ℕ) (id : ℕ) (fault : Option Fault) (count : ℕ) : Type 0 where
  pub known : id < trees
  pub short : count < 2 ^ 32
  pub faultless : fault ≡ None

-- the scripts are some and at most ten, and each turn is that of one of them
abbrev pub IsReadyWeaving : Weaving → Type 0
IsReadyWeaving weaving = IsWeaveOf weaving.scripts.items weaving.order.items

abbrev pub IsTaskReady : Task → Type 0
IsTaskReady (task.Text text) = ⊤
IsTaskReady (task.Root schema id bytes) =
    IsFaultless (length schema.trees) id (first_fault (type_of schema id) 0 bytes.items)
    (length bytes.items)
IsTaskReady (task.Verify root proof) = ⊤
IsTaskReady (task.Clash one other) = ⊤
IsTaskReady (task.Script schema most script) = ⊤
IsTaskReady (task.Weave weaving) = IsReadyWeaving weaving
IsTaskReady (task.Work work) = ⊤
IsTaskReady (task.Partial schema partial script) = partial.id < length schema.trees

-- a task that was made does what is meant, and can be done
pub record IsTask (meant : job.Task) (made : Task) : Type 0 where
  pub same : DoesSame meant (task_view made)
  pub ready : IsTaskReady made
