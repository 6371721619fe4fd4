-- A job as the moments that it goes through, and what is left of it, whatever ended it.
use Rattle.std.specs.Prelude.{◌≡◌, ◌≤◌, ◌<◌, ◌⊎◌, ⊤, ℕ, zero, suc, ◌+◌}
use Rattle.std.specs.Prelude.{List, [], ◌∷◌, ◌++◌, take, Bool, false, IsTrue, Some, None}
use mathlib.Core.Logic.{inl, inr}
use Rattle.std.specs.declared.option.Option.{Option}
use Rattle.ssz_outside.specs.Content.{Content}
use Rattle.ssz_outside.specs.Outcome.{RoseOnce, WritesPart}
use Rattle.ssz_outside.specs.Pieces.{Told, told_append}
use Rattle.ssz_outside.specs.declared.status.Status.{Status}
use Rattle.ssz_outside.specs.declared.status.Status.TheVariants as status

-- what the files hold, and the lines printed so far; each line is one piece of the sink
pub record Moment : Type 0 where
  pub files : Content
  pub lines : List (List ℕ)

-- the bytes that a step gives to a name
pub record Save : Type 0 where
  pub name : List ℕ
  pub bytes : List ℕ

-- The moment after the first k steps, and what the job then goes on to do: whether it reads a file
-- of which the read may fail, and what it saves; how many steps there are, and the status after the
-- last.
pub record Job : Type 0 where
  pub at : ℕ → Moment
  pub reads : ℕ → Bool
  pub saves : ℕ → Option Save
  pub steps : ℕ
  pub status : Status

-- The words below speak of a run: the pieces taken before it (old) and after it (new), and what it
-- left in the files (left), each where it is told; and whether its sink is one that always finds
-- memory for a piece (ample).

-- the sink has the lines of a moment, and the files are its files
pub record JobStandsAt (moment : Moment) (old new : Told) (left : Option Content) : Type 0 where
  pub printed : new ≡ told_append old moment.lines
  pub held : left ≡ Some moment.files

-- the save of a step failed: the file holds what it held or a prefix of the bytes, and no line
-- was printed
pub record TearsFile (job : Job) (k : ℕ) (old new : Told) (left : Option Content) : Type 0 where
  pub save : Save
  pub saves : job.saves k ≡ Some save
  pub printed : new ≡ told_append old (job.at k).lines
  pub held : WritesPart save.name save.bytes (Some (job.at k).files) left

-- a step was done, and the one put of its line failed: a prefix of the line is the last piece
pub record TearsLine (job : Job) (k : ℕ) (old new : Told) (left : Option Content) : Type 0 where
  pub line : List ℕ
  pub count : ℕ
  pub whole : (job.at (k + 1)).lines ≡ (job.at k).lines ++ line ∷ []
  pub printed : new ≡ told_append old ((job.at k).lines ++ take count line ∷ [])
  pub held : left ≡ Some (job.at (k + 1)).files

-- a step was done, and nothing of its line was printed, since the sink found no memory for it
pub record RunsAhead (ample : Bool) (job : Job) (k : ℕ) (old new : Told) (left : Option Content)
    : Type 0 where
  pub wanting : ample ≡ false
  pub printed : new ≡ told_append old (job.at k).lines
  pub held : left ≡ Some (job.at (k + 1)).files

-- the job was done
pub record Finishes (job : Job) (ended : Status) (old new : Told)
    (left : Option Content) : Type 0 where
  pub status : ended ≡ job.status
  pub last : JobStandsAt (job.at job.steps) old new left

-- What a job leaves that ended with this status. A failed read ends it at a moment at which a read
-- of it may fail; a failed put ends it within a step, at its save or its line; want of memory ends
-- it between two steps, or after a step and before its line: the latter only where the sink may
-- lack it.
abbrev pub Ends : Bool → Status → Job → Told → Told → Option Content → Type 0
Ends ample status.Accepted job old new left = Finishes job status.Accepted old new left
Ends ample status.Refused job old new left = Finishes job status.Refused old new left
Ends ample status.Usage job old new left = Finishes job status.Usage old new left
Ends ample status.SchemaFault job old new left = Finishes job status.SchemaFault old new left
Ends ample status.ReadFault job old new left =
    (k : ℕ) × (k ≤ job.steps) × IsTrue (job.reads k) × JobStandsAt (job.at k) old new left
Ends ample status.WriteFault job old new left =
    (k : ℕ) × (k < job.steps) × (TearsFile job k old new left ⊎ TearsLine job k old new left)
Ends ample status.Memory job old new left =
    (k : ℕ) × (((k ≤ job.steps) × JobStandsAt (job.at k) old new left)
    ⊎ ((k < job.steps) × RunsAhead ample job k old new left))

-- How many steps were done of a job that ended so. Where a file was torn, the next one was begun;
-- where its line was torn, or found no memory, it was done, too.
abbrev pub steps_done : (ample : Bool) (ended : Status) (job : Job) (old new : Told)
    (left : Option Content) → Ends ample ended job old new left → ℕ
steps_done ample status.Accepted job old new left ends = job.steps
steps_done ample status.Refused job old new left ends = job.steps
steps_done ample status.Usage job old new left ends = job.steps
steps_done ample status.SchemaFault job old new left ends = job.steps
steps_done ample status.ReadFault job old new left ends = ends.0
steps_done ample status.WriteFault job old new left (k, below, inl torn) = k
steps_done ample status.WriteFault job old new left (k, below, inr torn) = k + 1
steps_done ample status.Memory job old new left (k, inl stands) = k
steps_done ample status.Memory job old new left (k, inr ahead) = k + 1

-- How many steps were begun: also the one that was not done, where a read, a save or want of memory
-- ended it. Behind a step that was done and not printed none is begun.
abbrev pub steps_begun : (ample : Bool) (ended : Status) (job : Job) (old new : Told)
    (left : Option Content) → Ends ample ended job old new left → ℕ
steps_begun ample status.Accepted job old new left ends = job.steps
steps_begun ample status.Refused job old new left ends = job.steps
steps_begun ample status.Usage job old new left ends = job.steps
steps_begun ample status.SchemaFault job old new left ends = job.steps
steps_begun ample status.ReadFault job old new left ends = ends.0 + 1
steps_begun ample status.WriteFault job old new left ends = ends.0 + 1
steps_begun ample status.Memory job old new left ends = ends.0 + 1

-- neither a fault of the outside nor want of memory
abbrev pub IsFinished : Status → Type 0
IsFinished status.Accepted = ⊤
IsFinished status.Refused = ⊤
IsFinished status.Usage = ⊤
IsFinished status.SchemaFault = ⊤
IsFinished status.ReadFault = ⊥
IsFinished status.WriteFault = ⊥
IsFinished status.Memory = ⊥

-- no count of faults rose: those of gets, of puts to files and of puts to the sink
abbrev pub CountsNone : ℕ → ℕ → ℕ → ℕ → ℕ → ℕ → Type 0
CountsNone gets gets_now puts puts_now sinks sinks_now =
    (gets_now ≡ gets) × (puts_now ≡ puts) × (sinks_now ≡ sinks)

-- The three counts of faults, before and after a run that ended with this status: the fault that
-- the status names was counted, once, and no other.
abbrev pub CountsRun : Status → ℕ → ℕ → ℕ → ℕ → ℕ → ℕ → Type 0
CountsRun status.Accepted gets gets_now puts puts_now sinks sinks_now =
    CountsNone gets gets_now puts puts_now sinks sinks_now
CountsRun status.Refused gets gets_now puts puts_now sinks sinks_now =
    CountsNone gets gets_now puts puts_now sinks sinks_now
CountsRun status.Usage gets gets_now puts puts_now sinks sinks_now =
    CountsNone gets gets_now puts puts_now sinks sinks_now
CountsRun status.SchemaFault gets gets_now puts puts_now sinks sinks_now =
    CountsNone gets gets_now puts puts_now sinks sinks_now
CountsRun status.ReadFault gets gets_now puts puts_now sinks sinks_now =
    RoseOnce gets gets_now × (puts_now ≡ puts) × (sinks_now ≡ sinks)
CountsRun status.WriteFault gets gets_now puts puts_now sinks sinks_now =
    (gets_now ≡ gets)
    × ((RoseOnce puts puts_now × (sinks_now ≡ sinks))
    ⊎ ((puts_now ≡ puts) × RoseOnce sinks sinks_now))
CountsRun status.Memory gets gets_now puts puts_now sinks sinks_now =
    CountsNone gets gets_now puts puts_now sinks sinks_now

-- no line, and then the one line
abbrev pub lines_at : List ℕ → ℕ → List (List ℕ)
lines_at line zero = []
lines_at line (suc k) = line ∷ []

-- whether files are read before the one line
abbrev pub reads_at : Bool → ℕ → Bool
reads_at reads zero = reads
reads_at reads (suc k) = false

-- the job that prints one line, perhaps after it read files, and changes no file
abbrev pub line_job : Content → Bool → List ℕ → Status → Job
line_job held reads line ended = record {
  at = λ k. record { files = held; lines = lines_at line k };
  reads = reads_at reads;
  saves = λ k. None;
  steps = 1;
  status = ended;
}

-- the status of what was to be printed, or that of a stop in printing
abbrev pub IsThatOrStopped : Status → Status → Type 0
IsThatOrStopped wanted status.WriteFault = ⊤
IsThatOrStopped wanted status.Memory = ⊤
IsThatOrStopped wanted ended = ended ≡ wanted
