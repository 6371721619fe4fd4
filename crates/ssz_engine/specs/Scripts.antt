-- How the run of a script ends.
use Rattle.std.specs.Prelude.{◌≡◌, ◌≢◌, ◌≤◌, ℕ, ◌+◌, ◌-◌, if◌then◌else◌, Bool, List, [], ◌∷◌, ◌++◌, length, take, Option, Some, None}
use Rattle.std.specs.List.{AllByRecursion}
use Rattle.ssz_arena.specs.Content.{unhashed}
use Rattle.ssz_chunk.specs.declared.PairHash as hash
use Rattle.ssz_outside.specs.Asked.{Ask, Asks, asks_append}
use Rattle.ssz_outside.specs.Content.{Content as Files}
use Rattle.ssz_outside.specs.Job.{Ends, IsFinished, steps_begun, steps_done}
use Rattle.ssz_outside.specs.Pieces.{Told}
use Rattle.ssz_outside.specs.declared.outside.Files as files
use Rattle.ssz_outside.specs.declared.outside.Sink as sink
use Rattle.ssz_outside.specs.declared.status.Status.{Status}
use Rattle.ssz_outside.specs.declared.status.Status.TheVariants as status
use Rattle.ssz_proof.specs.Calculation.{PairOf}
use Rattle.ssz_script.specs.Lines.{statements_in}
use Rattle.ssz_script.specs.declared.statement.Statement.{Statement}
use Rattle.ssz_machine.specs.declared.place.Place.{Place}
use Rattle.ssz_machine.specs.declared.place.Place.TheVariants.{Run}
use Rattle.ssz_machine.specs.State.{Name, State}
use Rattle.ssz_machine.specs.Rules.{Rules}
use Rattle.ssz_machine.specs.Machine.{Line, Turn, reads_file}
use Rattle.ssz_machine.specs.Plays.{Event, all_of, charges, play, state_after}
use Rattle.ssz_machine.specs.Jobs.{job_of}
use Rattle.ssz_machine.specs.Counts.{AreCounts}
use Rattle.ssz_decisions.specs.Content.{EngineContent, rules_of}
use Rattle.ssz_decisions.specs.Standing.{StandsFor}
use Rattle.ssz_engine.specs.Steps.{file_read}

-- the file that a line names for reading
abbrev pub file_named : Option Statement → Option Name
file_named None = None
file_named (Some statement) = file_read statement

-- a name before others, where there is one
abbrev pub name_before : Option Name → List Name → List Name
name_before None names = names
name_before (Some name) names = name ∷ names

-- the files that lines name for reading
abbrev pub files_named : List Line → List Name
files_named [] = []
files_named (line ∷ lines) = name_before (file_named line.1) (files_named lines)

-- each of them can be read
abbrev pub AreNamedReadable : (Name → Type 0) → List Line → Type 0
AreNamedReadable readable lines = AllByRecursion readable (files_named lines)

-- the file that a step reads: one that is refused before reads none
abbrev pub file_reached : Rules → Turn → Option Name
file_reached rules turn = if reads_file rules turn then file_named turn.line.1 else None

-- the files that steps read
abbrev pub files_reached : Rules → List Turn → List Name
files_reached rules [] = []
files_reached rules (turn ∷ turns) =
    name_before (file_reached rules turn) (files_reached rules turns)

-- what the files are asked for, for a file that is read: the most bytes of a value
abbrev pub asks_for : Rules → Option Name → List Ask
asks_for rules None = []
asks_for rules (Some name) = (name, rules.max_bytes) ∷ []

-- so it is for a step
abbrev pub asks_of_turn : Rules → Turn → List Ask
asks_of_turn rules turn = asks_for rules (file_reached rules turn)

-- and for steps, one behind another
abbrev pub asks_of_turns : Rules → List Turn → List Ask
asks_of_turns rules [] = []
asks_of_turns rules (turn ∷ turns) = asks_of_turn rules turn ++ asks_of_turns rules turns

-- The files were asked for those of the first of these steps, each once, in their order and with
-- the most bytes of a value, and for nothing else: for those of all steps that were done, and
-- perhaps for that of the one that was begun.
abbrev pub AsksSteps : Rules → List Turn → (done begun : ℕ) → Asks → Asks → Type 0
AsksSteps rules turns done begun old new =
    (n : ℕ) × (done ≤ n) × (n ≤ begun)
    × (new ≡ asks_append old (asks_of_turns rules (take n turns)))

-- What is there before or after a line: the engine, the hasher's count, what the files tell, which
-- of them can be read, what they were asked for, and how many of their reads and writes failed.
pub record Point : Type 1 where
  pub engine : EngineContent
  pub hashed : ℕ
  pub told : Option Files
  pub readable : Name → Type 0
  pub asked : Asks
  pub get_faults : ℕ
  pub put_faults : ℕ

-- that of an engine with these files and this hasher
abbrev pub point : {F H : Type 0} → files.Ghosts F → hash.Ghosts H → EngineContent → F → H → Point
point of_files of_hash engine its_files its_hasher = record {
  engine = engine;
  hashed = of_hash.pairs its_hasher;
  told = of_files.content its_files;
  readable = of_files.readable its_files;
  asked = of_files.asked its_files;
  get_faults = of_files.get_faults its_files;
  put_faults = of_files.put_faults its_files;
}

-- What is there before or after a run: that, and of the sink the pieces that it has, whether it
-- always finds memory, and how many puts have failed.
pub record Scene : Type 1 where
  pub engine : EngineContent
  pub hashed : ℕ
  pub told : Option Files
  pub readable : Name → Type 0
  pub asked : Asks
  pub get_faults : ℕ
  pub put_faults : ℕ
  pub pieces : Told
  pub ample : Bool
  pub sink_faults : ℕ

-- that of an engine with these files, this sink and this hasher
abbrev pub scene : {F S H : Type 0} → files.Ghosts F → sink.Ghosts S → hash.Ghosts H → EngineContent
    → F
    → S → H → Scene
scene of_files of_sink of_hash engine its_files its_sink its_hasher = record {
  engine = engine;
  hashed = of_hash.pairs its_hasher;
  told = of_files.content its_files;
  readable = of_files.readable its_files;
  asked = of_files.asked its_files;
  get_faults = of_files.get_faults its_files;
  put_faults = of_files.put_faults its_files;
  pieces = of_sink.pieces its_sink;
  ample = of_sink.ample its_sink;
  sink_faults = of_sink.faults its_sink;
}

-- what is there beside the sink
abbrev pub point_of : Scene → Point
point_of scene = record {
  engine = scene.engine;
  hashed = scene.hashed;
  told = scene.told;
  readable = scene.readable;
  asked = scene.asked;
  get_faults = scene.get_faults;
  put_faults = scene.put_faults;
}

-- as behind `start`: nothing is left to be hashed, and `hashes` prints 0
pub record IsFreshScene (scene : Scene) : Type 0 where
  pub base : scene.engine.base ≡ scene.hashed
  pub left : unhashed scene.engine.arena ≡ 0

-- The numbers that `hashes` prints among the steps are as they should be. All pairs together are
-- those that the run hashed, where it was done; at most those, where a fault or want of memory
-- ended it: lines that it did not come to then print the last count.
pub record HasCounts (ended : Status) (turns : List Turn) (rise : ℕ) : Type 0 where
  pub total : ℕ
  pub most : total ≤ rise
  pub whole : IsFinished ended → total ≡ rise
  pub counts : AreCounts turns total

-- What is there after a run that was done: what was hashed, and what is then left to be hashed, is
-- at most what was left before and the charges; and the engine stands for the versions after it.
pub record IsThrough (turns : List Turn) (last : State) (before after : Scene) : Type 0 where
  pub paid : after.hashed + unhashed after.engine.arena
      ≤ before.hashed + unhashed before.engine.arena + charges turns
  pub stands : StandsFor after.engine last.versions

-- What is there after a run that was stopped with so many steps done: the engine stands for the
-- versions after a front of the events that has these steps; and what was hashed is at most what
-- was to be hashed in any case, and the charges of these steps. So no line behind them was done.
pub record IsStopped (rules : Rules) (place : Place) (events : List Event) (first : State)
    (numbers : List ℕ) (steps owed : ℕ) (after : Scene) : Type 0 where
  pub front : List Event
  pub left : List Event
  pub all : events ≡ front ++ left
  pub count : length (play rules place numbers first front) ≡ steps
  pub stands : StandsFor after.engine (state_after rules place numbers first front).versions
  pub paid : after.hashed ≤ owed + charges (play rules place numbers first front)

-- A run of some events from a first state ended: for some numbers that `hashes` prints, as the job
-- of the events does.
pub record EndsRun (rules : Rules) (place : Place) (events : List Event) (first : State)
    (ended : Status) (before after : Scene) : Type 0 where
  pub numbers : List ℕ
  pub ends : Ends before.ample ended
      (job_of rules place first.files (play rules place numbers first events))
      before.pieces after.pieces after.told
  -- what was hashed is at most what was left to be hashed before, and the charges
  pub paid : after.hashed ≤ before.hashed + unhashed before.engine.arena
      + charges (play rules place numbers first events)
  pub counts : IsFreshScene before → HasCounts ended (play rules place numbers first events)
      (after.hashed - before.hashed)
  -- a read failed only of a file that the steps read, whatever numbers are printed
  pub reached : (others : List ℕ)
      → AllByRecursion before.readable
      (files_reached rules (play rules place others first events))
      → ended ≢ status.ReadFault
  pub through : IsFinished ended → IsThrough (play rules place numbers first events)
      (state_after rules place numbers first events) before after
  -- where a fault or want of memory ended it, it left what the steps leave that were done
  pub stopped : (IsFinished ended → ⊥) → IsStopped rules place events first numbers
      (steps_done before.ample ended
      (job_of rules place first.files (play rules place numbers first events)) before.pieces
      after.pieces after.told ends) (before.hashed + unhashed before.engine.arena) after
  -- the files were asked for those of the steps that were done, and perhaps of the one begun
  pub asks : AsksSteps rules (play rules place numbers first events)
      (steps_done before.ample ended
      (job_of rules place first.files (play rules place numbers first events)) before.pieces
      after.pieces after.told ends)
      (steps_begun before.ample ended
      (job_of rules place first.files (play rules place numbers first events)) before.pieces
      after.pieces after.told ends) before.asked after.asked

-- So the run of a script by writer 0 ended, whatever state of the machine was stood for, where the
-- files tell what they hold.
abbrev pub EndsScript : PairOf → List ℕ → Status → Scene → Scene → Type 0
EndsScript pair_of script ended before after =
    (first : State) → StandsFor before.engine first.versions → before.told ≡ Some first.files
    → EndsRun (rules_of pair_of before.engine) Run (all_of 0 (statements_in script)) first ended
    before after
