-- How the work of the command `work` goes on, and how it ends.
use Rattle.std.specs.Prelude.{◌≡◌, ◌≢◌, ◌≤◌, ⊤, ℕ, ◌+◌, false, List, [], ◌∷◌, ◌++◌, take, Option, Some, None, Result, Ok, Err}
use Rattle.std.specs.List.{AllByRecursion}
use Rattle.ssz_value.specs.Trees.{tree}
use Rattle.ssz_arena.specs.Content.{ArenaContent as Nodes, IsNodeOf, KeepsNodes, todo, tree_of, unhashed}
use Rattle.ssz_arena.specs.declared.node.NodeId.{NodeId}
use Rattle.ssz_outside.specs.Content.{Content as Files}
use Rattle.ssz_outside.specs.Job.{Ends, Job}
use Rattle.ssz_outside.specs.declared.status.Status.{Status}
use Rattle.ssz_outside.specs.declared.status.Status.TheVariants as status
use Rattle.ssz_proof.specs.Calculation.{PairOf}
use Rattle.ssz_script.specs.Texts.{reply_line}
use Rattle.ssz_script.specs.declared.statement.Statement.{Statement}
use Rattle.ssz_script.specs.declared.statement.Statement.TheVariants.{New, Set, Append, Pop, Choose, Root}
use Rattle.ssz_machine.specs.State.{Name, State, Version, Versions, version_of}
use Rattle.ssz_machine.specs.Rules.{Rules}
use Rattle.ssz_machine.specs.Machine.{Turn, reply_of, state_of}
use Rattle.ssz_machine.specs.Plays.{charges}
use Rattle.ssz_machine.specs.Drawing.{worked}
use Rattle.ssz_machine.specs.Work.{Worked, turn_done, joined_work, walk_from, work_job, work_of}
use Rattle.ssz_decisions.specs.Content.{rules_of}
use Rattle.ssz_decisions.specs.Standing.{StandsFor}
use Rattle.ssz_engine.specs.Scripts.{IsThrough, Point, Scene}
use Rattle.ssz_decisions.specs.Roots.{RisesBy}
use Rattle.ssz_decisions.specs.declared.fault.EngineFault.{EngineFault}
use Rattle.ssz_decisions.specs.declared.fault.EngineFault.TheVariants.{Memory}

-- the statements of a work: none of them reads or writes a file, or tells how much was hashed
abbrev pub IsOfWork : Statement → Type 0
IsOfWork (New v t) = ⊤
IsOfWork (Set v path literal) = ⊤
IsOfWork (Append v path literal) = ⊤
IsOfWork (Pop v path) = ⊤
IsOfWork (Choose v path k literal) = ⊤
IsOfWork (Root v) = ⊤
IsOfWork other = ⊥

-- one step
abbrev pub one_step : Turn → Worked
one_step turn = record { turns = turn ∷ []; edits = 0; tops = 0; state = state_of turn }

-- the whole work, and the step that gives the second line
abbrev pub whole_work : Rules → State → Name → ℕ → ℕ → Worked
whole_work rules state type_name seed count =
    let work = work_of rules state type_name seed count in
    joined_work work (one_step (turn_done rules work.state (Root worked)))

-- what is there stands for a state of the machine
pub record IsAtState (state : State) (point : Point) : Type 0 where
  pub versions : StandsFor point.engine state.versions
  pub files : point.told ≡ Some state.files

-- A node has the tree of the version's value, and nothing is left to be hashed for its root.
pub record IsHashed (arena : Nodes) (version : Version) : Type 0 where
  pub node : NodeId
  pub there : IsNodeOf arena node
  pub tree : tree_of arena node ≡ tree version.type version.value
  pub hashed : todo arena node ≡ 0

-- There is one for what the name of a `root` then stands for.
abbrev pub IsRootHashed : Nodes → Option Statement → Versions → Type 0
IsRootHashed arena (Some (Root v)) versions =
    (version : Version) → version_of v versions ≡ Some version → IsHashed arena version
IsRootHashed arena other versions = Unit {0}

-- A step that asks for a root made it.
abbrev pub MakesRoot : Nodes → Turn → Type 0
MakesRoot arena turn = IsRootHashed arena turn.line.1 ((state_of turn).versions turn.writer)

-- Some steps to this state were made from one point to another, with each root that they ask for,
-- and paid for; no file changed.
pub record AreDone (turns : List Turn) (last : State) (before after : Point) : Type 0 where
  pub at : IsAtState last after
  pub nodes : KeepsNodes before.engine.arena after.engine.arena
  pub roots : AllByRecursion (MakesRoot after.engine.arena) turns
  pub told : after.told ≡ before.told
  pub paid : after.hashed + unhashed after.engine.arena
      ≤ before.hashed + unhashed before.engine.arena + charges turns

-- There was no memory for one of them, and none was done from that one on: what is there stands for
-- the versions before it, and what was hashed is paid for by those that were done; no file changed.
pub record AreBroken (turns : List Turn) (fault : EngineFault) (before after : Point) : Type 0
  where
    pub memory : fault ≡ Memory
    pub told : after.told ≡ before.told
    pub done : List Turn
    pub next : Turn
    pub left : List Turn
    pub all : turns ≡ done ++ next ∷ left
    pub stands : StandsFor after.engine next.before.versions
    pub paid : after.hashed ≤ before.hashed + unhashed before.engine.arena + charges done

-- They were made, with an answer of which this is so, or there was no memory for them.
abbrev pub Works : {T : Type 0} → Result T EngineFault → Worked → (T → Type 0) → Point → Point
    → Type 0
Works (Ok answer) work Is before after = AreDone work.turns work.state before after × Is answer
Works (Err fault) work Is before after = AreBroken work.turns fault before after

-- The reply to a statement is the line of its step.
abbrev pub Replies : Turn → List ℕ → Type 0
Replies turn reply = reply ≡ reply_line (reply_of turn)

-- a walk over a version comes to this edit, if any, and leaves the generator in this state
abbrev pub Draws : Option Version → ℕ → ℕ → Option Statement → Type 0
Draws version seed next edit = walk_from version seed ≡ record { edit = edit; seed = next }

-- the job that prints two lines, and reads and changes no file
abbrev pub two_lines_job : Files → List ℕ → List ℕ → Job
two_lines_job held first second = record {
  at = λ k. record { files = held; lines = take k (first ∷ second ∷ []) };
  reads = λ k. false;
  saves = λ k. None;
  steps = 2;
  status = status.Accepted;
}

-- the state before the first of some steps, or this one where there are none
abbrev pub before_of : State → List Turn → State
before_of last [] = last
before_of last (turn ∷ turns) = turn.before

-- The first of these steps to this state were done, and no other: what is there stands for the
-- versions behind them, and what was hashed is at most what was to be hashed in any case, and their
-- charges.
pub record StopsAmong (turns : List Turn) (last : State) (owed : ℕ) (after : Scene) : Type 0 where
  pub done : List Turn
  pub left : List Turn
  pub all : turns ≡ done ++ left
  pub stands : StandsFor after.engine (before_of last left).versions
  pub paid : after.hashed ≤ owed + charges done

-- A work from a first state ended, as its job does.
pub record EndsWorkFrom (rules : Rules) (type_name : Name) (seed count : ℕ) (first : State)
    (ended : Status) (before after : Scene) : Type 0 where
  pub ends : Ends before.ample ended (work_job rules first type_name seed count) before.pieces
      after.pieces after.told
  -- what was hashed is at most what was left to be hashed before, and the charges
  pub paid : after.hashed ≤ before.hashed + unhashed before.engine.arena
      + charges (whole_work rules first type_name seed count).turns
  -- all steps were done, also where their lines were not printed whole
  pub through : ended ≢ status.Memory
      → IsThrough (whole_work rules first type_name seed count).turns
      (whole_work rules first type_name seed count).state before after
  -- the root behind each edit was made, and is kept
  pub roots : ended ≢ status.Memory → AllByRecursion (MakesRoot after.engine.arena)
      (whole_work rules first type_name seed count).turns
  -- so each edit of something below the top had its pair there hashed: the roots between the edits
  -- were made, and not the last alone
  pub least : ended ≢ status.Memory
      → RisesBy (whole_work rules first type_name seed count).tops before.hashed after.hashed
  -- where memory was wanting, some were done
  pub stopped : ended ≡ status.Memory → StopsAmong
      (whole_work rules first type_name seed count).turns
      (whole_work rules first type_name seed count).state
      (before.hashed + unhashed before.engine.arena) after

-- So it ended whatever state of the machine was stood for, where the files tell what they hold.
abbrev pub EndsWork : PairOf → Name → ℕ → ℕ → Status → Scene → Scene → Type 0
EndsWork pair_of type_name seed count ended before after =
    (first : State) → StandsFor before.engine first.versions → before.told ≡ Some first.files
    → EndsWorkFrom (rules_of pair_of before.engine) type_name seed count first ended before after
