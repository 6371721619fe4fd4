-- Points of a run, and what leads from one to another.
use Rattle.std.specs.Prelude.{◌≡◌, ◌≢◌, ◌≤◌, ℕ, ◌+◌, ◌-◌, Bool, false, List, [], ◌∷◌, ◌++◌, Some, Result, Ok, Err, IfErr}
use Rattle.std.specs.List.{AllByRecursion, list_any}
use Rattle.ssz_arena.specs.Content.{unhashed, KeepsNodes}
use Rattle.ssz_outside.specs.Asked.{Asks, asks_append}
use Rattle.ssz_outside.specs.Job.{CountsRun, CountsNone, Ends, IsFinished, steps_begun, steps_done}
use Rattle.ssz_outside.specs.Pieces.{Told, told_append}
use Rattle.ssz_outside.specs.declared.status.Status.{Status}
use Rattle.ssz_outside.specs.declared.status.Status.TheVariants as status
use Rattle.ssz_proof.specs.Calculation.{PairOf}
use Rattle.ssz_machine.specs.declared.place.Place.{Place}
use Rattle.ssz_machine.specs.State.{State, Name}
use Rattle.ssz_machine.specs.Rules.{Rules}
use Rattle.ssz_machine.specs.Machine.{Turn, reply_of, charge_of, is_refused, misses, Line}
use Rattle.ssz_machine.specs.Plays.{Event, play, shown_all, says, adopts}
use Rattle.ssz_machine.specs.Counts.{may_hash, number_said}
use Rattle.ssz_machine.specs.Runs.{IsUnderWay, job_from}
use Rattle.ssz_decisions.specs.Content.{rules_of, KeepsEngine}
use Rattle.ssz_decisions.specs.Standing.{StandsFor}
use Rattle.ssz_engine.specs.Scripts.{AsksSteps, IsStopped, Scene, asks_of_turns, files_reached, AreNamedReadable}
use Rattle.ssz_engine.specs.Compacting.{NoneCompacts}

-- A step was paid for. Before it `was` pairs were hashed and `left` were to be hashed, behind it
-- `now` and `rest`; where it prints a number, that is what was hashed since the count was `base`.
pub record PaysStep (base : ℕ) (turn : Turn) (was left now rest : ℕ) : Type 0 where
  pub rises : was ≤ now
  pub stays : may_hash turn ≡ false → now ≡ was
  pub paid : now + rest ≤ was + left + charge_of turn
  pub said : (n : ℕ) → number_said (reply_of turn) ≡ Some n → n ≡ was - base

-- each of some steps was, one behind another
abbrev pub PaysSteps : ℕ → List Turn → ℕ → ℕ → ℕ → ℕ → Type 0
PaysSteps base [] was left now rest = (now ≡ was) × (rest ≡ left)
PaysSteps base (turn ∷ turns) was left now rest =
    (mid : ℕ) × (mid_left : ℕ) × PaysStep base turn was left mid mid_left
    × PaysSteps base turns mid mid_left now rest

-- What a run began with: its rules, its events, the first state, the engine's base, the pairs that
-- were hashed and that were left to be hashed, what the files were asked for, the pieces of the
-- sink, and whether it always finds memory.
pub record Course : Type 0 where
  pub rules : Rules
  pub events : List Event
  pub first : State
  pub base : ℕ
  pub hashed : ℕ
  pub left : ℕ
  pub asked : Asks
  pub pieces : Told
  pub ample : Bool

-- the steps of the whole run, where `hashes` prints these numbers
abbrev pub turns_of : Place → Course → List ℕ → List Turn
turns_of place course numbers = play course.rules place numbers course.first course.events

-- A run has come to a point: these steps were made, printed and paid for, each file that they read
-- was asked for and was there, and these events are left.
pub record IsAt (pair_of : PairOf) (place : Place) (course : Course) (done : List Turn)
    (state : State) (events : List Event) (refused : Bool) (scene : Scene) : Type 0 where
  pub front : List Event
  pub all : course.events ≡ front ++ events
  pub under : IsUnderWay course.rules place front course.first done state
  pub rules : rules_of pair_of scene.engine ≡ course.rules
  pub base : scene.engine.base ≡ course.base
  pub versions : StandsFor scene.engine state.versions
  pub files : scene.told ≡ Some state.files
  pub printed : scene.pieces ≡ told_append course.pieces (shown_all place done)
  pub asked : scene.asked ≡ asks_append course.asked (asks_of_turns course.rules done)
  pub ample : scene.ample ≡ course.ample
  pub answer : refused ≡ list_any is_refused done
  pub found : list_any (misses course.rules) done ≡ false
  pub pays : PaysSteps course.base done course.hashed course.left scene.hashed
      (unhashed scene.engine.arena)

-- it has come to some point with these events left
pub record RunReaches (pair_of : PairOf) (place : Place) (course : Course) (events : List Event)
    (refused : Bool) (scene : Scene) : Type 0 where
  pub done : List Turn
  pub state : State
  pub at : IsAt pair_of place course done state events refused scene

-- What is so of a run that a fault or want of memory ended: for some numbers it ended as its job
-- does; its steps were paid for, as if nothing had been hashed in the last one begun; a read failed
-- only of a file that the steps read; it left what the steps that were done leave; and the files
-- were asked for those of these steps, and perhaps of the one begun.
pub record IsCutShort (place : Place) (course : Course) (ended : Status) (before after : Scene)
    : Type 0 where
  pub numbers : List ℕ
  pub ends : Ends course.ample ended
      (job_from course.rules place course.events course.first numbers)
      course.pieces after.pieces after.told
  pub now : ℕ
  pub rest : ℕ
  pub pays : PaysSteps course.base
      (turns_of place course numbers) course.hashed course.left now rest
  pub most : now ≤ after.hashed
  pub least : after.hashed ≤ now + rest
  pub broken : IsFinished ended → ⊥
  pub reached : AllByRecursion before.readable
      (files_reached course.rules (turns_of place course numbers))
      → ended ≢ status.ReadFault
  pub stopped : IsStopped course.rules place course.events course.first numbers
      (steps_done course.ample ended
      (job_from course.rules place course.events course.first numbers) course.pieces after.pieces
      after.told ends) (course.hashed + course.left) after
  pub asks : AsksSteps course.rules (turns_of place course numbers)
      (steps_done course.ample ended
      (job_from course.rules place course.events course.first numbers) course.pieces after.pieces
      after.told ends)
      (steps_begun course.ample ended
      (job_from course.rules place course.events course.first numbers) course.pieces after.pieces
      after.told ends) course.asked after.asked

-- the run went on, or it ended
abbrev pub RunContinues : PairOf → Place → Course → List Event → Result (Unit {0}) Status → Bool
    → Scene
    → Scene → Type 0
RunContinues pair_of place course events (Ok x) refused before after =
    RunReaches pair_of place course events refused after
RunContinues pair_of place course events (Err ended) refused before after =
    IsCutShort place course ended before after

-- Whatever run had come to these events, they are done, or it has ended.
abbrev pub AnyRunContinues : PairOf → Place → List Event → Result (Unit {0}) Status → Bool → Bool
    → Scene
    → Scene → Type 0
AnyRunContinues pair_of place these result was refused before after =
    (course : Course) (left : List Event)
    → RunReaches pair_of place course (these ++ left) was before
    → RunContinues pair_of place course left result refused before after

-- no fault was counted but the one that ended it
abbrev pub CountsFaults : Result (Unit {0}) Status → Scene → Scene → Type 0
CountsFaults (Ok x) before after =
    CountsNone before.get_faults after.get_faults before.put_faults after.put_faults
    before.sink_faults after.sink_faults
CountsFaults (Err ended) before after =
    CountsRun ended before.get_faults after.get_faults before.put_faults after.put_faults
    before.sink_faults after.sink_faults

-- the lines among some events
abbrev pub lines_in : List Event → List Line
lines_in [] = []
lines_in (says writer line ∷ events) = line ∷ lines_in events
lines_in (adopts writer ∷ events) = lines_in events

-- What is so of a part of a run that does these events, to the last or to one that ends it: types,
-- limit and base stay, and so do the nodes, where no line gives them up; what could be read can be
-- read; and a fault ends it and is counted. A read fails only of a file that a line names.
pub record Runs (pair_of : PairOf) (place : Place) (events : List Event)
    (result : Result (Unit {0}) Status) (was refused : Bool) (before after : Scene) : Type 0 where
  pub goes : AnyRunContinues pair_of place events result was refused before after
  pub keeps : KeepsEngine before.engine after.engine
  pub nodes : NoneCompacts (lines_in events) → KeepsNodes before.engine.arena after.engine.arena
  pub rises : before.hashed ≤ after.hashed
  pub readable : (name : Name) → before.readable name → after.readable name
  pub counts : CountsFaults result before after
  pub stops : IfErr result (λ ended. ¬ IsFinished ended)
  pub fails : AreNamedReadable before.readable (lines_in events) → result ≢ Err status.ReadFault

-- the first of these events were done, and those are left
pub record RunsSome (pair_of : PairOf) (place : Place) (these those : List Event)
    (was refused : Bool) (before after : Scene) : Type 0 where
  pub first : List Event
  pub all : these ≡ first ++ those
  pub runs : Runs pair_of place first (Ok tt) was refused before after

-- they were, or one of these ended the run
abbrev pub RunsUpTo : PairOf → Place → List Event → List Event → Result (Unit {0}) Status → Bool
    → Bool → Scene → Scene → Type 0
RunsUpTo pair_of place these those (Ok x) was refused before after =
    RunsSome pair_of place these those was refused before after
RunsUpTo pair_of place these those (Err ended) was refused before after =
    Runs pair_of place these (Err ended) was refused before after
