-- Runs that are under way: what the callers that do line after line go by.
use Rattle.std.specs.Prelude.{ℕ, ◌≡◌, ◌++◌, List}
use Rattle.ssz_outside.specs.Job.{Job}
use Rattle.ssz_machine.specs.declared.place.Place.{Place}
use Rattle.ssz_machine.specs.State.{State}
use Rattle.ssz_machine.specs.Rules.{Rules}
use Rattle.ssz_machine.specs.Machine.{Turn}
use Rattle.ssz_machine.specs.Plays.{Event, play, state_after}
use Rattle.ssz_machine.specs.Jobs.{job_of, files_after}
use Rattle.ssz_machine.specs.Work.{Worked, joined_work, worked_on}

-- These events make these steps from a first state, and come to this state: with the numbers so
-- far, whatever numbers and events are still to come.
pub record IsUnderWay (rules : Rules) (place : Place) (front : List Event) (first : State)
    (done : List Turn) (state : State) : Type 0 where
  pub numbers : List ℕ
  pub turns : (left : List Event) (more : List ℕ)
      → play rules place (numbers ++ more) first (front ++ left)
      ≡ done ++ play rules place more state left
  pub final : (left : List Event) (more : List ℕ)
      → state_after rules place (numbers ++ more) first (front ++ left)
      ≡ state_after rules place more state left
  pub files : files_after first.files done ≡ state.files

-- the job of these events from a first state, where `hashes` prints these numbers
abbrev pub job_from : Rules → Place → List Event → State → List ℕ → Job
job_from rules place events first numbers =
    job_of rules place first.files (play rules place numbers first events)

-- Of a whole work some steps were made, and so many rounds are left, from this state of the
-- generator and of the machine.
pub record IsWorking (rules : Rules) (whole so_far : Worked) (left x : ℕ) : Type 0 where
  pub all : whole ≡ joined_work so_far (worked_on rules left x so_far.state)
