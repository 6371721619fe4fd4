-- How a weave ends, and what its writers are told in it.
use Rattle.std.specs.Prelude.{◌≡◌, ◌≢◌, ◌≤◌, ◌<◌, ℕ, ◌+◌, List, [], ◌∷◌, length, map, take, Some}
use Rattle.std.specs.List.{AllByRecursion}
use Rattle.ssz_arena.specs.Content.{unhashed}
use Rattle.ssz_outside.specs.Job.{Ends, IsFinished, steps_begun, steps_done}
use Rattle.ssz_outside.specs.Pieces.{Told, told_append}
use Rattle.ssz_outside.specs.declared.status.Status.{Status}
use Rattle.ssz_outside.specs.declared.status.Status.TheVariants as status
use Rattle.ssz_proof.specs.Calculation.{PairOf}
use Rattle.ssz_script.specs.Lines.{statements_in}
use Rattle.ssz_machine.specs.declared.place.Place.TheVariants.{Weave}
use Rattle.ssz_machine.specs.State.{State}
use Rattle.ssz_machine.specs.Rules.{Rules}
use Rattle.ssz_machine.specs.Plays.{charges, state_after, weaving}
use Rattle.ssz_machine.specs.Jobs.{turns_of_weave, weave_job}
use Rattle.ssz_machine.specs.Isolation.{lines_alone, marked}
use Rattle.ssz_decisions.specs.Content.{rules_of}
use Rattle.ssz_decisions.specs.Standing.{StandsFor}
use Rattle.ssz_engine.specs.Scripts.{AsksSteps, IsStopped, IsThrough, Scene, files_reached}

-- A weave from a first state ended, as its job does. No line of it prints a number.
pub record EndsWeaveFrom (rules : Rules) (base order : List ℕ) (scripts : List (List ℕ))
    (first : State) (ended : Status) (before after : Scene) : Type 0 where
  pub ends : Ends before.ample ended (weave_job rules first base order scripts) before.pieces
      after.pieces after.told
  -- what was hashed is at most what was left to be hashed before, and the charges
  pub paid : after.hashed ≤ before.hashed + unhashed before.engine.arena
      + charges (turns_of_weave rules first base order scripts)
  -- a read failed only of a file that the steps read
  pub reached : AllByRecursion before.readable
      (files_reached rules (turns_of_weave rules first base order scripts))
      → ended ≢ status.ReadFault
  pub through : IsFinished ended → IsThrough (turns_of_weave rules first base order scripts)
      (state_after rules Weave [] first
      (weaving (statements_in base) order (map statements_in scripts))) before after
  -- where a fault or want of memory ended it, it left what the steps leave that were done
  pub stopped : (IsFinished ended → ⊥) → IsStopped rules Weave
      (weaving (statements_in base) order (map statements_in scripts)) first []
      (steps_done before.ample ended (weave_job rules first base order scripts) before.pieces
      after.pieces after.told ends) (before.hashed + unhashed before.engine.arena) after
  -- the files were asked for those of the steps that were done, and perhaps of the one begun
  pub asks : AsksSteps rules (turns_of_weave rules first base order scripts)
      (steps_done before.ample ended (weave_job rules first base order scripts) before.pieces
      after.pieces after.told ends)
      (steps_begun before.ample ended (weave_job rules first base order scripts) before.pieces
      after.pieces after.told ends) before.asked after.asked

-- So it ended whatever state of the machine was stood for, where the files tell what they hold.
abbrev pub EndsWeave : PairOf → List ℕ → List ℕ → List (List ℕ) → Status → Scene → Scene → Type 0
EndsWeave pair_of base order scripts ended before after =
    (first : State) → StandsFor before.engine first.versions → before.told ≡ Some first.files
    → EndsWeaveFrom (rules_of pair_of before.engine) base order scripts first ended before after

-- the pieces are the first of these lines, and the last of them may be cut short
abbrev pub AreFirst : List (List ℕ) → List (List ℕ) → Type 0
AreFirst [] lines = Unit {0}
AreFirst (piece ∷ pieces) [] = ⊥
AreFirst (piece ∷ []) (line ∷ lines) = (count : ℕ) × (piece ≡ take count line)
AreFirst (piece ∷ pieces) (line ∷ lines) = (piece ≡ line) × AreFirst pieces lines

-- Of the pieces that a sink was given, those with the mark of a script's writer are the first
-- lines that its script prints where it is played from the base's versions with no other writer
-- there; all of them, where no fault or want of memory ended the weave.
pub record IsolatesFrom (rules : Rules) (base : List ℕ) (scripts : List (List ℕ)) (first : State)
    (ended : Status) (old new : Told) : Type 0 where
  pub pieces : List (List ℕ)
  pub given : new ≡ told_append old pieces
  pub first_lines : (writer : ℕ) → writer < length scripts
      → AreFirst (marked writer pieces)
      (lines_alone rules first (statements_in base) (map statements_in scripts) writer)
  pub all_lines : IsFinished ended → (writer : ℕ) → writer < length scripts
      → marked writer pieces
      ≡ lines_alone rules first (statements_in base) (map statements_in scripts) writer

-- So it is whatever state of the machine was stood for, where the files tell what they hold.
abbrev pub IsolatesWriters : PairOf → List ℕ → List (List ℕ) → Status → Scene → Scene → Type 0
IsolatesWriters pair_of base scripts ended before after =
    (first : State) → StandsFor before.engine first.versions → before.told ≡ Some first.files
    → IsolatesFrom (rules_of pair_of before.engine) base scripts first ended before.pieces
    after.pieces
