-- What the files are asked for by the steps of scripts.
use Rattle.std.proofs.Common.{ℕ, ◌≡◌, Bool, true, false, List, [], ◌∷◌, ◌++◌, length, map, take, drop, Option, Some, None, refl, sym, ap, ◌∙◌, arith, take-append-drop}
use Rattle.std.proofs.Math.Seq.{take-append_seam, take-length}
use Rattle.ssz_outside.specs.Asked.{Ask, Asks, AsksOf, asks_append, is_cut}
use Rattle.ssz_outside.specs.Content.{Content}
use Rattle.ssz_outside.specs.Job.{Ends, Job, steps_begun, steps_done}
use Rattle.ssz_outside.specs.Pieces.{Told}
use Rattle.ssz_outside.specs.declared.status.Status.{Status}
use Rattle.ssz_outside.specs.declared.status.Status.TheVariants as status
use Rattle.ssz_machine.specs.declared.place.Place.{Place}
use Rattle.ssz_machine.specs.State.{Name, State}
use Rattle.ssz_machine.specs.Rules.{Rules}
use Rattle.ssz_machine.specs.Machine.{Turn}
use Rattle.ssz_machine.specs.Plays.{Event, play}
use Rattle.ssz_engine.specs.Scripts.{AsksSteps, asks_for, asks_of_turns, file_reached, files_reached, name_before}
use Rattle.ssz_engine.proofs.Asks.{asks_of_turns-append}
use Rattle.ssz_engine.proofs.Reaching.{same_files}

with_one : (rules : Rules) (file : Option Name) (asks : List Ask) (names : List Name)
    → asks ≡ map (λ name. (name, rules.max_bytes)) names
    → asks_for rules file ++ asks ≡ map (λ name. (name, rules.max_bytes)) (name_before file names)
with_one rules None asks names are = are
with_one rules (Some name) asks names are = ap (λ (l : List Ask). (name, rules.max_bytes) ∷ l) are

-- the files that steps read, each with the most bytes of a value
asks_are : (rules : Rules) (turns : List Turn)
    → asks_of_turns rules turns ≡ map (λ name. (name, rules.max_bytes)) (files_reached rules turns)
asks_are rules [] = refl
asks_are rules (turn ∷ turns) =
    with_one rules (file_reached rules turn) (asks_of_turns rules turns)
    (files_reached rules turns) (asks_are rules turns)

-- whatever numbers are printed, the files are asked for the same
pub same_asks : (rules : Rules) (place : Place) (events : List Event) (state : State)
    (numbers others : List ℕ)
    → asks_of_turns rules (play rules place numbers state events)
    ≡ asks_of_turns rules (play rules place others state events)
same_asks rules place events state numbers others =
    asks_are rules (play rules place numbers state events)
    ∙ ap (map (λ name. (name, rules.max_bytes)))
    (same_files rules place events state numbers others)
    ∙ sym (asks_are rules (play rules place others state events))

module _ (rules : Rules) (turns : List Turn) (first last : Asks) where
  -- what the first steps ask for is a front of what all do
  asks_front : (n : ℕ) → last ≡ asks_append first (asks_of_turns rules (take n turns))
      → AsksOf true (asks_of_turns rules turns) first last
  asks_front n asked =
      let front = asks_of_turns rules (take n turns) in
      let all : asks_of_turns rules turns ≡ front ++ asks_of_turns rules (drop n turns) =
      ap (asks_of_turns rules) (sym (take-append-drop n turns))
      ∙ asks_of_turns-append rules (take n turns) (drop n turns) in (
        length front,
        asked ∙ ap (λ (l : List Ask). asks_append first l)
            (sym (ap (take (length front)) all
            ∙ take-append_seam front (asks_of_turns rules (drop n turns)))),
      )

  -- and all steps ask for all
  asks_whole : (n : ℕ) → n ≡ length turns
      → last ≡ asks_append first (asks_of_turns rules (take n turns))
      → AsksOf false (asks_of_turns rules turns) first last
  asks_whole n are asked =
      asked ∙ ap (λ (steps : List Turn). asks_append first (asks_of_turns rules steps))
      (ap (λ k. take k turns) are ∙ take-length turns)

  -- so a job of these steps asks for all, or for a front where it was cut short
  pub asks_of_job : (ample : Bool) (ended : Status) (job : Job) (old new : Told)
      (left : Option Content) (ends : Ends ample ended job old new left)
      → job.steps ≡ length turns
      → AsksSteps rules turns (steps_done ample ended job old new left ends)
      (steps_begun ample ended job old new left ends) first last
      → AsksOf (is_cut ended) (asks_of_turns rules turns) first last
  asks_of_job ample status.Accepted job old new left ends steps (n, least, most, asked) =
      asks_whole n (omega (arith, steps, least, most)) asked
  asks_of_job ample status.Refused job old new left ends steps (n, least, most, asked) =
      asks_whole n (omega (arith, steps, least, most)) asked
  asks_of_job ample status.Usage job old new left ends steps (n, least, most, asked) =
      asks_whole n (omega (arith, steps, least, most)) asked
  asks_of_job ample status.SchemaFault job old new left ends steps (n, least, most, asked) =
      asks_whole n (omega (arith, steps, least, most)) asked
  asks_of_job ample status.ReadFault job old new left ends steps (n, least, most, asked) =
      asks_front n asked
  asks_of_job ample status.WriteFault job old new left ends steps (n, least, most, asked) =
      asks_front n asked
  asks_of_job ample status.Memory job old new left ends steps (n, least, most, asked) =
      asks_front n asked
