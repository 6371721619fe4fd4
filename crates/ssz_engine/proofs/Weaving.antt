-- A whole weave.
use Rattle.std.proofs.Common.{ℕ, ◌≡◌, Bool, false, List, [], length, map, refl, sym, ap, ◌∙◌, subst, arith}
use Rattle.std.specs.Prelude.{Ok, Err}
use Rattle.ssz_outside.specs.Job.{Ends, steps_begun, steps_done}
use Rattle.ssz_outside.specs.declared.status.Status.{Status}
use Rattle.ssz_proof.specs.Calculation.{PairOf}
use Rattle.ssz_script.specs.Lines.{statements_in}
use Rattle.ssz_machine.specs.declared.place.Place.TheVariants.{Weave}
use Rattle.ssz_machine.specs.State.{State}
use Rattle.ssz_machine.specs.Rules.{Rules}
use Rattle.ssz_machine.specs.Machine.{Turn}
use Rattle.ssz_machine.specs.Plays.{Event, charges, play, weaving}
use Rattle.ssz_machine.specs.Jobs.{job_of, turns_of_weave}
use Rattle.ssz_machine.proofs.NoNumbers.{same_weave}
use Rattle.ssz_machine.proofs.Numbering.{same_run}
use Rattle.ssz_decisions.specs.Content.{rules_of}
use Rattle.ssz_decisions.specs.Standing.{StandsFor}
use Rattle.ssz_engine.specs.Scripts.{EndsRun, Scene}
use Rattle.ssz_outside.specs.Printed.{finished_status}
use Rattle.ssz_engine.specs.Points.{AnyRunContinues}
use Rattle.ssz_engine.specs.Weaves.{EndsWeave, EndsWeaveFrom}
use Rattle.ssz_engine.proofs.Asks.{asks_as}
use Rattle.ssz_engine.proofs.Scripts.{course, run_done, run_stopped, start}

module _ (pair_of : PairOf) (base order : List ℕ) (scripts : List (List ℕ)) (before after : Scene)
  where
    abbrev events : List Event
    events = weaving (statements_in base) order (map statements_in scripts)

    -- a weave of these steps ended with so many done, and so many begun
    abbrev EndsWith : Status → Rules → State → (steps begun : ℕ) → List Turn → Type 0
    EndsWith ended rules first steps begun turns =
        (ends : Ends before.ample ended (job_of rules Weave first.files turns) before.pieces
        after.pieces after.told)
        × (steps_done before.ample ended (job_of rules Weave first.files turns) before.pieces
        after.pieces after.told ends ≡ steps)
        × (steps_begun before.ample ended (job_of rules Weave first.files turns) before.pieces
        after.pieces after.told ends ≡ begun)

    -- the numbers of a weave tell nothing
    without_numbers : (rules : Rules) (first : State) (ended : Status)
        → EndsRun rules Weave events first ended before after
        → EndsWeaveFrom rules base order scripts first ended before after
    without_numbers rules first ended run =
        let same : play rules Weave run.numbers first events
        ≡ turns_of_weave rules first base order scripts =
        same_weave rules events first run.numbers [] in
        let final = (same_run rules Weave first events run.numbers []).final in
        let ends : EndsWith ended rules first
        (steps_done before.ample ended
        (job_of rules Weave first.files (play rules Weave run.numbers first events)) before.pieces
        after.pieces after.told run.ends)
        (steps_begun before.ample ended
        (job_of rules Weave first.files (play rules Weave run.numbers first events)) before.pieces
        after.pieces after.told run.ends) (turns_of_weave rules first base order scripts) =
        subst (λ (turns : List Turn). EndsWith ended rules first
        (steps_done before.ample ended
        (job_of rules Weave first.files (play rules Weave run.numbers first events)) before.pieces
        after.pieces after.told run.ends)
        (steps_begun before.ample ended
        (job_of rules Weave first.files (play rules Weave run.numbers first events)) before.pieces
        after.pieces after.told run.ends) turns) same (run.ends, refl, refl) in
        record {
          ends = ends.0;
          paid = let charged = ap charges same in omega (arith, run.paid, charged);
          reached = run.reached [];
          through = λ done.
              let through = run.through done in
              record {
                paid = let charged = ap charges same in omega (arith, through.paid, charged);
                stands = subst (λ (state : State). StandsFor after.engine state.versions) final
                    through.stands;
              };
          stopped = λ broken.
              let stopped = run.stopped broken in
              let steps : play rules Weave run.numbers first stopped.front
              ≡ play rules Weave [] first stopped.front =
              same_weave rules stopped.front first run.numbers [] in
              record {
                front = stopped.front;
                left = stopped.left;
                all = stopped.all;
                count = ap length (sym steps) ∙ stopped.count ∙ sym ends.1;
                stands = subst (λ (state : State). StandsFor after.engine state.versions)
                    (same_run rules Weave first stopped.front run.numbers []).final
                    stopped.stands;
                paid = let charged = ap charges steps in omega (arith, stopped.paid, charged);
              };
          asks = asks_as rules _ _ _ _ _ _ before.asked after.asked same ends.1 ends.2 run.asks;
        }

    -- all lines of a weave were done
    pub weave_done : (refused : Bool)
        → AnyRunContinues pair_of Weave events (Ok tt) false refused before after
        → EndsWeave pair_of base order scripts (finished_status refused) before after
    weave_done refused goes first versions files =
        without_numbers (rules_of pair_of before.engine) first (finished_status refused)
        (run_done pair_of Weave events before after first refused
        (goes (course pair_of Weave events before after first) []
        (start pair_of Weave events before after first versions files)))

    -- or a fault or want of memory ended it
    pub weave_stopped : (refused : Bool) (ended : Status)
        → AnyRunContinues pair_of Weave events (Err ended) false refused before after
        → EndsWeave pair_of base order scripts ended before after
    weave_stopped refused ended goes first versions files =
        without_numbers (rules_of pair_of before.engine) first ended
        (run_stopped pair_of Weave events before after first ended
        (goes (course pair_of Weave events before after first) []
        (start pair_of Weave events before after first versions files)))
