-- A whole script.
use Rattle.std.proofs.Common.{ℕ, ◌-◌, ◌≡◌, ◌++◌, Bool, true, false, List, [], length, Some, None, refl, sym, ap, ◌∙◌, subst, arith}
use Rattle.std.specs.Prelude.{Ok, Err, ◌≢◌}
use Rattle.std.specs.List.{AllByRecursion}
use Rattle.std.proofs.lemmas.List.{append-nil}
use Rattle.ssz_arena.specs.Content.{unhashed}
use Rattle.ssz_outside.proofs.Asking.{asks_append-none}
use Rattle.ssz_outside.specs.Job.{Ends, IsFinished}
use Rattle.ssz_outside.specs.Pieces.{Told, told_append}
use Rattle.ssz_outside.specs.declared.status.Status.{Status}
use Rattle.ssz_outside.specs.declared.status.Status.TheVariants as status
use Rattle.ssz_proof.specs.Calculation.{PairOf}
use Rattle.ssz_script.specs.Lines.{statements_in}
use Rattle.ssz_machine.specs.declared.place.Place.{Place}
use Rattle.ssz_machine.specs.declared.place.Place.TheVariants.{Run}
use Rattle.ssz_machine.specs.State.{State}
use Rattle.ssz_machine.specs.Machine.{Turn}
use Rattle.ssz_machine.specs.Plays.{Event, all_of, play, state_after}
use Rattle.ssz_machine.specs.Counts.{AreCounts}
use Rattle.ssz_machine.specs.Runs.{job_from}
use Rattle.ssz_machine.proofs.UnderWay.{Follow, under_way_all, under_way_begins, under_way_last}
use Rattle.ssz_machine.proofs.Endings.{begun_finished, ends_done, steps_finished}
use Rattle.ssz_decisions.specs.Content.{rules_of}
use Rattle.ssz_decisions.specs.Standing.{StandsFor}
use Rattle.ssz_engine.specs.Scripts.{EndsRun, EndsScript, Scene}
use Rattle.ssz_outside.specs.Printed.{finished_status}
use Rattle.ssz_engine.specs.Points.{RunReaches, Course, AnyRunContinues, IsCutShort, PaysSteps, turns_of}
use Rattle.ssz_engine.proofs.Asks.{asks_done}
use Rattle.ssz_engine.proofs.Paying.{pays_counts, pays_total}
use Rattle.ssz_engine.proofs.Reaching.{same_files}

pub told_append-none : (told : Told) → told ≡ told_append told []
told_append-none None = refl
told_append-none (Some taken) = ap Some (sym (append-nil taken))

-- the numbers of steps that were paid for from a fresh engine on
fresh_counts : (base : ℕ) (turns : List Turn) (a b c d : ℕ) → base ≡ a → b ≡ 0
    → PaysSteps base turns a b c d → AreCounts turns (c - a)
fresh_counts base turns a b c d start none pays =
    subst (λ n. AreCounts turns (c - n)) start
    (pays_counts base turns b c d (subst (λ n. PaysSteps base turns n b c d) (sym start) pays) none)

finished_ends : (refused : Bool) → IsFinished (finished_status refused)
finished_ends true = tt
finished_ends false = tt

-- a run that was done ended with no fault
finished_no_fault : (refused : Bool) → finished_status refused ≢ status.ReadFault
finished_no_fault true e = cc
finished_no_fault false e = cc

module _ (pair_of : PairOf) (place : Place) (events : List Event) (before after : Scene)
    (first : State) where
  abbrev pub course : Course
  course = record {
    rules = rules_of pair_of before.engine;
    events = events;
    first = first;
    base = before.engine.base;
    hashed = before.hashed;
    left = unhashed before.engine.arena;
    asked = before.asked;
    pieces = before.pieces;
    ample = before.ample;
  }

  -- at the start all its lines are left
  pub start : StandsFor before.engine first.versions → before.told ≡ Some first.files
      → RunReaches pair_of place course (events ++ []) false before
  start versions files =
      subst (λ (left : List Event). RunReaches pair_of place course left false before)
      (sym (append-nil events)) (record {
        done = [];
        state = first;
        at = record {
          front = [];
          all = refl;
          under = under_way_begins course.rules place first;
          rules = refl;
          base = refl;
          versions = versions;
          files = files;
          printed = told_append-none before.pieces;
          asked = sym (asks_append-none before.asked);
          ample = refl;
          answer = refl;
          found = refl;
          pays = (refl, refl);
        };
      })

  -- all were done
  pub run_done : (refused : Bool) → RunReaches pair_of place course [] refused after
      → EndsRun course.rules place events first (finished_status refused) before after
  run_done refused c =
      let u = c.at.under in
      let numbers = u.numbers ++ [] in
      let whole : events ≡ c.at.front = c.at.all ∙ append-nil c.at.front in
      let follow : Follow u.numbers numbers = record { more = []; are = refl } in
      let every : turns_of place course numbers ≡ c.done =
      ap (λ es. play course.rules place numbers first es) whole
      ∙ under_way_all course.rules place first c.at.front c.done c.state u numbers follow in
      let pays : PaysSteps course.base (turns_of place course numbers) course.hashed course.left
      after.hashed (unhashed after.engine.arena) =
      subst (λ turns. PaysSteps course.base turns course.hashed course.left after.hashed
      (unhashed after.engine.arena)) (sym every) c.at.pays in
      let total = pays_total course.base (turns_of place course numbers) course.hashed course.left
      after.hashed (unhashed after.engine.arena) pays in
      record {
        numbers = numbers;
        ends = subst (λ (r : Bool). Ends before.ample (finished_status r)
            (job_from course.rules place events first numbers) before.pieces after.pieces
            after.told) (sym c.at.answer)
            (ends_done course.rules place events first c.at.front c.done c.state c.at.all u
            before.ample before.pieces
            after.pieces after.told c.at.printed c.at.files);
        paid = omega (arith, total);
        counts = λ fresh. record {
          total = after.hashed - before.hashed;
          most = omega arith;
          whole = λ done. refl;
          counts = fresh_counts course.base (turns_of place course numbers) course.hashed
              course.left after.hashed (unhashed after.engine.arena) fresh.base fresh.left pays;
        };
        reached = λ others all. finished_no_fault refused;
        through = λ done. record {
          paid = total;
          stands = subst (λ (s : State). StandsFor after.engine s.versions)
              (sym (ap (λ es. state_after course.rules place numbers first es) whole
              ∙ under_way_last course.rules place first c.at.front c.done c.state u numbers follow))
              c.at.versions;
        };
        stopped = λ broken. absurd (broken (finished_ends refused));
        asks = asks_done course.rules (turns_of place course numbers) c.done [] _ _ before.asked
            after.asked (every ∙ sym (append-nil c.done))
            (steps_finished before.ample refused
            (job_from course.rules place events first numbers) before.pieces after.pieces after.told
            _ ∙ ap length every)
            (begun_finished before.ample refused
            (job_from course.rules place events first numbers) before.pieces after.pieces after.told
            _ ∙ ap length every) c.at.asked;
      }

  -- or the run ended before
  pub run_stopped : (ended : Status) → IsCutShort place course ended before after
      → EndsRun course.rules place events first ended before after
  run_stopped ended cut =
      let turns = turns_of place course cut.numbers in
      let total = pays_total course.base turns course.hashed course.left cut.now cut.rest
      cut.pays in
      record {
        numbers = cut.numbers;
        ends = cut.ends;
        paid = let least = cut.least in omega (arith, total);
        counts = λ fresh. record {
          total = cut.now - before.hashed;
          most = let most = cut.most in omega arith;
          whole = λ done. absurd (cut.broken done);
          counts = fresh_counts course.base turns course.hashed course.left cut.now cut.rest
              fresh.base fresh.left cut.pays;
        };
        reached = λ others all. cut.reached
            (subst (λ names. AllByRecursion before.readable names)
            (same_files course.rules place events first others cut.numbers) all);
        through = λ done. absurd (cut.broken done);
        stopped = λ broken. cut.stopped;
        asks = cut.asks;
      }

module _ (pair_of : PairOf) (script : List ℕ) (before after : Scene) (refused : Bool) where
  abbrev events : List Event
  events = all_of 0 (statements_in script)

  -- all lines of a script were done
  pub script_done : AnyRunContinues pair_of Run events (Ok tt) false refused before after
      → EndsScript pair_of script (finished_status refused) before after
  script_done goes first versions files =
      run_done pair_of Run events before after first refused
      (goes (course pair_of Run events before after first) []
      (start pair_of Run events before after first versions files))

  -- or a fault or want of memory ended it
  pub script_stopped : (ended : Status)
      → AnyRunContinues pair_of Run events (Err ended) false refused before after
      → EndsScript pair_of script ended before after
  script_stopped ended goes first versions files =
      run_stopped pair_of Run events before after first ended
      (goes (course pair_of Run events before after first) []
      (start pair_of Run events before after first versions files))
