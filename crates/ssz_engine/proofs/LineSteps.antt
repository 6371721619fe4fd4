-- What a line that was done, or was not, makes of a run.
use Rattle.std.proofs.Common.{ℕ, ◌-◌, ◌≡◌, Bool, true, false, List, [], ◌∷◌, refl, subst, ◌+◌, ◌≤◌, ap, inl, inr}
use Rattle.std.specs.Prelude.{Result, Ok, Err, ◌||◌, IfErr}
use Rattle.ssz_outside.specs.Asked.{AsksOf}
use Rattle.ssz_outside.specs.declared.status.Status.{Status}
use Rattle.ssz_outside.specs.declared.status.Status.TheVariants as status
use Rattle.ssz_proof.specs.Calculation.{PairOf}
use Rattle.ssz_machine.specs.declared.place.Place.{Place}
use Rattle.ssz_machine.specs.Rules.{Rules}
use Rattle.ssz_machine.specs.Machine.{Line, step}
use Rattle.ssz_machine.specs.Plays.{Event, says, line_prefix}
use Rattle.ssz_engine.specs.Steps.{is_refusal}
use Rattle.ssz_decisions.specs.Content.{KeepsEngine}
use Rattle.ssz_engine.specs.Scripts.{Scene, asks_of_turn, point_of}
use Rattle.ssz_engine.specs.Points.{Course, RunReaches, AnyRunContinues, CountsFaults, Runs}
use Rattle.ssz_outside.specs.Printed.{CountsPrint, IsStop, PrintsLine}
use Rattle.ssz_engine.specs.Lines.{AsksLine, TurnDoes, DoesLine, ended_by, Tries}
use Rattle.ssz_decisions.specs.declared.outcome.Outcome.{Outcome}
use Rattle.ssz_decisions.specs.declared.fault.EngineFault.{EngineFault}
use Rattle.ssz_decisions.specs.declared.fault.EngineFault.TheVariants.{Read, Write, Memory}
use Rattle.ssz_engine.proofs.Comings.{Passes, line_ahead, line_cut, line_done, line_memory, line_unread, line_unwritten}
use Rattle.ssz_arena.specs.Content.{unhashed}
use Rattle.ssz_outside.specs.Job.{IsFinished}
use Rattle.ssz_decisions.specs.Standing.{StaysFor}

-- a status that a fault ends a run with
abbrev stopped : Status → Result (Unit {0}) Status
stopped ended = Err ended

unread-by : (fault : EngineFault) → stopped (ended_by fault) ≡ stopped status.ReadFault
    → fault ≡ Read
unread-by Read same = refl
unread-by Write same = cc
unread-by Memory same = cc

broken-by : (fault : EngineFault) → IsFinished (ended_by fault) → ⊥
broken-by Read done = done
broken-by Write done = done
broken-by Memory done = done

module _ (pair_of : PairOf) (place : Place) (writer : ℕ) (line : Line) (was : Bool)
    (before after : Scene) (text more : List ℕ) where
  -- what a line does, by the rules and the base of the run
  line_does : (result : Result Outcome EngineFault) (course : Course) (left : List Event)
      (c : RunReaches pair_of place course (says writer line ∷ left) was before)
      → DoesLine pair_of place writer line result (point_of before) (point_of after) text more
      → TurnDoes course.rules course.base
      (step course.rules place (before.hashed - course.base) c.state writer line) result
      (point_of before) (point_of after) text more
  line_does result course left c does =
      subst (λ base. TurnDoes course.rules base
      (step course.rules place (before.hashed - base) c.state writer line) result
      (point_of before) (point_of after) text more) c.at.base
      (subst (λ (rules : Rules). TurnDoes rules before.engine.base
      (step rules place (before.hashed - before.engine.base) c.state writer line) result
      (point_of before) (point_of after) text more) c.at.rules
      (does c.state c.at.versions c.at.files))

  -- what it asks for, by the rules of the run
  line_asks : (cut : Bool) (course : Course) (left : List Event)
      (c : RunReaches pair_of place course (says writer line ∷ left) was before)
      → AsksLine pair_of place writer line cut (point_of before) (point_of after)
      → AsksOf cut (asks_of_turn course.rules
      (step course.rules place (before.hashed - course.base) c.state writer line)) before.asked
      after.asked
  line_asks cut course left c asks =
      subst (λ (rules : Rules). AsksOf cut (asks_of_turn rules
      (step rules place (before.hashed - course.base) c.state writer line)) before.asked
      after.asked) c.at.rules (asks c.state c.at.versions)

  -- it was not done
  pub stop_goes : (fault : EngineFault)
      → DoesLine pair_of place writer line (Err fault) (point_of before) (point_of after) text more
      → AsksLine pair_of place writer line true (point_of before) (point_of after)
      → after.pieces ≡ before.pieces → Passes before after
      → AnyRunContinues pair_of place (says writer line ∷ [])
      (Err (ended_by fault)) was was before after
  stop_goes Read does asks pieces passes course left c =
      line_unread pair_of place course writer line left was before after c
      (line_does (Err Read) course left c does) pieces passes (line_asks true course left c asks)
  stop_goes Write does asks pieces passes course left c =
      line_unwritten pair_of place course writer line left was before after c
      (line_does (Err Write) course left c does) pieces passes (line_asks true course left c asks)
  stop_goes Memory does asks pieces passes course left c =
      line_memory pair_of place course writer line left was before after c
      (line_does (Err Memory) course left c does) pieces passes (line_asks true course left c asks)

  -- it was done, and was printed or not
  pub print_goes : (printed : Result (Unit {0}) Status) (made : Outcome)
      → DoesLine pair_of place writer line (Ok made) (point_of before) (point_of after) text more
      → AsksLine pair_of place writer line false (point_of before) (point_of after)
      → text ≡ line_prefix place writer → PrintsLine printed more before.pieces after.pieces
      → KeepsEngine before.engine after.engine
      → (printed ≡ Err status.Memory → before.ample ≡ false)
      → after.ample ≡ before.ample
      → AnyRunContinues pair_of place (says writer line ∷ []) printed was
      (is_refusal made || was) before after
  print_goes (Ok x) made does asks fronted prints keeps memory ample course left c =
      line_done pair_of place course writer line left was before after c made text more
      (line_does (Ok made) course left c does) fronted (line_asks false course left c asks) prints
      keeps ample
  print_goes (Err status.WriteFault) made does asks fronted prints keeps memory ample course left
      c =
      line_cut pair_of place course writer line left was before after c made text more
      (line_does (Ok made) course left c does) fronted (line_asks false course left c asks)
      prints.0 prints.1
  print_goes (Err status.Memory) made does asks fronted prints keeps memory ample course left c =
      line_ahead pair_of place course writer line left was before after c made text more
      (line_does (Ok made) course left c does) fronted (line_asks false course left c asks)
      (memory refl) prints
  print_goes (Err status.Accepted) made does asks fronted prints keeps memory ample course left c =
      absurd prints
  print_goes (Err status.Refused) made does asks fronted prints keeps memory ample course left c =
      absurd prints
  print_goes (Err status.Usage) made does asks fronted prints keeps memory ample course left c =
      absurd prints
  print_goes (Err status.SchemaFault) made does asks fronted prints keeps memory ample course left
      c =
      absurd prints
  print_goes (Err status.ReadFault) made does asks fronted prints keeps memory ample course left c =
      absurd prints

  -- the faults that were counted
  stop-counts : (fault : EngineFault)
      → Tries {T = Outcome} (line ∷ []) (Err fault) (point_of before) (point_of after)
      → after.sink_faults ≡ before.sink_faults → CountsFaults (Err (ended_by fault)) before after
  stop-counts Read tries sinks = (tries.gets, tries.puts, sinks)
  stop-counts Write tries sinks = (tries.gets, inl (tries.puts, sinks))
  stop-counts Memory tries sinks = (tries.gets, tries.puts, sinks)

  print-counts : (printed : Result (Unit {0}) Status) (made : Outcome)
      → Tries {T = Outcome} (line ∷ []) (Ok made) (point_of before) (point_of after)
      → PrintsLine printed more before.pieces after.pieces
      → CountsPrint printed before.sink_faults after.sink_faults → CountsFaults printed before after
  print-counts (Ok x) made tries prints sinks = (tries.gets, tries.puts, sinks)
  print-counts (Err status.WriteFault) made tries prints sinks =
      (tries.gets, inr (tries.puts, sinks))
  print-counts (Err status.Memory) made tries prints sinks = (tries.gets, tries.puts, sinks)
  print-counts (Err status.Accepted) made tries prints sinks = absurd prints
  print-counts (Err status.Refused) made tries prints sinks = absurd prints
  print-counts (Err status.Usage) made tries prints sinks = absurd prints
  print-counts (Err status.SchemaFault) made tries prints sinks = absurd prints
  print-counts (Err status.ReadFault) made tries prints sinks = absurd prints

  -- what stops a print ends the run
  print-stops : (printed : Result (Unit {0}) Status) → IfErr printed IsStop
      → IfErr printed (λ ended. ¬ IsFinished ended)
  print-stops (Ok x) stops = stops
  print-stops (Err status.WriteFault) stops = λ finished. finished
  print-stops (Err status.Memory) stops = λ finished. finished
  print-stops (Err status.Accepted) stops = absurd stops
  print-stops (Err status.Refused) stops = absurd stops
  print-stops (Err status.Usage) stops = absurd stops
  print-stops (Err status.SchemaFault) stops = absurd stops
  print-stops (Err status.ReadFault) stops = absurd stops

  -- a line that was not done, as a part of a run
  pub stop_runs : {now : Bool} (fault : EngineFault)
      → Tries {T = Outcome} (line ∷ []) (Err fault) (point_of before) (point_of after)
      → DoesLine pair_of place writer line (Err fault) (point_of before) (point_of after) text more
      → AsksLine pair_of place writer line true (point_of before) (point_of after)
      → after.pieces ≡ before.pieces → after.sink_faults ≡ before.sink_faults
      → after.hashed ≤ before.hashed + unhashed before.engine.arena
      → StaysFor before.engine after.engine
      → Runs pair_of place (says writer line ∷ []) (Err (ended_by fault)) was now before after
  stop_runs {now} fault tries does asks pieces sinks most stays = record {
    goes = stop_goes fault does asks pieces
        (record { rises = tries.rises; most = most; stays = stays });
    keeps = tries.keeps;
    nodes = tries.nodes;
    rises = tries.rises;
    readable = tries.readable;
    counts = stop-counts fault tries sinks;
    stops = broken-by fault;
    fails = λ all same. tries.fails all (ap Err (unread-by fault same));
  }

  -- and one that was, printed or not
  pub print_runs : (printed : Result (Unit {0}) Status) (made : Outcome)
      → Tries {T = Outcome} (line ∷ []) (Ok made) (point_of before) (point_of after)
      → DoesLine pair_of place writer line (Ok made) (point_of before) (point_of after) text more
      → AsksLine pair_of place writer line false (point_of before) (point_of after)
      → text ≡ line_prefix place writer → PrintsLine printed more before.pieces after.pieces
      → CountsPrint printed before.sink_faults after.sink_faults
      → IfErr printed IsStop
      → (printed ≡ Err status.Memory → before.ample ≡ false) → after.ample ≡ before.ample
      → Runs pair_of place (says writer line ∷ []) printed was (is_refusal made || was) before
      after
  print_runs printed made tries does asks fronted prints sinks stops memory ample = record {
    goes = print_goes printed made does asks fronted prints tries.keeps memory ample;
    keeps = tries.keeps;
    nodes = tries.nodes;
    rises = tries.rises;
    readable = tries.readable;
    counts = print-counts printed made tries prints sinks;
    stops = print-stops printed stops;
    fails = λ all same. subst (λ (r : Result (Unit {0}) Status).
        PrintsLine r more before.pieces after.pieces) same prints;
  }
