-- Parts of a run one behind another.
use Rattle.std.proofs.Common.{Bool, List, [], ◌++◌, ◌≡◌, refl, sym, ◌∙◌, subst, arith, append_assoc}
use Rattle.std.specs.Prelude.{Result, Ok, Err}
use Rattle.std.proofs.lemmas.List.{append-nil}
use Rattle.ssz_arena.proofs.Keeping.{keeps_same, keeps_trans}
use Rattle.ssz_outside.specs.declared.status.Status.{Status}
use Rattle.ssz_outside.specs.declared.status.Status.TheVariants as status
use Rattle.ssz_proof.specs.Calculation.{PairOf}
use Rattle.ssz_machine.specs.declared.place.Place.{Place}
use Rattle.ssz_machine.specs.Plays.{Event}
use Rattle.ssz_engine.specs.Scripts.{Scene, files_named}
use Rattle.ssz_engine.specs.Points.{RunReaches, CountsFaults, Course, RunContinues, Runs, RunsSome, RunsUpTo, lines_in}
use Rattle.ssz_engine.proofs.Asks.{asks_still}
use Rattle.ssz_engine.proofs.Comings.{no_memory, passes_none}
use Rattle.ssz_engine.proofs.Leading.{StaysReadable, earlier, keeps_on}
use Rattle.ssz_engine.proofs.LinesDone.{named_parts, none_parts}
use Rattle.ssz_engine.proofs.Reaching.{all_names}

counts-then : (result : Result (Unit {0}) Status) (before mid after : Scene)
    → CountsFaults (Ok tt) before mid → CountsFaults result mid after
    → CountsFaults result before after
counts-then (Ok x) before mid after first then =
    (then.0 ∙ first.0, then.1 ∙ first.1, then.2 ∙ first.2)
counts-then (Err ended) before mid after first then =
    subst (λ n. CountsFaults (Err ended) (record before { sink_faults = n }) after) first.2
    (subst (λ n. CountsFaults (Err ended)
    (record before { put_faults = n; sink_faults = mid.sink_faults }) after) first.1
    (subst (λ n. CountsFaults (Err ended)
    (record before { get_faults = n; put_faults = mid.put_faults; sink_faults = mid.sink_faults })
    after) first.0 then))

goes-earlier : (pair_of : PairOf) (place : Place) (course : Course) (left : List Event)
    (result : Result (Unit {0}) Status) (refused : Bool) (before mid after : Scene)
    → StaysReadable before mid → RunContinues pair_of place course left result refused mid after
    → RunContinues pair_of place course left result refused before after
goes-earlier pair_of place course left (Ok x) refused before mid after readable comes = comes
goes-earlier pair_of place course left (Err ended) refused before mid after readable cut =
    earlier place course ended before mid after readable cut

module _ {pair_of : PairOf} {place : Place} where
  -- nothing happens
  runs_none : (was : Bool) (here : Scene) → Runs pair_of place [] (Ok tt) was was here here
  runs_none was here = record {
    goes = λ course left comes. comes;
    keeps = record { types = refl; most = refl; base = refl };
    nodes = λ none. keeps_same _ _ refl;
    rises = omega arith;
    readable = λ name is. is;
    counts = (refl, refl, refl);
    stops = tt;
    fails = λ all e. cc;
  }

  -- there is no memory for these events
  pub runs_memory : {events : List Event} {was now : Bool} {here : Scene}
      → Runs pair_of place events (Err status.Memory) was now here here
  runs_memory {events} {was} {now} {here} = record {
    goes = λ course left comes. no_memory pair_of place course (events ++ left) was here here comes
        refl refl (passes_none here) (asks_still course.rules _ here.asked);
    keeps = record { types = refl; most = refl; base = refl };
    nodes = λ none. keeps_same _ _ refl;
    rises = omega arith;
    readable = λ name is. is;
    counts = (refl, refl, refl);
    stops = λ done. done;
    fails = λ all e. cc;
  }

  comes-first : (course : Course) (a b left : List Event) (was : Bool) (scene : Scene)
      → RunReaches pair_of place course ((a ++ b) ++ left) was scene
      → RunReaches pair_of place course (a ++ (b ++ left)) was scene
  comes-first course a b left was scene comes =
      subst (λ (events : List Event). RunReaches pair_of place course events was scene)
      (append_assoc a b left) comes

  -- some events were done, and whatever became of those behind them became of both
  pub runs_then : {a b : List Event} {result : Result (Unit {0}) Status} {first was now : Bool}
      {before mid after : Scene} → Runs pair_of place a (Ok tt) first was before mid
      → Runs pair_of place b result was now mid after
      → Runs pair_of place (a ++ b) result first now before after
  runs_then {a} {b} {result} {first} {was} {now} {before} {mid} {after} begun more = record {
    goes = λ course left comes. goes-earlier pair_of place course left result now before mid after
        begun.readable (more.goes course left
        (begun.goes course (b ++ left) (comes-first course a b left first before comes)));
    keeps = keeps_on begun.keeps more.keeps;
    nodes = λ none.
        let parts = none_parts a b none in keeps_trans (begun.nodes parts.0) (more.nodes parts.1);
    rises = omega (arith, begun.rises, more.rises);
    readable = λ name is. more.readable name (begun.readable name is);
    counts = counts-then result before mid after begun.counts more.counts;
    stops = more.stops;
    fails = λ all. more.fails (all_names before.readable mid.readable begun.readable
        (files_named (lines_in b)) (named_parts before.readable a b all).1);
  }

  -- the first events ended the run
  pub runs_stops : {a : List Event} (b : List Event) {ended : Status} {first now : Bool}
      {before after : Scene} → Runs pair_of place a (Err ended) first now before after
      → Runs pair_of place (a ++ b) (Err ended) first now before after
  runs_stops {a} b {ended} {first} {now} {before} {after} stopped = record {
    goes = λ course left comes.
        stopped.goes course (b ++ left) (comes-first course a b left first before comes);
    keeps = stopped.keeps;
    nodes = λ none. stopped.nodes (none_parts a b none).0;
    rises = stopped.rises;
    readable = stopped.readable;
    counts = stopped.counts;
    stops = stopped.stops;
    fails = λ all. stopped.fails (named_parts before.readable a b all).0;
  }

  -- the same events, and the same end
  pub runs_of : {these those : List Event} {result : Result (Unit {0}) Status} {was now : Bool}
      {before after : Scene} → these ≡ those → Runs pair_of place those result was now before after
      → Runs pair_of place these result was now before after
  runs_of {these} {those} {result} {was} {now} {before} {after} same runs =
      subst (λ (events : List Event). Runs pair_of place events result was now before after)
      (sym same) runs

  -- the same answers before it
  pub runs_from : {events : List Event} {result : Result (Unit {0}) Status} {first was now : Bool}
      {before after : Scene} → was ≡ first → Runs pair_of place events result was now before after
      → Runs pair_of place events result first now before after
  runs_from {events} {result} {first} {was} {now} {before} {after} same runs =
      subst (λ (b : Bool). Runs pair_of place events result b now before after) same runs

  pub runs_exit : {events : List Event} {result : Result (Unit {0}) Status} {ended fault : Status}
      {was now : Bool} {before after : Scene} → result ≡ Err ended → ended ≡ fault
      → Runs pair_of place events (Err fault) was now before after
      → Runs pair_of place events result was now before after
  runs_exit {events} {result} {ended} {fault} {was} {now} {before} {after} is same runs =
      subst (λ (r : Result (Unit {0}) Status). Runs pair_of place events r was now before after)
      (sym is)
      (subst (λ (s : Status). Runs pair_of place events (Err s) was now before after) (sym same)
      runs)

  pub up_to_exit : {these : List Event} (those : List Event) {result : Result (Unit {0}) Status}
      {ended fault : Status} {was now : Bool} {before after : Scene} → result ≡ Err ended
      → ended ≡ fault → Runs pair_of place these (Err fault) was now before after
      → RunsUpTo pair_of place these those result was now before after
  up_to_exit {these} those {result} {ended} {fault} {was} {now} {before} {after} is same runs =
      subst (λ (r : Result (Unit {0}) Status).
      RunsUpTo pair_of place these those r was now before after) (sym is)
      (subst (λ (s : Status). Runs pair_of place these (Err s) was now before after) (sym same)
      runs)

  -- no event was done yet
  pub some_none : {events : List Event} {was : Bool} {here : Scene}
      → RunsSome pair_of place events events was was here here
  some_none {events} {was} {here} =
      record { first = []; all = refl; runs = runs_none was here }

  -- what is left, by another name
  pub some_left : {these those more : List Event} {was now : Bool} {before after : Scene}
      → those ≡ more → RunsSome pair_of place these those was now before after
      → RunsSome pair_of place these more was now before after
  some_left {these} {those} {more} {was} {now} {before} {after} same some =
      subst (λ (left : List Event). RunsSome pair_of place these left was now before after) same
      some

  -- the next of them were done
  pub some_then : {these a those : List Event} {first was now : Bool} {before mid after : Scene}
      → RunsSome pair_of place these (a ++ those) first was before mid
      → Runs pair_of place a (Ok tt) was now mid after
      → RunsSome pair_of place these those first now before after
  some_then {these} {a} {those} some runs = record {
    first = some.first ++ a;
    all = some.all ∙ sym (append_assoc some.first a those);
    runs = runs_then some.runs runs;
  }

  -- whatever became of what was left became of all
  pub some_all : {these those : List Event} {result : Result (Unit {0}) Status}
      {first was now : Bool} {before mid after : Scene}
      → RunsSome pair_of place these those first was before mid
      → Runs pair_of place those result was now mid after
      → Runs pair_of place these result first now before after
  some_all some runs = runs_of some.all (runs_then some.runs runs)

  -- the next of them ended the run
  pub some_stops : {these a : List Event} (those : List Event) {ended : Status}
      {first was now : Bool} {before mid after : Scene}
      → RunsSome pair_of place these (a ++ those) first was before mid
      → Runs pair_of place a (Err ended) was now mid after
      → Runs pair_of place these (Err ended) first now before after
  some_stops those some runs = some_all some (runs_stops those runs)

  -- none is left
  pub some_end : {these : List Event} {first now : Bool} {before after : Scene}
      → RunsSome pair_of place these [] first now before after
      → Runs pair_of place these (Ok tt) first now before after
  some_end some = runs_of (some.all ∙ append-nil some.first) some.runs
