-- What a run leaves that a fault or want of memory ended.
use Rattle.std.proofs.Common.{◌≡◌, ◌≤◌, ◌+◌, ◌∙◌, ℕ, List, ◌++◌, Result, Ok, Err, length, sym, ap, subst}
use Rattle.std.specs.Prelude.{OnErr}
use Rattle.ssz_arena.specs.Content.{KeepsNodes}
use Rattle.ssz_machine.specs.declared.place.Place.{Place}
use Rattle.ssz_machine.specs.State.{State}
use Rattle.ssz_machine.specs.Rules.{Rules}
use Rattle.ssz_machine.specs.Machine.{Turn}
use Rattle.ssz_machine.specs.Plays.{Event, charges}
use Rattle.ssz_machine.specs.Runs.{IsUnderWay}
use Rattle.ssz_machine.proofs.UnderWay.{Follow, under_way_all, under_way_last}
use Rattle.ssz_decisions.specs.Content.{EngineContent, KeepsEngine}
use Rattle.ssz_engine.specs.Scripts.{IsStopped, Scene}
use Rattle.ssz_decisions.specs.Standing.{StandsFor, StandsForVersions, StaysFor}
use Rattle.ssz_decisions.proofs.Standing.{stand-kept}

-- entries that stay stand for the same over an arena that keeps its nodes
pub stays-for : (old new : EngineContent) → KeepsEngine old new → KeepsNodes old.arena new.arena
    → new.entries ≡ old.entries → StaysFor old new
stays-for old new keeps nodes same versions stands = record {
  each = λ writer.
      subst (λ entries. StandsForVersions new.types new.arena entries writer (versions writer))
      (sym same)
      (subst (λ types. StandsForVersions types new.arena old.entries writer (versions writer))
      (sym keeps.types)
      (stand-kept old.types old.arena old.entries writer (versions writer) (stands.each writer)
      new.arena nodes));
}

-- so it is of a statement that was not done
pub err-stays : {A E : Type 0} (r : Result A E) (old new : EngineContent) (P : Type 0)
    → KeepsEngine old new
    → OnErr r (KeepsNodes old.arena new.arena) → OnErr r ((new.entries ≡ old.entries) × P)
    → OnErr r (StaysFor old new)
err-stays (Ok x) old new P keeps nodes same = same
err-stays (Err e) old new P keeps nodes same = stays-for old new keeps nodes same.0

-- a run that has come to some point is stopped there
pub stopped_at : (rules : Rules) (place : Place) (events front : List Event) (first : State)
    (done : List Turn) (state : State) (left : List Event) (owed : ℕ) (after : Scene)
    → (u : IsUnderWay rules place front first done state) (numbers : List ℕ)
    → Follow u.numbers numbers → events ≡ front ++ left → (steps : ℕ) → steps ≡ length done
    → StandsFor after.engine state.versions → after.hashed ≤ owed + charges done
    → IsStopped rules place events first numbers steps owed after
stopped_at rules place events front first done state left owed after u numbers follow all steps are
    stands paid =
    let same = under_way_all rules place first front done state u numbers follow in
    record {
      front = front;
      left = left;
      all = all;
      count = ap length same ∙ sym are;
      stands = subst (λ (s : State). StandsFor after.engine s.versions)
          (sym (under_way_last rules place first front done state u numbers follow)) stands;
      paid = subst (λ turns. after.hashed ≤ owed + charges turns) (sym same) paid;
    }
