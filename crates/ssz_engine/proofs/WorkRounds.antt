-- The rounds of a work, one behind another.
use Rattle.std.proofs.Common.{ℕ, suc, ◌+◌, ◌≡◌, List, [], ◌++◌, refl, sym, ap, ◌∙◌, subst, arith}
use Rattle.ssz_arena.proofs.Keeping.{keeps_same}
use Rattle.ssz_machine.specs.State.{State, version_of}
use Rattle.ssz_machine.specs.Rules.{Rules}
use Rattle.ssz_machine.specs.Machine.{Turn}
use Rattle.ssz_machine.specs.Drawing.{Walk, worked}
use Rattle.ssz_machine.specs.Runs.{IsWorking}
use Rattle.ssz_machine.specs.Work.{Worked, joined_work, round, walk_from, worked_on}
use Rattle.ssz_machine.proofs.Working.{works_ends, works_on}
use Rattle.ssz_decisions.specs.Roots.{RisesBy}
use Rattle.ssz_engine.specs.Scripts.{Point}
use Rattle.ssz_engine.specs.Works.{AreBroken, AreDone, IsAtState}
use Rattle.ssz_decisions.specs.declared.fault.EngineFault.{EngineFault}
use Rattle.ssz_engine.proofs.WorkLeast.{rises-then}
use Rattle.ssz_engine.proofs.WorkSteps.{broken_early, broken_then, done_then}

module _ (rules : Rules) (count seed : ℕ) (state : State) where
  abbrev whole : Worked
  whole = worked_on rules count seed state

  -- Some rounds were made, and so many are left, from this state of the generator.
  pub record AreRounds (left x edits : ℕ) (before here : Point) : Type 0 where
    pub so_far : Worked
    pub working : IsWorking rules whole so_far left x
    pub done : AreDone so_far.turns so_far.state before here
    pub drawn : edits ≡ so_far.edits
    pub least : RisesBy so_far.tops before.hashed here.hashed

  abbrev none : Worked
  none = record { turns = []; edits = 0; tops = 0; state = state }

  nothing_before : whole ≡ joined_work none whole
  nothing_before i =
      let same : whole.edits ≡ 0 + whole.edits = omega arith in
      let tops : whole.tops ≡ 0 + whole.tops = omega arith in
      record { turns = whole.turns; edits = same i; tops = tops i; state = whole.state }

  -- none yet
  pub rounds_begin : (here : Point) → IsAtState state here → AreRounds count seed 0 here here
  rounds_begin here at = record {
    so_far = none;
    working = record { all = nothing_before };
    done = record {
      at = at;
      nodes = keeps_same _ _ refl;
      roots = tt;
      told = refl;
      paid = omega arith;
    };
    drawn = refl;
    least = λ few. omega arith;
  }

  module _ (left x made : ℕ) (before mid after : Point)
      (rounds : AreRounds (suc left) x made before mid) where
    abbrev way : Walk
    way = walk_from (version_of worked (rounds.so_far.state.versions 0)) x

    abbrev next : Worked
    next = round rules rounds.so_far.state way.edit

    -- one more was made
    pub rounds_on : (more y : ℕ) → AreDone next.turns next.state mid after → more ≡ next.edits
        → y ≡ way.seed → RisesBy next.tops mid.hashed after.hashed
        → AreRounds left y (made + more) before after
    rounds_on more y done edits seed_is rise = record {
      so_far = joined_work rounds.so_far next;
      working = subst (IsWorking rules whole (joined_work rounds.so_far next) left) (sym seed_is)
          (works_on rules whole rounds.so_far left x rounds.working);
      done = done_then rounds.so_far.turns next.turns rounds.so_far.state next.state before mid
          after rounds.done done;
      drawn = omega (arith, rounds.drawn, edits);
      least = rises-then rounds.so_far.tops next.tops before.hashed mid.hashed after.hashed
          rounds.least rise;
    }

    -- or there was no memory for it
    pub rounds_broken : (fault : EngineFault) → AreBroken next.turns fault mid after
        → AreBroken whole.turns fault before after
    rounds_broken fault broken =
        let rest = worked_on rules left way.seed next.state in
        subst (λ (turns : List Turn). AreBroken turns fault before after)
        (ap (λ (work : Worked). work.turns) (sym rounds.working.all))
        (broken_then rounds.so_far.turns (next.turns ++ rest.turns) rounds.so_far.state fault
        before mid after rounds.done
        (broken_early next.turns rest.turns fault mid after broken))

  -- all were made
  pub rounds_end : (x made : ℕ) (before here : Point) → AreRounds 0 x made before here
      → AreDone whole.turns whole.state before here × (made ≡ whole.edits)
  rounds_end x made before here rounds =
      let same = works_ends rules whole rounds.so_far x rounds.working in (
        subst (λ (work : Worked). AreDone work.turns work.state before here) (sym same)
            rounds.done,
        rounds.drawn ∙ ap (λ (work : Worked). work.edits) (sym same),
      )

  -- and hashed so many pairs at least
  pub rounds_least : (x made : ℕ) (before here : Point) → AreRounds 0 x made before here
      → RisesBy whole.tops before.hashed here.hashed
  rounds_least x made before here rounds =
      subst (λ (work : Worked). RisesBy work.tops before.hashed here.hashed)
      (sym (works_ends rules whole rounds.so_far x rounds.working)) rounds.least
