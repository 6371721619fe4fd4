-- What is left of a run whose last number is printed for all lines to come.
use Rattle.std.proofs.Common.{ℕ, zero, suc, ◌-◌, ◌≤◌, ◌≡◌, List, [], ◌∷◌, ◌++◌, length, replicate, Option, Some, None, refl, sym, ap, ◌∙◌, subst, arith}
use Rattle.ssz_script.specs.declared.statement.Statement.{Statement}
use Rattle.ssz_script.specs.declared.statement.Statement.TheVariants.{Hashes}
use Rattle.ssz_machine.specs.declared.place.Place.{Place}
use Rattle.ssz_machine.specs.declared.place.Place.TheVariants.{Run, Weave}
use Rattle.ssz_machine.specs.State.{State}
use Rattle.ssz_machine.specs.Rules.{Rules}
use Rattle.ssz_machine.specs.Machine.{Line, Turn, step, state_of}
use Rattle.ssz_machine.specs.Plays.{Event, says, adopts, adopted, numbers_after, play}
use Rattle.ssz_machine.specs.Runs.{IsUnderWay}
use Rattle.ssz_engine.specs.Points.{PaysSteps, PaysStep}
use Rattle.ssz_engine.proofs.Paying.{pays_append}
use Rattle.ssz_engine.proofs.Replies.{said_number}

-- a line takes at most one number
record Takes (place : Place) (line : Option Statement) (n k : ℕ) : Type 0 where
  count : ℕ
  enough : k ≤ count
  left : numbers_after place line (n ∷ replicate k n) ≡ replicate count n

takes : (place : Place) (line : Option Statement) (n k : ℕ) → Takes place line n k
takes Run None n k = record { count = suc k; enough = omega arith; left = refl }
takes Run (Some Hashes) n k = record { count = k; enough = omega arith; left = refl }
takes Run (Some statement) n k = record { count = suc k; enough = omega arith; left = refl }
takes Weave line n k = record { count = suc k; enough = omega arith; left = refl }

module _ (rules : Rules) (place : Place) (base h l : ℕ) where
  abbrev number : ℕ
  number = h - base

  -- a step that hashes nothing and leaves what was left
  pub pays_nothing : (state : State) (writer : ℕ) (line : Line)
      → PaysStep base (step rules place number state writer line) h l h l
  pays_nothing state writer line = record {
    rises = omega arith;
    stays = λ hashes. refl;
    paid = omega arith;
    said = said_number rules place number state writer line;
  }

  rest_pays : (left : List Event) (k : ℕ) (state : State) → length left ≤ k
      → PaysSteps base (play rules place (replicate k number) state left) h l h l
  rest_pays [] k state few = (refl, refl)
  rest_pays (adopts writer ∷ left) k state few =
      rest_pays left k (adopted writer state) (omega arith)
  rest_pays (says writer line ∷ left) zero state few = absurd (omega arith)
  rest_pays (says writer line ∷ left) (suc k) state few =
      let turn = step rules place number state writer line in
      let t = takes place line.1 number k in (
        h,
        l,
        pays_nothing state writer line,
        subst (λ numbers. PaysSteps base (play rules place numbers (state_of turn) left) h l h l)
            (sym t.left)
            (rest_pays left t.count (state_of turn) (let more = t.enough in omega arith)),
      )

  -- A run that is under way was paid for whole, as if nothing were hashed any more.
  pub settled : (events front : List Event) (first : State) (done : List Turn) (state : State)
      (left : List Event) (a b : ℕ) → events ≡ front ++ left
      → (u : IsUnderWay rules place front first done state) → PaysSteps base done a b h l
      → PaysSteps base (play rules place (u.numbers ++ replicate (length left) number) first events)
      a b h l
  settled events front first done state left a b all u pays =
      let numbers = replicate (length left) number in
      subst (λ turns. PaysSteps base turns a b h l)
      (sym (ap (λ es. play rules place (u.numbers ++ numbers) first es) all
      ∙ u.turns left numbers))
      (pays_append base done
      (play rules place (replicate (length left) number) state left) a b h l h l pays
      (rest_pays left (length left) state (omega arith)))
