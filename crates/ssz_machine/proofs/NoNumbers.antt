-- In a weave no number is printed, whatever numbers there are to print.
use Rattle.std.proofs.Common.{ℕ, ◌≡◌, List, [], ◌∷◌, Option, Some, None, refl, ap, ap₂, ◌∙◌}
use Rattle.ssz_script.specs.declared.statement.Statement.{Statement}
use Rattle.ssz_script.specs.declared.statement.Statement.TheVariants.{Hashes}
use Rattle.ssz_machine.specs.declared.place.Place.TheVariants.{Weave}
use Rattle.ssz_machine.specs.State.{State}
use Rattle.ssz_machine.specs.Rules.{Rules}
use Rattle.ssz_machine.specs.Machine.{Turn, step, state_of}
use Rattle.ssz_machine.specs.Plays.{Event, says, adopts, adopted, next_number, play}

module _ (rules : Rules) where
  same_step : (n m : ℕ) (state : State) (writer number : ℕ) (statement : Option Statement)
      → step rules Weave n state writer (number, statement)
      ≡ step rules Weave m state writer (number, statement)
  same_step n m state writer number None = refl
  same_step n m state writer number (Some Hashes) = refl
  same_step n m state writer number (Some statement) = refl

  -- the steps of a weave are the same for all numbers
  pub same_weave : (events : List Event) (state : State) (numbers others : List ℕ)
      → play rules Weave numbers state events ≡ play rules Weave others state events
  same_weave [] state numbers others = refl
  same_weave (adopts writer ∷ events) state numbers others =
      same_weave events (adopted writer state) numbers others
  same_weave (says writer line ∷ events) state numbers others =
      let n = next_number numbers in
      let m = next_number others in
      let here = same_step n m state writer line.0 line.1 in
      ap₂ ◌∷◌ here
      (same_weave events (state_of (step rules Weave n state writer line)) numbers others
      ∙ ap (λ (turn : Turn). play rules Weave others (state_of turn) events) here)
