-- Steps that print no number for `hashes`.
use Rattle.std.proofs.Common.{◌≡◌, ℕ, zero, suc, List, [], ◌∷◌, map, Some, None, refl, subst, arith}
use Rattle.ssz_outside.specs.declared.status.Status.{Status}
use Rattle.ssz_script.specs.Lines.{statements_in}
use Rattle.ssz_machine.specs.declared.place.Place.TheVariants.{Weave}
use Rattle.ssz_machine.specs.State.{State}
use Rattle.ssz_machine.specs.Rules.{Rules}
use Rattle.ssz_machine.specs.Machine.{Line, Turn, reply_of, state_of, step}
use Rattle.ssz_machine.specs.Plays.{Event, says, adopts, adopted, play, weaving}
use Rattle.ssz_machine.specs.Jobs.{turns_of_weave}
use Rattle.ssz_machine.specs.Counts.{turn_number_at, number_said}
use Rattle.ssz_machine.proofs.NoNumbers.{same_weave}
use Rattle.ssz_engine.specs.Scripts.{HasCounts}
use Rattle.ssz_engine.proofs.Replies.{said_number}

-- what is so of the numbers where there is none
pub quiet_counts : (turns : List Turn)
    → ((i n : ℕ) → turn_number_at turns i ≡ Some n → ⊥) → (ended : Status) (rise : ℕ)
    → HasCounts ended turns rise
quiet_counts turns none ended rise = record {
  total = rise;
  most = omega arith;
  whole = λ finished. refl;
  counts = record {
    bounded = λ i n said. absurd (none i n said);
    rising = λ i j n m few said later. absurd (none i n said);
    begins = λ i n said nothing. absurd (none i n said);
    stays = λ i j n m few said later nothing. absurd (none i n said);
    ends = λ i n said nothing. absurd (none i n said);
  };
}

no_step : (i n : ℕ) → turn_number_at [] i ≡ Some n → ⊥
no_step i n said = let differ : None ≡ Some n = said in cc

pub no_counts : (ended : Status) (rise : ℕ) → HasCounts ended [] rise
no_counts = quiet_counts [] no_step

module _ (rules : Rules) where
  -- a number that is printed would be that of the step, whatever it is
  quiet_line : (state : State) (writer : ℕ) (line : Line) (n : ℕ)
      → number_said (reply_of (step rules Weave 0 state writer line)) ≡ Some n → ⊥
  quiet_line state writer line n said =
      let same : step rules Weave 0 state writer line ∷ []
      ≡ step rules Weave 1 state writer line ∷ [] =
      same_weave rules (says writer line ∷ []) state [] (1 ∷ []) in
      let here : step rules Weave 0 state writer line ≡ step rules Weave 1 state writer line = cc in
      let first = said_number rules Weave 0 state writer line n said in
      let second = said_number rules Weave 1 state writer line n
      (subst (λ (turn : Turn). number_said (reply_of turn) ≡ Some n) here said) in
      omega arith

  -- no line of a weave prints one
  quiet_weave : (events : List Event) (state : State) (i n : ℕ)
      → turn_number_at (play rules Weave [] state events) i ≡ Some n → ⊥
  quiet_weave [] state i n said = no_step i n said
  quiet_weave (adopts writer ∷ events) state i n said =
      quiet_weave events (adopted writer state) i n said
  quiet_weave (says writer line ∷ events) state zero n said = quiet_line state writer line n said
  quiet_weave (says writer line ∷ events) state (suc i) n said =
      quiet_weave events (state_of (step rules Weave 0 state writer line)) i n said

  pub weave_counts : (state : State) (base order : List ℕ) (scripts : List (List ℕ))
      (ended : Status) (rise : ℕ)
      → HasCounts ended (turns_of_weave rules state base order scripts) rise
  weave_counts state base order scripts =
      quiet_counts (turns_of_weave rules state base order scripts)
      (quiet_weave (weaving (statements_in base) order (map statements_in scripts)) state)
