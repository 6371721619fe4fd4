-- The points of a work, by what an engine keeps.
use Rattle.std.proofs.Common.{◌≡◌, ℕ, [], ◌∷◌, Option, Some, None, refl, sym, subst}
use Rattle.std.specs.Prelude.{Result, Err}
use Rattle.ssz_script.specs.declared.statement.Statement.{Statement}
use Rattle.ssz_script.specs.declared.statement.Statement.TheVariants.{Root}
use Rattle.ssz_machine.specs.State.{State}
use Rattle.ssz_machine.specs.Machine.{Turn, state_of}
use Rattle.ssz_machine.specs.Drawing.{Walk, worked}
use Rattle.ssz_proof.specs.Calculation.{PairOf}
use Rattle.ssz_machine.specs.Rules.{Rules}
use Rattle.ssz_decisions.specs.Content.{EngineContent, rules_of, KeepsEngine}
use Rattle.ssz_machine.specs.Work.{Worked, turn_done, round}
use Rattle.ssz_decisions.specs.Standing.{StandsFor}
use Rattle.ssz_engine.specs.Scripts.{Point}
use Rattle.ssz_engine.specs.Works.{AreBroken, AreDone, Works}
use Rattle.ssz_decisions.specs.declared.fault.EngineFault.{EngineFault}
use Rattle.ssz_decisions.specs.declared.fault.EngineFault.TheVariants.{Memory}
use Rattle.ssz_engine.proofs.Comings.{same_rules}
use Rattle.ssz_engine.proofs.WorkSteps.{broken_here, done_then}

-- what was made by the rules of an engine was made by those of the one before
pub by_first_rules : (pair_of : PairOf) (old new : EngineContent) (keeps : KeepsEngine old new)
    (P : Rules → Type 0) → P (rules_of pair_of new) → P (rules_of pair_of old)
by_first_rules pair_of old new keeps P is = subst P (same_rules pair_of old new keeps) is

-- a fault that is passed on
pub works_exit : {T : Type 0} (result : Result T EngineFault) (work : Worked) (Is : T → Type 0)
    (before after : Point) (fault was : EngineFault) → result ≡ Err fault → fault ≡ was
    → AreBroken work.turns was before after → Works result work Is before after
works_exit result work Is before after fault was is same broken =
    subst (λ r. Works r work Is before after) (sym is)
    (subst (λ (f : EngineFault). AreBroken work.turns f before after) (sym same) broken)

-- an edit that a walk comes to was done, and then the root
pub round_done : (rules : Rules) (state : State) (way : Walk) (edit : Statement) (seed : ℕ)
    (before mid after : Point) → way ≡ record { edit = Some edit; seed = seed }
    → AreDone (turn_done rules state edit ∷ []) (state_of (turn_done rules state edit)) before mid
    → AreDone (turn_done rules (state_of (turn_done rules state edit)) (Root worked) ∷ [])
    (state_of (turn_done rules (state_of (turn_done rules state edit)) (Root worked))) mid after
    → AreDone (round rules state way.edit).turns (round rules state way.edit).state before after
    × ((1 ≡ (round rules state way.edit).edits) × (seed ≡ way.seed))
round_done rules state way edit seed before mid after is first then =
    let turn : Turn = turn_done rules state edit in
    let asked : Turn = turn_done rules (state_of turn) (Root worked) in
    subst (λ (w : Walk). AreDone (round rules state w.edit).turns (round rules state w.edit).state
    before after × ((1 ≡ (round rules state w.edit).edits) × (seed ≡ w.seed))) (sym is) (
      done_then (turn ∷ []) (asked ∷ []) (state_of turn) (state_of asked) before mid after first
          then,
      (refl, refl),
    )

-- there was no memory for a round, whatever it is
pub round_here : (rules : Rules) (state : State) (edit : Option Statement) (here : Point)
    → StandsFor here.engine state.versions
    → AreBroken (round rules state edit).turns Memory here here
round_here rules state None here stands =
    broken_here (turn_done rules state (Root worked)) [] here stands
round_here rules state (Some edit) here stands =
    let turn : Turn = turn_done rules state edit in
    broken_here turn (turn_done rules (state_of turn) (Root worked) ∷ []) here stands
