use Rattle.std.proofs.Common.{◌≡◌, ◌∷◌, [], ℕ, Option, Some, subst, sym, refl}
use Rattle.std.specs.Prelude.{IfSome}
use Rattle.std.proofs.lemmas.Result.{err_from_is_err_and}
use Rattle.ssz_draws.specs.Walked.{IsEditStatement}
use Rattle.ssz_script.specs.declared.statement.Statement.{Statement}
use Rattle.ssz_script.specs.declared.statement.Statement.TheVariants.{Root}
use Rattle.ssz_machine.specs.State.{State, version_of}
use Rattle.ssz_machine.specs.Rules.{Rules}
use Rattle.ssz_machine.specs.Machine.{Turn, state_of}
use Rattle.ssz_machine.specs.Drawing.{Walk, worked}
use Rattle.ssz_machine.specs.Work.{turn_done, round, walk_from}
use Rattle.ssz_decisions.specs.Content.{EngineContent as Engine, rules_of}
use Rattle.ssz_decisions.specs.Standing.{StandsForWriter}
use Rattle.ssz_engine.specs.Scripts.{Point, point}
use Rattle.ssz_engine.specs.Works.{AreBroken, AreDone, Draws}
use Rattle.ssz_decisions.specs.declared.fault.EngineFault.{EngineFault}
use Rattle.ssz_engine.proofs.WorkLeast.{round-least}
use Rattle.ssz_engine.proofs.WorkPoints.{by_first_rules, round_done, round_here, works_exit}
use Rattle.ssz_engine.proofs.WorkSteps.{broken_early, broken_then}
use Rattle.ssz_engine.proofs.work_steps.work_round.Goals as goal
use Rattle.ssz_engine.proofs.Trying.{tries_exit, tries_ok, tries_still, tries_then}

pub returns-in-Err-clause-works : goal.returns-in-Err-clause-works
returns-in-Err-clause-works g c = λ state at.
    round_here (rules_of g.H.PairHash.pair_of c.args.engine.now) state _ _ at.versions

-- the edit was done, and there was no memory for the root
round_broken : (rules : Rules) (state : State) (way : Walk) (edit : Statement) (seed : ℕ)
    (fault : EngineFault) (before mid after : Point)
    → way ≡ record { edit = Some edit; seed = seed }
    → AreDone (turn_done rules state edit ∷ []) (state_of (turn_done rules state edit)) before mid
    → AreBroken (turn_done rules (state_of (turn_done rules state edit)) (Root worked) ∷ []) fault
    mid after
    → AreBroken (round rules state way.edit).turns fault before after
round_broken rules state way edit seed fault before mid after is first then =
    let turn : Turn = turn_done rules state edit in
    let asked : Turn = turn_done rules (state_of turn) (Root worked) in
    subst (λ (w : Walk). AreBroken (round rules state w.edit).turns fault before after) (sym is)
    (broken_then (turn ∷ []) (asked ∷ []) (state_of turn) fault before mid after first then)

pub returns-in_err-answer_root-in-Ok-Some-clause-works :
    goal.returns-in_err-answer_root-in-Ok-Some-clause-works
returns-in_err-answer_root-in-Ok-Some-clause-works g c = λ state at.
    let before : Point = point g.F.Files g.H.PairHash c.args.engine.now c.args.files.now
    c.args.hasher.now in
    let mid : Point = point g.F.Files g.H.PairHash c.answer.new.engine c.answer.new.files
    c.answer.new.hasher in
    let after : Point = point g.F.Files g.H.PairHash c.answer_root-in-Ok-Some.new.engine
    c.answer_root-in-Ok-Some.new.files c.answer_root-in-Ok-Some.new.hasher in
    let rules : Rules = rules_of g.H.PairHash.pair_of c.args.engine.now in
    let edit : Statement = c.in-Ok-Some.edit in
    let first = c.in_ok-answer-in-Ok-Some.ensures.works state at in
    let middle : State = state_of (turn_done rules state edit) in
    let fault : EngineFault = c.in_err-answer_root-in-Ok-Some.field-0.0 in
    let second = by_first_rules g.H.PairHash.pair_of c.args.engine.now c.answer.new.engine
    c.in_ok-answer-in-Ok-Some.ensures.tries.keeps
    (λ r. AreBroken (turn_done r middle (Root worked) ∷ []) fault mid after)
    (c.in_err-answer_root-in-Ok-Some.ensures.works middle first.0.at) in
    let exit = err_from_is_err_and c.from_residual-in_err-answer_root-in-Ok-Some.result
    c.from_residual-in_err-answer_root-in-Ok-Some.ensures.1 in
    let way : Walk = walk_from (version_of worked (state.versions 0)) c.args.generator.now in
    let drawn = c.in-Ok-Some.ensures.drawn (state.versions 0)
    (subst (λ (engine : Engine). StandsForWriter engine 0 (state.versions 0))
    (sym c.engine.view_is) (at.versions.each 0)) in
    works_exit c.from_residual-in_err-answer_root-in-Ok-Some.result (round rules state way.edit) _
    before after exit.0 fault exit.1 exit.2
    (round_broken rules state way edit c.draw_edit.new.generator fault before mid after
    (subst (λ (e : Option Statement). Draws (version_of worked (state.versions 0))
    c.args.generator.now c.draw_edit.new.generator e) c.in-Ok-Some.field-0-is drawn)
    first.0 second)

pub returns-in_ok-answer_root-in-Ok-Some-clause-works :
    goal.returns-in_ok-answer_root-in-Ok-Some-clause-works
returns-in_ok-answer_root-in-Ok-Some-clause-works g c = λ state at.
    let before : Point = point g.F.Files g.H.PairHash c.args.engine.now c.args.files.now
    c.args.hasher.now in
    let mid : Point = point g.F.Files g.H.PairHash c.answer.new.engine c.answer.new.files
    c.answer.new.hasher in
    let after : Point = point g.F.Files g.H.PairHash c.answer_root-in-Ok-Some.new.engine
    c.answer_root-in-Ok-Some.new.files c.answer_root-in-Ok-Some.new.hasher in
    let rules : Rules = rules_of g.H.PairHash.pair_of c.args.engine.now in
    let edit : Statement = c.in-Ok-Some.edit in
    let first = c.in_ok-answer-in-Ok-Some.ensures.works state at in
    let middle : State = state_of (turn_done rules state edit) in
    let asked = (c.in_ok-answer_root-in-Ok-Some.ensures.works middle first.0.at).0 in
    let second = by_first_rules g.H.PairHash.pair_of c.args.engine.now
    c.answer.new.engine c.in_ok-answer-in-Ok-Some.ensures.tries.keeps
    (λ r. AreDone (turn_done r middle (Root worked) ∷ [])
    (state_of (turn_done r middle (Root worked))) mid
    after)
    asked in
    let drawn = c.in-Ok-Some.ensures.drawn (state.versions 0)
    (subst (λ (engine : Engine). StandsForWriter engine 0 (state.versions 0))
    (sym c.engine.view_is) (at.versions.each 0)) in
    round_done rules state (walk_from (version_of worked (state.versions 0)) c.args.generator.now)
    edit c.draw_edit.new.generator before mid after
    (subst (λ (e : Option Statement). Draws (version_of worked (state.versions 0))
    c.args.generator.now c.draw_edit.new.generator e) c.in-Ok-Some.field-0-is drawn)
    first.0 second

-- there was no memory for the edit
round_first : (rules : Rules) (state : State) (way : Walk) (edit : Statement) (seed : ℕ)
    (fault : EngineFault) (before mid : Point) → way ≡ record { edit = Some edit; seed = seed }
    → AreBroken (turn_done rules state edit ∷ []) fault before mid
    → AreBroken (round rules state way.edit).turns fault before mid
round_first rules state way edit seed fault before mid is first =
    let turn : Turn = turn_done rules state edit in
    subst (λ (w : Walk). AreBroken (round rules state w.edit).turns fault before mid) (sym is)
    (broken_early (turn ∷ []) (turn_done rules (state_of turn) (Root worked) ∷ []) fault before mid
    first)

pub returns-in_err-answer-in-Ok-Some-clause-works :
    goal.returns-in_err-answer-in-Ok-Some-clause-works
returns-in_err-answer-in-Ok-Some-clause-works g c = λ state at.
    let before : Point = point g.F.Files g.H.PairHash c.args.engine.now c.args.files.now
    c.args.hasher.now in
    let mid : Point = point g.F.Files g.H.PairHash c.answer.new.engine c.answer.new.files
    c.answer.new.hasher in
    let rules : Rules = rules_of g.H.PairHash.pair_of c.args.engine.now in
    let edit : Statement = c.in-Ok-Some.edit in
    let fault : EngineFault = c.in_err-answer-in-Ok-Some.field-0.0 in
    let exit = err_from_is_err_and c.from_residual-in_err-answer-in-Ok-Some.result
    c.from_residual-in_err-answer-in-Ok-Some.ensures.1 in
    let way : Walk = walk_from (version_of worked (state.versions 0)) c.args.generator.now in
    let drawn = c.in-Ok-Some.ensures.drawn (state.versions 0)
    (subst (λ (engine : Engine). StandsForWriter engine 0 (state.versions 0))
    (sym c.engine.view_is) (at.versions.each 0)) in
    works_exit c.from_residual-in_err-answer-in-Ok-Some.result (round rules state way.edit) _
    before mid exit.0 fault exit.1 exit.2
    (round_first rules state way edit c.draw_edit.new.generator fault before mid
    (subst (λ (e : Option Statement). Draws (version_of worked (state.versions 0))
    c.args.generator.now c.draw_edit.new.generator e) c.in-Ok-Some.field-0-is drawn)
    (c.in_err-answer-in-Ok-Some.ensures.works state at))

pub returns-in_ok-answer_root-in-Ok-Some-clause-least :
    goal.returns-in_ok-answer_root-in-Ok-Some-clause-least
returns-in_ok-answer_root-in-Ok-Some-clause-least g c = λ state at.
    let pairs = g.H.PairHash.pairs in
    let edit : Statement = c.in-Ok-Some.edit in
    let drawn = c.in-Ok-Some.ensures.drawn (state.versions 0)
    (subst (λ (engine : Engine). StandsForWriter engine 0 (state.versions 0))
    (sym c.engine.view_is) (at.versions.each 0)) in
    round-least (rules_of g.H.PairHash.pair_of c.args.engine.now) state
    (walk_from (version_of worked (state.versions 0)) c.args.generator.now) edit
    c.draw_edit.new.generator c.args.engine.now c.answer.new.engine (pairs c.args.hasher.now)
    (pairs c.answer.new.hasher) (pairs c.answer_root-in-Ok-Some.new.hasher)
    c.in_ok-answer-in-Ok-Some.field-0
    (subst (λ (e : Option Statement). Draws (version_of worked (state.versions 0))
    c.args.generator.now c.draw_edit.new.generator e) c.in-Ok-Some.field-0-is drawn)
    (subst (λ (e : Option Statement). IfSome e IsEditStatement) c.in-Ok-Some.field-0-is
    c.in-Ok-Some.ensures.named)
    ((at.versions.each 0).each worked) (c.in_ok-answer-in-Ok-Some.ensures.outcome state at)
    c.in_ok-answer-in-Ok-Some.ensures.tops c.in_ok-answer-in-Ok-Some.ensures.tries.rises
    c.in_ok-answer_root-in-Ok-Some.ensures.tries.rises c.in_ok-answer_root-in-Ok-Some.ensures.some

pub returns-in-Err-clause-tries : goal.returns-in-Err-clause-tries
returns-in-Err-clause-tries g c = tries_still refl

pub returns-in_err-answer_root-in-Ok-Some-clause-tries :
    goal.returns-in_err-answer_root-in-Ok-Some-clause-tries
returns-in_err-answer_root-in-Ok-Some-clause-tries g c =
    let exit = err_from_is_err_and c.from_residual-in_err-answer_root-in-Ok-Some.result
    c.from_residual-in_err-answer_root-in-Ok-Some.ensures.1 in
    tries_exit exit.1 exit.2 (tries_then c.in_ok-answer-in-Ok-Some.ensures.tries
    c.in_err-answer_root-in-Ok-Some.ensures.tries)

pub returns-in_ok-answer_root-in-Ok-Some-clause-tries :
    goal.returns-in_ok-answer_root-in-Ok-Some-clause-tries
returns-in_ok-answer_root-in-Ok-Some-clause-tries g c =
    tries_ok 1 (tries_then c.in_ok-answer-in-Ok-Some.ensures.tries
    c.in_ok-answer_root-in-Ok-Some.ensures.tries)

pub returns-in_err-answer-in-Ok-Some-clause-tries :
    goal.returns-in_err-answer-in-Ok-Some-clause-tries
returns-in_err-answer-in-Ok-Some-clause-tries g c =
    let exit = err_from_is_err_and c.from_residual-in_err-answer-in-Ok-Some.result
    c.from_residual-in_err-answer-in-Ok-Some.ensures.1 in
    tries_exit exit.1 exit.2 c.in_err-answer-in-Ok-Some.ensures.tries
