use Rattle.std.proofs.Common.{◌≡◌, ◌∷◌, ◌++◌, [], subst, arith, refl}
use Rattle.std.proofs.lemmas.Result.{err_from_is_err_and}
use Rattle.ssz_script.specs.declared.statement.Statement.{Statement}
use Rattle.ssz_script.specs.declared.statement.Statement.TheVariants.{New, Root}
use Rattle.ssz_machine.specs.Rules.{Rules}
use Rattle.ssz_machine.specs.Machine.{Turn, state_of}
use Rattle.ssz_machine.specs.Drawing.{worked}
use Rattle.ssz_machine.specs.Work.{Worked, turn_done, work_of, worked_on}
use Rattle.ssz_decisions.specs.Content.{EngineContent, rules_of}
use Rattle.ssz_decisions.specs.Roots.{RisesBy}
use Rattle.ssz_engine.specs.Scripts.{Point, point}
use Rattle.ssz_engine.specs.Works.{AreBroken, AreDone, Replies, whole_work}
use Rattle.ssz_decisions.specs.declared.fault.EngineFault.{EngineFault}
use Rattle.ssz_engine.proofs.Leading.{keeps_on}
use Rattle.ssz_engine.proofs.WorkPoints.{by_first_rules, works_exit}
use Rattle.ssz_engine.proofs.WorkSteps.{broken_early, broken_here, broken_then, done_then}
use Rattle.ssz_engine.proofs.work_steps.work_through.Goals as goal
use Rattle.ssz_engine.proofs.Trying.{tries_exit, tries_ok, tries_still, tries_then}

pub returns-clause-works : goal.returns-clause-works
returns-clause-works g c = λ state at.
    let pair_of = g.H.PairHash.pair_of in
    let first : EngineContent = c.args.engine.now in
    let before : Point = point g.F.Files g.H.PairHash first c.args.files.now c.args.hasher.now in
    let mid : Point = point g.F.Files g.H.PairHash c.answer.new.engine c.answer.new.files
    c.answer.new.hasher in
    let late : Point = point g.F.Files g.H.PairHash c.work_rounds.new.engine c.work_rounds.new.files
    c.work_rounds.new.hasher in
    let after : Point = point g.F.Files g.H.PairHash c.answer_root.new.engine
    c.answer_root.new.files c.answer_root.new.hasher in
    let rules : Rules = rules_of pair_of first in
    let made : Turn = turn_done rules state (New worked c.args.type_name.now) in
    let rest : Rules → Worked = λ r. worked_on r c.args.count c.args.seed (state_of made) in
    let work : Worked = work_of rules state c.args.type_name.now c.args.seed c.args.count in
    let asked : Rules → Turn = λ r. turn_done r work.state (Root worked) in
    let begun : AreDone (made ∷ []) (state_of made) before mid =
    subst (λ (s : Statement).
    AreDone (turn_done rules state s ∷ []) (state_of (turn_done rules state s))
    before mid) c.in-Ok.ensures (c.in_ok-answer.ensures.works state at).0 in
    let rounds = by_first_rules pair_of first c.answer.new.engine c.in_ok-answer.ensures.tries.keeps
    (λ r. AreDone (rest r).turns (rest r).state mid late × (c.in_ok-edits.edits ≡ (rest r).edits))
    (c.in_ok-edits.ensures.works (state_of made) begun.at) in
    let both : AreDone work.turns work.state before late =
    done_then (made ∷ []) (rest rules).turns (state_of made) (rest rules).state before mid late
    begun rounds.0 in
    let last = by_first_rules pair_of first c.work_rounds.new.engine
    (keeps_on c.in_ok-answer.ensures.tries.keeps c.in_ok-edits.ensures.tries.keeps)
    (λ r. AreDone (asked r ∷ []) (state_of (asked r)) late after
    × Replies (asked r) c.answer_root.new.reply.items)
    (c.in_ok-answer_root.ensures.works work.state both.at) in (
      done_then work.turns (asked rules ∷ []) work.state (state_of (asked rules)) before late after
          both last.0,
      (let edits = rounds.1 in omega (arith, edits), last.1),
    )

pub returns-clause-least : goal.returns-clause-least
returns-clause-least g c = λ state at.
    let pair_of = g.H.PairHash.pair_of in
    let first : EngineContent = c.args.engine.now in
    let before : Point = point g.F.Files g.H.PairHash first c.args.files.now c.args.hasher.now in
    let mid : Point = point g.F.Files g.H.PairHash c.answer.new.engine c.answer.new.files
    c.answer.new.hasher in
    let rules : Rules = rules_of pair_of first in
    let made : Turn = turn_done rules state (New worked c.args.type_name.now) in
    let rest : Rules → Worked = λ r. worked_on r c.args.count c.args.seed (state_of made) in
    let begun : AreDone (made ∷ []) (state_of made) before mid =
    subst (λ (s : Statement).
    AreDone (turn_done rules state s ∷ []) (state_of (turn_done rules state s))
    before mid) c.in-Ok.ensures (c.in_ok-answer.ensures.works state at).0 in
    let rounds = by_first_rules pair_of first c.answer.new.engine c.in_ok-answer.ensures.tries.keeps
    (λ r. RisesBy (rest r).tops (g.H.PairHash.pairs c.answer.new.hasher)
    (g.H.PairHash.pairs c.work_rounds.new.hasher))
    (c.in_ok-edits.ensures.least (state_of made) begun.at) in
    let first_rise = c.in_ok-answer.ensures.tries.rises in
    let last_rise = c.in_ok-answer_root.ensures.tries.rises in
    λ few. (let some = rounds (omega (arith, few, last_rise)) in
    omega (arith, some, first_rise, last_rise))

pub returns-in_default-clause-works : goal.returns-in_default-clause-works
returns-in_default-clause-works g c = λ state at.
    broken_here (turn_done (rules_of g.H.PairHash.pair_of c.args.engine.now) state
    (New worked c.args.type_name.now)) _ _ at.versions

pub returns-in_err-answer-clause-works : goal.returns-in_err-answer-clause-works
returns-in_err-answer-clause-works g c = λ state at.
    let pair_of = g.H.PairHash.pair_of in
    let first : EngineContent = c.args.engine.now in
    let before : Point = point g.F.Files g.H.PairHash first c.args.files.now c.args.hasher.now in
    let mid : Point = point g.F.Files g.H.PairHash c.answer.new.engine c.answer.new.files
    c.answer.new.hasher in
    let rules : Rules = rules_of pair_of first in
    let made : Turn = turn_done rules state (New worked c.args.type_name.now) in
    let rest : Rules → Worked = λ r. worked_on r c.args.count c.args.seed (state_of made) in
    let work : Worked = work_of rules state c.args.type_name.now c.args.seed c.args.count in
    let asked : Rules → Turn = λ r. turn_done r work.state (Root worked) in
    let whole : Worked = whole_work rules state c.args.type_name.now c.args.seed c.args.count in
    let fault : EngineFault = c.in_err-answer.field-0.0 in
    let exit = err_from_is_err_and c.from_residual.result c.from_residual.ensures.1 in
    works_exit c.from_residual.result whole _ before mid exit.0 fault exit.1 exit.2
    (broken_early (made ∷ []) ((rest rules).turns ++ asked rules ∷ []) fault before mid
    (subst (λ (s : Statement). AreBroken (turn_done rules state s ∷ []) fault before mid)
    c.in-Ok.ensures (c.in_err-answer.ensures.works state at)))

pub returns-in_err-edits-clause-works : goal.returns-in_err-edits-clause-works
returns-in_err-edits-clause-works g c = λ state at.
    let pair_of = g.H.PairHash.pair_of in
    let first : EngineContent = c.args.engine.now in
    let before : Point = point g.F.Files g.H.PairHash first c.args.files.now c.args.hasher.now in
    let mid : Point = point g.F.Files g.H.PairHash c.answer.new.engine c.answer.new.files
    c.answer.new.hasher in
    let late : Point = point g.F.Files g.H.PairHash c.work_rounds.new.engine c.work_rounds.new.files
    c.work_rounds.new.hasher in
    let rules : Rules = rules_of pair_of first in
    let made : Turn = turn_done rules state (New worked c.args.type_name.now) in
    let rest : Rules → Worked = λ r. worked_on r c.args.count c.args.seed (state_of made) in
    let work : Worked = work_of rules state c.args.type_name.now c.args.seed c.args.count in
    let asked : Rules → Turn = λ r. turn_done r work.state (Root worked) in
    let whole : Worked = whole_work rules state c.args.type_name.now c.args.seed c.args.count in
    let begun : AreDone (made ∷ []) (state_of made) before mid =
    subst (λ (s : Statement).
    AreDone (turn_done rules state s ∷ []) (state_of (turn_done rules state s))
    before mid) c.in-Ok.ensures (c.in_ok-answer.ensures.works state at).0 in
    let fault : EngineFault = c.in_err-edits.field-0.0 in
    let broken = by_first_rules pair_of first c.answer.new.engine c.in_ok-answer.ensures.tries.keeps
    (λ r. AreBroken (rest r).turns fault mid late)
    (c.in_err-edits.ensures.works (state_of made) begun.at) in
    let exit = err_from_is_err_and c.from_residual-in_err-edits.result
    c.from_residual-in_err-edits.ensures.1 in
    works_exit c.from_residual-in_err-edits.result whole _ before late exit.0 fault exit.1 exit.2
    (broken_early work.turns (asked rules ∷ []) fault before late
    (broken_then (made ∷ []) (rest rules).turns (state_of made) fault before mid late begun broken))

pub returns-in_err-answer_root-clause-works : goal.returns-in_err-answer_root-clause-works
returns-in_err-answer_root-clause-works g c = λ state at.
    let pair_of = g.H.PairHash.pair_of in
    let first : EngineContent = c.args.engine.now in
    let before : Point = point g.F.Files g.H.PairHash first c.args.files.now c.args.hasher.now in
    let mid : Point = point g.F.Files g.H.PairHash c.answer.new.engine c.answer.new.files
    c.answer.new.hasher in
    let late : Point = point g.F.Files g.H.PairHash c.work_rounds.new.engine c.work_rounds.new.files
    c.work_rounds.new.hasher in
    let after : Point = point g.F.Files g.H.PairHash c.answer_root.new.engine
    c.answer_root.new.files c.answer_root.new.hasher in
    let rules : Rules = rules_of pair_of first in
    let made : Turn = turn_done rules state (New worked c.args.type_name.now) in
    let rest : Rules → Worked = λ r. worked_on r c.args.count c.args.seed (state_of made) in
    let work : Worked = work_of rules state c.args.type_name.now c.args.seed c.args.count in
    let asked : Rules → Turn = λ r. turn_done r work.state (Root worked) in
    let whole : Worked = whole_work rules state c.args.type_name.now c.args.seed c.args.count in
    let begun : AreDone (made ∷ []) (state_of made) before mid =
    subst (λ (s : Statement).
    AreDone (turn_done rules state s ∷ []) (state_of (turn_done rules state s))
    before mid) c.in-Ok.ensures (c.in_ok-answer.ensures.works state at).0 in
    let fault : EngineFault = c.in_err-answer_root.field-0.0 in
    let rounds = by_first_rules pair_of first c.answer.new.engine c.in_ok-answer.ensures.tries.keeps
    (λ r. AreDone (rest r).turns (rest r).state mid late × (c.in_ok-edits.edits ≡ (rest r).edits))
    (c.in_ok-edits.ensures.works (state_of made) begun.at) in
    let both : AreDone work.turns work.state before late =
    done_then (made ∷ []) (rest rules).turns (state_of made) (rest rules).state before mid late
    begun rounds.0 in
    let broken = by_first_rules pair_of first c.work_rounds.new.engine
    (keeps_on c.in_ok-answer.ensures.tries.keeps c.in_ok-edits.ensures.tries.keeps)
    (λ r. AreBroken (asked r ∷ []) fault late after)
    (c.in_err-answer_root.ensures.works work.state both.at) in
    let exit = err_from_is_err_and c.from_residual-in_err-answer_root.result
    c.from_residual-in_err-answer_root.ensures.1 in
    works_exit c.from_residual-in_err-answer_root.result whole _ before after exit.0 fault exit.1
    exit.2
    (broken_then work.turns (asked rules ∷ []) work.state fault before late after both broken)

pub returns-clause-tries : goal.returns-clause-tries
returns-clause-tries g c =
    tries_ok c.in_ok-edits.edits
    (tries_then (tries_then c.in_ok-answer.ensures.tries c.in_ok-edits.ensures.tries)
    c.in_ok-answer_root.ensures.tries)

pub returns-in_default-clause-tries : goal.returns-in_default-clause-tries
returns-in_default-clause-tries g c = tries_still refl

pub returns-in_err-answer-clause-tries : goal.returns-in_err-answer-clause-tries
returns-in_err-answer-clause-tries g c =
    let exit = err_from_is_err_and c.from_residual.result c.from_residual.ensures.1 in
    tries_exit exit.1 exit.2 c.in_err-answer.ensures.tries

pub returns-in_err-edits-clause-tries : goal.returns-in_err-edits-clause-tries
returns-in_err-edits-clause-tries g c =
    let exit = err_from_is_err_and c.from_residual-in_err-edits.result
    c.from_residual-in_err-edits.ensures.1 in
    tries_exit exit.1 exit.2
    (tries_then c.in_ok-answer.ensures.tries c.in_err-edits.ensures.tries)

pub returns-in_err-answer_root-clause-tries : goal.returns-in_err-answer_root-clause-tries
returns-in_err-answer_root-clause-tries g c =
    let exit = err_from_is_err_and c.from_residual-in_err-answer_root.result
    c.from_residual-in_err-answer_root.ensures.1 in
    tries_exit exit.1 exit.2
    (tries_then (tries_then c.in_ok-answer.ensures.tries c.in_ok-edits.ensures.tries)
    c.in_err-answer_root.ensures.tries)
