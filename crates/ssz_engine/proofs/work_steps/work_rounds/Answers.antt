use Rattle.std.proofs.Common.{◌≡◌, ◌+◌, ◌-◌, ℕ, suc, sym, subst, arith}
use Rattle.std.specs.Prelude.{Err, Ok}
use Rattle.std.proofs.lemmas.Result.{err_from_is_err_and}
use Rattle.ssz_machine.specs.Rules.{Rules}
use Rattle.ssz_machine.specs.Work.{round, tops_of, walk_from, worked_on}
use Rattle.ssz_machine.specs.State.{version_of}
use Rattle.ssz_machine.specs.Drawing.{worked}
use Rattle.ssz_decisions.specs.Content.{rules_of}
use Rattle.ssz_decisions.specs.Roots.{RisesBy}
use Rattle.ssz_engine.specs.Scripts.{Point, point}
use Rattle.ssz_engine.specs.Works.{Works}
use Rattle.ssz_engine.proofs.WorkPoints.{by_first_rules, works_exit}
use Rattle.ssz_engine.proofs.WorkRounds.{AreRounds, rounds_begin, rounds_broken, rounds_end, rounds_least, rounds_on}
use Rattle.ssz_engine.proofs.work_steps.work_rounds.Goals as goal
use Rattle.ssz_engine.proofs.Trying.{tries_exit, tries_ok, tries_still, tries_then}

pub returns-clause-works : goal.returns-clause-works
returns-clause-works g c = λ state at.
    let before : Point = point g.F.Files g.H.PairHash c.args.engine.now c.args.files.now
    c.args.hasher.now in
    let here : Point = point g.F.Files g.H.PairHash c.loop-round.engine c.loop-round.files
    c.loop-round.hasher in
    let rules : Rules = rules_of g.H.PairHash.pair_of c.args.engine.now in
    let none : c.args.count - c.loop-round._round ≡ 0 = omega (arith, c.loop-round-test.false) in
    rounds_end rules c.args.count c.args.seed state c.loop-round.generator c.loop-round.edits
    before here
    (subst (λ left. AreRounds rules c.args.count c.args.seed state left c.loop-round.generator
    c.loop-round.edits before here) none (c.loop-round.invariant.rounds state at))

pub returns-clause-least : goal.returns-clause-least
returns-clause-least g c = λ state at.
    let before : Point = point g.F.Files g.H.PairHash c.args.engine.now c.args.files.now
    c.args.hasher.now in
    let here : Point = point g.F.Files g.H.PairHash c.loop-round.engine c.loop-round.files
    c.loop-round.hasher in
    let rules : Rules = rules_of g.H.PairHash.pair_of c.args.engine.now in
    let none : c.args.count - c.loop-round._round ≡ 0 = omega (arith, c.loop-round-test.false) in
    rounds_least rules c.args.count c.args.seed state c.loop-round.generator c.loop-round.edits
    before here
    (subst (λ left. AreRounds rules c.args.count c.args.seed state left c.loop-round.generator
    c.loop-round.edits before here) none (c.loop-round.invariant.rounds state at))

pub loop-round-init : goal.loop-round-init
loop-round-init g c = record {
  tries = tries_still tt;
  few = omega arith;
  rounds = λ state at.
      let rules : Rules = rules_of g.H.PairHash.pair_of c.args.engine.now in
      let here : Point = point g.F.Files g.H.PairHash c.args.engine.now c.args.files.now
      c.args.hasher.now in
      let all : c.args.count ≡ c.args.count - 0 = omega arith in
      subst (λ left. AreRounds rules c.args.count c.args.seed state left c.new-generator.result 0
      here here) all
      (subst (λ x. AreRounds rules c.args.count c.args.seed state c.args.count x 0 here here)
      (sym {A = ℕ} c.new-generator.ensures)
      (rounds_begin rules c.args.count c.args.seed state here at));
  usable = c.requires.usable;
}

pub returns-in_err-edits-clause-works : goal.returns-in_err-edits-clause-works
returns-in_err-edits-clause-works g c = λ state at.
    let before : Point = point g.F.Files g.H.PairHash c.args.engine.now c.args.files.now
    c.args.hasher.now in
    let mid : Point = point g.F.Files g.H.PairHash c.loop-round.engine c.loop-round.files
    c.loop-round.hasher in
    let after : Point = point g.F.Files g.H.PairHash c.work_round.new.engine c.work_round.new.files
    c.work_round.new.hasher in
    let rules : Rules = rules_of g.H.PairHash.pair_of c.args.engine.now in
    let left = c.args.count - suc c.loop-round._round in
    let next : c.args.count - c.loop-round._round ≡ suc left =
    (let within = c.loop-round-test.true in omega (arith, within)) in
    let rounds : AreRounds rules c.args.count c.args.seed state (suc left) c.loop-round.generator
    c.loop-round.edits before mid =
    subst (λ n. AreRounds rules c.args.count c.args.seed state n c.loop-round.generator
    c.loop-round.edits before mid) next (c.loop-round.invariant.rounds state at) in
    let so_far = rounds.so_far in
    let way = walk_from (version_of worked (so_far.state.versions 0)) c.loop-round.generator in
    let exit = err_from_is_err_and c.from_residual.result c.from_residual.ensures.1 in
    let broken = by_first_rules g.H.PairHash.pair_of c.args.engine.now c.loop-round.engine
    c.loop-round.invariant.tries.keeps
    (λ r. Works (Err c.in_err-edits.field-0.0) (round r so_far.state way.edit)
    (λ edits. (edits ≡ (round r so_far.state way.edit).edits)
    × (c.work_round.new.generator ≡ way.seed)) mid after)
    (c.in_err-edits.ensures.works so_far.state rounds.done.at) in
    works_exit c.from_residual.result (worked_on rules c.args.count c.args.seed state) _ before
    after exit.0 c.in_err-edits.field-0.0 exit.1 exit.2
    (rounds_broken rules c.args.count c.args.seed state left c.loop-round.generator
    c.loop-round.edits before mid after rounds c.in_err-edits.field-0.0 broken)

pub loop-round-preserved : goal.loop-round-preserved
loop-round-preserved g c =
    let so_far = c.loop-round.invariant in
    let made = c.in_ok-edits.ensures in
    record {
      tries = tries_ok (c.loop-round.edits + c.in_ok-edits.field-0)
          (tries_then so_far.tries made.tries);
      few = omega (arith, so_far.few, made.few);
      rounds = λ state at.
          let before : Point = point g.F.Files g.H.PairHash c.args.engine.now c.args.files.now
          c.args.hasher.now in
          let mid : Point = point g.F.Files g.H.PairHash c.loop-round.engine c.loop-round.files
          c.loop-round.hasher in
          let after : Point = point g.F.Files g.H.PairHash c.work_round.new.engine
          c.work_round.new.files c.work_round.new.hasher in
          let rules : Rules = rules_of g.H.PairHash.pair_of c.args.engine.now in
          let left = c.args.count - (c.loop-round._round + 1) in
          let next : c.args.count - c.loop-round._round ≡ suc left =
          (let within = c.loop-round-test.true in omega (arith, within)) in
          let rounds : AreRounds rules c.args.count c.args.seed state (suc left)
          c.loop-round.generator c.loop-round.edits before mid =
          subst (λ n. AreRounds rules c.args.count c.args.seed state n c.loop-round.generator
          c.loop-round.edits before mid) next (so_far.rounds state at) in
          let here = rounds.so_far in
          let way = walk_from (version_of worked (here.state.versions 0)) c.loop-round.generator in
          let done = by_first_rules g.H.PairHash.pair_of c.args.engine.now c.loop-round.engine
          so_far.tries.keeps
          (λ r. Works (Ok c.in_ok-edits.field-0) (round r here.state way.edit)
          (λ edits. (edits ≡ (round r here.state way.edit).edits)
          × (c.work_round.new.generator ≡ way.seed)) mid after)
          (made.works here.state rounds.done.at) in
          rounds_on rules c.args.count c.args.seed state left c.loop-round.generator
          c.loop-round.edits before mid after rounds c.in_ok-edits.field-0
          c.work_round.new.generator done.0 done.1.0 done.1.1
          (by_first_rules g.H.PairHash.pair_of c.args.engine.now c.loop-round.engine
          so_far.tries.keeps
          (λ r. RisesBy (tops_of r here.state way.edit) (g.H.PairHash.pairs c.loop-round.hasher)
          (g.H.PairHash.pairs c.work_round.new.hasher))
          (made.least here.state rounds.done.at));
      usable = made.usable;
    }

pub returns-clause-tries : goal.returns-clause-tries
returns-clause-tries g c = c.loop-round.invariant.tries

pub returns-in_err-edits-clause-tries : goal.returns-in_err-edits-clause-tries
returns-in_err-edits-clause-tries g c =
    let exit = err_from_is_err_and c.from_residual.result c.from_residual.ensures.1 in
    tries_exit exit.1 exit.2 (tries_then c.loop-round.invariant.tries c.in_err-edits.ensures.tries)
