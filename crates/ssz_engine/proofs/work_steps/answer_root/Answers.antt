use Rattle.ssz_script.specs.declared.statement.Statement.TheVariants.{Root}
use Rattle.ssz_machine.specs.Drawing.{worked}
use Rattle.ssz_machine.specs.Work.{turn_done}
use Rattle.ssz_decisions.specs.Content.{rules_of}
use Rattle.ssz_engine.proofs.WorkSteps.{broken_here}
use Rattle.ssz_engine.proofs.work_steps.answer_root.Goals as goal
use Rattle.std.proofs.Common.{refl}
use Rattle.ssz_engine.proofs.Trying.{tries_still}

pub returns-in_default-clause-works : goal.returns-in_default-clause-works
returns-in_default-clause-works g c = λ state at.
    broken_here (turn_done (rules_of g.H.PairHash.pair_of c.args.engine.now) state (Root worked)) _
    _
    at.versions

pub returns-in_default-clause-tries : goal.returns-in_default-clause-tries
returns-in_default-clause-tries g c = tries_still refl
