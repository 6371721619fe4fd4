use Rattle.std.proofs.Common.{ℕ, List, sym, subst, arith, ap}
use Rattle.std.specs.Prelude.{Ok}
use Rattle.std.proofs.lemmas.Result.{err_from_is_err_and}
use Rattle.ssz_script.specs.Lines.{statements_in}
use Rattle.ssz_machine.specs.Machine.{Line}
use Rattle.ssz_machine.specs.Plays.{adoptions, all_of, base_writer}
use Rattle.ssz_machine.specs.declared.place.Place.TheVariants.{Weave}
use Rattle.ssz_decisions.specs.Content.{EngineContent}
use Rattle.ssz_engine.specs.Points.{Runs}
use Rattle.ssz_engine.specs.Scripts.{Scene, scene}
use Rattle.ssz_decisions.specs.Adopted.{AdoptsAll, AdoptsSome}
use Rattle.ssz_engine.proofs.Going.{runs_exit, runs_of, runs_stops, runs_then}
use Rattle.ssz_engine.proofs.TakenOver.{runs_adopted, runs_unadopted}
use Rattle.ssz_engine.proofs.weave.run_base.Goals as goal

pub returns-in_err-run_lines-clause-runs : goal.returns-in_err-run_lines-clause-runs
returns-in_err-run_lines-clause-runs g c = λ scripts count.
    let exit = err_from_is_err_and c.from_residual.result c.from_residual.ensures.1 in
    runs_exit exit.1 exit.2
    (runs_stops (adoptions 0 scripts) (runs_of
    (ap (λ (lines : List Line). all_of base_writer lines) (sym c.new-lines.ensures))
    c.in_err-run_lines.ensures.runs))

pub returns-clause-runs : goal.returns-clause-runs
returns-clause-runs g c = λ scripts count.
    let was : EngineContent = c.engine.inside.store in
    let before : Scene = scene g.F.Files g.S.Sink g.H.PairHash c.args.engine.now
    c.args.files.now c.args.out.now c.args.hasher.now in
    let mid : Scene = scene g.F.Files g.S.Sink g.H.PairHash was c.run_lines.new.files
    c.run_lines.new.out c.run_lines.new.hasher in
    let begun : Runs g.H.PairHash.pair_of Weave
    (all_of base_writer (statements_in c.args.base.now)) (Ok tt) c.args.replies.now.refused
    c.run_lines.new.replies.refused before mid =
    subst (λ (engine : EngineContent). Runs g.H.PairHash.pair_of Weave
    (all_of base_writer (statements_in c.args.base.now)) (Ok tt) c.args.replies.now.refused
    c.run_lines.new.replies.refused before (record mid { engine = engine })) (sym c.engine.view_is)
    (runs_of (ap (λ (lines : List Line). all_of base_writer lines) (sym c.new-lines.ensures))
    c.in_ok-run_lines.ensures.runs) in
    runs_then begun
    (runs_adopted scripts mid c.adopt_all.new.store (omega (arith, c.requires.few, count))
    c.in-Ok.ensures.nodes
    (subst (λ n. AdoptsAll n was.entries c.adopt_all.new.store.entries) (sym {A = ℕ} count)
    c.in-Ok.ensures.ok))

pub returns-in-Err-clause-runs : goal.returns-in-Err-clause-runs
returns-in-Err-clause-runs g c = λ scripts count.
    let was : EngineContent = c.engine.inside.store in
    let before : Scene = scene g.F.Files g.S.Sink g.H.PairHash c.args.engine.now
    c.args.files.now c.args.out.now c.args.hasher.now in
    let mid : Scene = scene g.F.Files g.S.Sink g.H.PairHash was c.run_lines.new.files
    c.run_lines.new.out c.run_lines.new.hasher in
    let begun : Runs g.H.PairHash.pair_of Weave
    (all_of base_writer (statements_in c.args.base.now)) (Ok tt) c.args.replies.now.refused
    c.run_lines.new.replies.refused before mid =
    subst (λ (engine : EngineContent). Runs g.H.PairHash.pair_of Weave
    (all_of base_writer (statements_in c.args.base.now)) (Ok tt) c.args.replies.now.refused
    c.run_lines.new.replies.refused before (record mid { engine = engine })) (sym c.engine.view_is)
    (runs_of (ap (λ (lines : List Line). all_of base_writer lines) (sym c.new-lines.ensures))
    c.in_ok-run_lines.ensures.runs) in
    runs_then begun
    (runs_unadopted scripts mid c.adopt_all.new.store (omega (arith, c.requires.few, count))
    c.in-Err.ensures.nodes
    (subst (λ n. AdoptsSome n was.entries c.adopt_all.new.store.entries) (sym {A = ℕ} count)
    c.in-Err.ensures.err))
