use Rattle.std.proofs.Common.{◌∙◌, List, sym, ap, subst}
use Rattle.std.specs.Prelude.{Err}
use Rattle.ssz_outside.specs.declared.status.Status.{Status}
use Rattle.ssz_machine.specs.Machine.{Line}
use Rattle.ssz_machine.specs.Plays.{all_of}
use Rattle.ssz_engine.specs.Compacting.{NoneCompacts}
use Rattle.ssz_engine.specs.Scripts.{AreNamedReadable, EndsScript, Scene, scene}
use Rattle.ssz_engine.proofs.Going.{runs_from, runs_of}
use Rattle.ssz_engine.proofs.LinesDone.{lines_all}
use Rattle.ssz_engine.proofs.Scripts.{script_done, script_stopped}
use Rattle.ssz_engine.proofs.engine.Engine.run_script.Goals as goal

pub returns-in-Ok-clause-ends : goal.returns-in-Ok-clause-ends
returns-in-Ok-clause-ends g c =
    let before : Scene = scene g.F.Files g.S.Sink g.H.PairHash c.args.self.now c.args.files.now
    c.args.out.now c.args.hasher.now in
    let after : Scene = scene g.F.Files g.S.Sink g.H.PairHash c.run_lines.new.engine
    c.run_lines.new.files c.run_lines.new.out c.run_lines.new.hasher in
    let events = ap (λ (lines : List Line). all_of 0 lines) (sym c.new-lines.ensures) in
    subst (λ (ended : Status). EndsScript g.H.PairHash.pair_of c.args.script.now ended before after)
    (sym c.status.ensures)
    (script_done g.H.PairHash.pair_of c.args.script.now before after c.run_lines.new.replies.refused
    (runs_from c.new-replies.ensures.refused (runs_of events c.in-Ok.ensures.runs)).goes)

pub returns-clause-ends : goal.returns-clause-ends
returns-clause-ends g c =
    let before : Scene = scene g.F.Files g.S.Sink g.H.PairHash c.args.self.now c.args.files.now
    c.args.out.now c.args.hasher.now in
    let after : Scene = scene g.F.Files g.S.Sink g.H.PairHash c.run_lines.new.engine
    c.run_lines.new.files c.run_lines.new.out c.run_lines.new.hasher in
    let events = ap (λ (lines : List Line). all_of 0 lines) (sym c.new-lines.ensures) in
    script_stopped g.H.PairHash.pair_of c.args.script.now before after c.run_lines.new.replies.refused
    c.in-Err.ended (runs_from c.new-replies.ensures.refused (runs_of events c.in-Err.ensures.runs)).goes

pub returns-in-Ok-clause-nodes : goal.returns-in-Ok-clause-nodes
returns-in-Ok-clause-nodes g c = λ none.
    c.in-Ok.ensures.runs.nodes (subst (λ (lines : List Line). NoneCompacts lines)
    (sym c.new-lines.ensures ∙ sym (lines_all 0 c.new-lines.result)) none)

pub returns-clause-nodes : goal.returns-clause-nodes
returns-clause-nodes g c = λ none.
    c.in-Err.ensures.runs.nodes (subst (λ (lines : List Line). NoneCompacts lines)
    (sym c.new-lines.ensures ∙ sym (lines_all 0 c.new-lines.result)) none)

pub returns-clause-fails : goal.returns-clause-fails
returns-clause-fails g c = λ all same.
    c.in-Err.ensures.runs.fails (subst (λ (lines : List Line).
    AreNamedReadable (g.F.Files.readable c.args.files.now) lines)
    (sym c.new-lines.ensures ∙ sym (lines_all 0 c.new-lines.result)) all) (ap Err same)
