use Rattle.std.proofs.Common.{◌≡◌, ◌∷◌, List, Option, refl, ap, ◌∙◌, subst}
use Rattle.std.proofs.lemmas.Result.{err_from_is_err_and}
use Rattle.ssz_script.specs.declared.statements.ScriptStatement.{ScriptStatement}
use Rattle.ssz_script.specs.Next.{IsNext}
use Rattle.ssz_machine.specs.Machine.{Line}
use Rattle.ssz_machine.specs.Plays.{all_of}
use Rattle.ssz_engine.proofs.Going.{runs_exit, runs_memory, some_all, some_left, some_none, some_stops, some_then}
use Rattle.ssz_engine.proofs.run.run_lines.Goals as goal

pub loop-line-init : goal.loop-line-init
loop-line-init g c = record {
  runs = some_none;
  others = λ other name apart. refl;
  files_usable = c.requires.files_usable;
  sink_usable = c.requires.sink_usable;
}

pub returns-in-Err-clause-runs : goal.returns-in-Err-clause-runs
returns-in-Err-clause-runs g c = some_all c.loop-line.invariant.runs runs_memory

pub loop-line-preserved : goal.loop-line-preserved
loop-line-preserved g c =
    let line : Line = (c.in-Ok-Some.line.line, c.in-Ok-Some.line.statement) in
    let taken : c.loop-line.lines ≡ line ∷ c.next.new.self =
    subst (λ (next : Option ScriptStatement). IsNext next c.loop-line.lines c.next.new.self)
    c.in-Ok-Some.field-0-is c.in-Ok-Some.ensures.ok in
    let ran = c.in_ok-ran-in-Ok-Some.ensures in
    let so_far = c.loop-line.invariant in
    record {
      runs = some_then
          (some_left (ap (λ (lines : List Line). all_of c.args.writer.0 lines) taken) so_far.runs)
          ran.runs;
      others = λ other name apart. ran.others other name apart ∙ so_far.others other name apart;
      files_usable = ran.files_usable;
      sink_usable = ran.sink_usable;
    }

pub returns-in_err-ran-in-Ok-Some-clause-runs : goal.returns-in_err-ran-in-Ok-Some-clause-runs
returns-in_err-ran-in-Ok-Some-clause-runs g c =
    let line : Line = (c.in-Ok-Some.line.line, c.in-Ok-Some.line.statement) in
    let taken : c.loop-line.lines ≡ line ∷ c.next.new.self =
    subst (λ (next : Option ScriptStatement). IsNext next c.loop-line.lines c.next.new.self)
    c.in-Ok-Some.field-0-is c.in-Ok-Some.ensures.ok in
    let exit = err_from_is_err_and c.from_residual.result c.from_residual.ensures.1 in
    runs_exit exit.1 exit.2
    (some_stops (all_of c.args.writer.0 c.next.new.self)
    (some_left (ap (λ (lines : List Line). all_of c.args.writer.0 lines) taken)
    c.loop-line.invariant.runs)
    c.in_err-ran-in-Ok-Some.ensures.runs)
