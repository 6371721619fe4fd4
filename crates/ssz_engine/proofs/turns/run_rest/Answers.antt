use Rattle.std.proofs.Common.{◌≡◌, ◌<◌, ◌+◌, ◌∙◌, ℕ, List, length, set, drop, get_or, sym, ap, subst, arith}
use Rattle.std.proofs.lemmas.Result.{err_from_is_err_and}
use Rattle.ssz_machine.specs.Machine.{Line}
use Rattle.ssz_machine.specs.Plays.{rest_from}
use Rattle.ssz_machine.proofs.Turns.{rest_turn}
use Rattle.ssz_engine.proofs.Going.{runs_exit, some_left, some_none, some_stops, some_then}
use Rattle.ssz_engine.proofs.LinesDone.{drop_set}
use Rattle.ssz_engine.proofs.turns.run_rest.Goals as goal

pub loop-writer-init : goal.loop-writer-init
loop-writer-init g c = record {
  few = c.requires.few;
  within = omega arith;
  runs = some_none;
  files_usable = c.requires.files_usable;
  sink_usable = c.requires.sink_usable;
}

pub returns-in_err-run_lines : goal.returns-in_err-run_lines
returns-in_err-run_lines g c =
    let loop = c.loop-writer in
    let w = loop.number in
    let scripts = loop.scripts.items in
    let lines = c.index_mut-lines.result.now in
    let read : lines ≡ get_or scripts w lines =
    subst (λ i. lines ≡ get_or scripts i lines) c.from-in-loop-writer.ensures
    c.index_mut-lines.ensures.value in
    let known : w < length scripts = omega (arith, loop.scripts.ok.0) in
    let turn = rest_turn w w scripts lines known read in
    let exit = err_from_is_err_and c.from_residual.result c.from_residual.ensures.1 in
    runs_exit exit.1 exit.2
    (some_stops _ (some_left turn loop.invariant.runs) c.in_err-run_lines.ensures.runs)

pub loop-writer-preserved : goal.loop-writer-preserved
loop-writer-preserved g c =
    let loop = c.loop-writer in
    let w = loop.number in
    let scripts = loop.scripts.items in
    let lines = c.index_mut-lines.result.now in
    let new = c.run_lines.new.lines in
    let same : c.from-in-loop-writer.result ≡ w = c.from-in-loop-writer.ensures in
    let read : lines ≡ get_or scripts w lines =
    subst (λ i. lines ≡ get_or scripts i lines) same c.index_mut-lines.ensures.value in
    let known : w < length scripts = omega (arith, loop.scripts.ok.0) in
    let turn = rest_turn w w scripts lines known read in
    let left : rest_from (w + 1) (drop (w + 1) scripts)
    ≡ rest_from (w + 1) (drop (w + 1) (set scripts c.from-in-loop-writer.result new)) =
    ap (λ (rest : List (List Line)). rest_from (w + 1) rest) (sym (drop_set scripts w new)
    ∙ ap (λ (i : ℕ). drop (w + 1) (set scripts i new)) (sym {A = ℕ} same)) in
    record {
      few = loop.invariant.few;
      within = omega arith;
      runs = some_left left
          (some_then (some_left turn loop.invariant.runs) c.in_ok-run_lines.ensures.runs);
      files_usable = c.in_ok-run_lines.ensures.files_usable;
      sink_usable = c.in_ok-run_lines.ensures.sink_usable;
    }
