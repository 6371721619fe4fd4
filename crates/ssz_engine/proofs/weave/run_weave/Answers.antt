use Rattle.std.proofs.Common.{◌≡◌, List, length, map, sym, ap, arith}
use Rattle.std.proofs.lemmas.Result.{err_from_is_err_and}
use Rattle.ssz_script.specs.Lines.{statements_in}
use Rattle.ssz_machine.specs.Machine.{Line}
use Rattle.ssz_machine.specs.Plays.{woven}
use Rattle.ssz_engine.proofs.Going.{runs_exit, runs_memory, runs_of, runs_stops, runs_then, some_all}
use Rattle.ssz_engine.proofs.weave.run_weave.Goals as goal

pub returns-in_default : goal.returns-in_default
returns-in_default g c = runs_memory

pub returns-in_err-run_base : goal.returns-in_err-run_base
returns-in_err-run_base g c =
    let scripts = map statements_in c.args.scripts.now in
    let count : length scripts ≡ c.len.result =
    (let same = ap length c.in-Ok.ensures in
    omega (arith, same, c.len.ensures, c.in-Ok.lines.ok.0)) in
    let exit = err_from_is_err_and c.from_residual.result c.from_residual.ensures.1 in
    runs_exit exit.1 exit.2 (runs_stops (woven c.args.order.now scripts)
    (c.in_err-run_base.ensures.runs scripts count))

pub returns-in_err-run_turns : goal.returns-in_err-run_turns
returns-in_err-run_turns g c =
    let scripts = map statements_in c.args.scripts.now in
    let count : length scripts ≡ c.len.result =
    (let same = ap length c.in-Ok.ensures in
    omega (arith, same, c.len.ensures, c.in-Ok.lines.ok.0)) in
    let exit = err_from_is_err_and c.from_residual-in_err-run_turns.result
    c.from_residual-in_err-run_turns.ensures.1 in
    runs_exit exit.1 exit.2
    (runs_then (c.in_ok-run_base.ensures.runs scripts count)
    (runs_of (ap (λ (left : List (List Line)). woven c.args.order.now left) (sym c.in-Ok.ensures))
    c.in_err-run_turns.ensures.runs))

pub returns : goal.returns
returns g c =
    let scripts = map statements_in c.args.scripts.now in
    let count : length scripts ≡ c.len.result =
    (let same = ap length c.in-Ok.ensures in
    omega (arith, same, c.len.ensures, c.in-Ok.lines.ok.0)) in
    runs_then (c.in_ok-run_base.ensures.runs scripts count)
    (runs_of (ap (λ (left : List (List Line)). woven c.args.order.now left) (sym c.in-Ok.ensures))
    (some_all c.in_ok-run_turns.ensures.runs c.run_rest.ensures))
