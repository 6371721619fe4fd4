use Rattle.std.proofs.Common.{◌<◌, ℕ, length, drop, refl, ap, arith}
use Rattle.std.proofs.lemmas.Result.{err_from_is_err_and}
use Rattle.ssz_machine.specs.Plays.{next_of}
use Rattle.ssz_machine.proofs.Turns.{woven_turn}
use Rattle.ssz_engine.proofs.Going.{runs_of, some_left, some_none, some_stops, some_then, up_to_exit}
use Rattle.ssz_engine.proofs.turns.run_turns.Goals as goal

pub loop-number-init : goal.loop-number-init
loop-number-init g c = record {
  runs = some_none;
  count = refl;
  files_usable = c.requires.files_usable;
  sink_usable = c.requires.sink_usable;
}

pub returns-in_err-run_next-clause-runs : goal.returns-in_err-run_next-clause-runs
returns-in_err-run_next-clause-runs g c =
    let loop = c.loop-number in
    let w = c.from.result in
    let lines = c.index_mut-lines.result.now in
    let within : loop.number-index < length c.args.order.now = c.loop-number-test.true in
    let below = c.requires.known loop.number-index 0 within in
    let known : w < length loop.scripts.items =
    omega (arith, below, loop.invariant.count, loop.scripts.ok.0, c.from.ensures) in
    let turn = woven_turn c.args.order.now loop.number-index w loop.scripts.items lines
    (drop 1 lines) within c.from.ensures known c.index_mut-lines.ensures.value refl in
    let exit = err_from_is_err_and c.from_residual.result c.from_residual.ensures.1 in
    up_to_exit _ exit.1 exit.2
    (some_stops _ (some_left turn loop.invariant.runs)
    (runs_of (ap (λ (n : ℕ). next_of n lines) c.from.ensures) c.in_err-run_next.ensures.runs))

pub loop-number-preserved : goal.loop-number-preserved
loop-number-preserved g c =
    let loop = c.loop-number in
    let ran = c.in_ok-run_next.ensures in
    let w = c.from.result in
    let lines = c.index_mut-lines.result.now in
    let within : loop.number-index < length c.args.order.now = c.loop-number-test.true in
    let below = c.requires.known loop.number-index 0 within in
    let known : w < length loop.scripts.items =
    omega (arith, below, loop.invariant.count, loop.scripts.ok.0, c.from.ensures) in
    let turn = woven_turn c.args.order.now loop.number-index w loop.scripts.items lines
    c.run_next.new.lines within c.from.ensures known c.index_mut-lines.ensures.value ran.left in
    record {
      runs = some_then (some_left turn loop.invariant.runs)
          (runs_of (ap (λ (n : ℕ). next_of n lines) c.from.ensures) ran.runs);
      count = loop.invariant.count;
      files_usable = ran.files_usable;
      sink_usable = ran.sink_usable;
    }
