use Rattle.std.proofs.Common.{◌∷◌, ◌≡◌, Option, sym, ◌∙◌, subst, arith}
use Rattle.std.specs.Prelude.{Result, Err}
use Rattle.std.proofs.lemmas.Result.{err_from_is_err_and}
use Rattle.ssz_outside.specs.declared.status.Status.{Status}
use Rattle.ssz_schema.specs.Unfolding.{type_of}
use Rattle.ssz_script.specs.Grammar.{partial_statements}
use Rattle.ssz_script.specs.Lines.{lines_said}
use Rattle.ssz_partial_script.specs.declared.line.PartialLine.{PartialLine}
use Rattle.ssz_partial_script.specs.Plays.{PartialScriptLine, partial_step, partial_play}
use Rattle.ssz_partial_script.specs.Runs.{PartialScene, Breaks, IsNextPartialLine, MakesPartialTurn, RunsAll, RunsTurn}
use Rattle.ssz_partial_script.proofs.Coming.{breaks_off, comes_on, stops_for_memory}
use Rattle.ssz_partial_script.proofs.run.run_lines.Goals as goal

pub returns-in-Err-clause-runs : goal.returns-in-Err-clause-runs
returns-in-Err-clause-runs g c =
    stops_for_memory g.H.PairHash.pair_of (type_of c.args.schema.now c.args.partial.now.id)
    (lines_said partial_statements c.args.lines.now)
    (lines_said partial_statements c.loop-line.lines) _ _
    c.loop-line.invariant.comes

pub loop-line-preserved : goal.loop-line-preserved
loop-line-preserved g c =
    let t = type_of c.args.schema.now c.args.partial.now.id in
    let lines = lines_said partial_statements c.args.lines.now in
    let left = lines_said partial_statements c.loop-line.lines in
    let before : PartialScene = record {
      known = c.args.partial.now.proof;
      hashed = g.H.PairHash.pairs c.args.hasher.now;
      pieces = g.S.Sink.pieces c.args.out.now;
      ample = g.S.Sink.ample c.args.out.now;
      refused = c.args.replies.now.refused;
    } in
    let mid : PartialScene = record {
      known = c.loop-line.partial.proof;
      hashed = g.H.PairHash.pairs c.loop-line.hasher;
      pieces = g.S.Sink.pieces c.loop-line.out;
      ample = g.S.Sink.ample c.loop-line.out;
      refused = c.loop-line.replies.refused;
    } in
    let after : PartialScene = record {
      known = c.run_line-ran.new.partial.proof;
      hashed = g.H.PairHash.pairs c.run_line-ran.new.hasher;
      pieces = g.S.Sink.pieces c.run_line-ran.new.out;
      ample = g.S.Sink.ample c.run_line-ran.new.out;
      refused = c.run_line-ran.new.replies.refused;
    } in
    let line : PartialScriptLine = (c.in-Ok-Some.line.number, c.in-Ok-Some.line.statement) in
    let more = lines_said partial_statements c.next_line.new.lines in
    let taken : left ≡ line ∷ more =
    subst (λ (next : Option PartialLine). IsNextPartialLine next left more) c.in-Ok-Some.field-0-is
    c.in-Ok-Some.ensures in
    let pair_of = g.H.PairHash.pair_of in
    let so_far = c.loop-line.invariant in
    let ran = c.in_ok-ran-in-Ok-Some.ensures in
    let makes : MakesPartialTurn (partial_step pair_of t mid.known line) mid after =
    subst (λ id. MakesPartialTurn
    (partial_step pair_of (type_of c.args.schema.now id) mid.known line) mid after)
    so_far.same ran.runs in
    record {
      comes = comes_on pair_of t lines left before mid so_far.comes line more taken after makes
          ran.pairs;
      same = ran.same ∙ so_far.same;
      rises = omega (arith, so_far.rises, ran.rises);
      sinks = ran.counts ∙ so_far.sinks;
      usable = ran.usable;
    }

pub returns-in_err-ran-in-Ok-Some-clause-runs : goal.returns-in_err-ran-in-Ok-Some-clause-runs
returns-in_err-ran-in-Ok-Some-clause-runs g c =
    let t = type_of c.args.schema.now c.args.partial.now.id in
    let lines = lines_said partial_statements c.args.lines.now in
    let left = lines_said partial_statements c.loop-line.lines in
    let before : PartialScene = record {
      known = c.args.partial.now.proof;
      hashed = g.H.PairHash.pairs c.args.hasher.now;
      pieces = g.S.Sink.pieces c.args.out.now;
      ample = g.S.Sink.ample c.args.out.now;
      refused = c.args.replies.now.refused;
    } in
    let mid : PartialScene = record {
      known = c.loop-line.partial.proof;
      hashed = g.H.PairHash.pairs c.loop-line.hasher;
      pieces = g.S.Sink.pieces c.loop-line.out;
      ample = g.S.Sink.ample c.loop-line.out;
      refused = c.loop-line.replies.refused;
    } in
    let after : PartialScene = record {
      known = c.run_line-ran.new.partial.proof;
      hashed = g.H.PairHash.pairs c.run_line-ran.new.hasher;
      pieces = g.S.Sink.pieces c.run_line-ran.new.out;
      ample = g.S.Sink.ample c.run_line-ran.new.out;
      refused = c.run_line-ran.new.replies.refused;
    } in
    let line : PartialScriptLine = (c.in-Ok-Some.line.number, c.in-Ok-Some.line.statement) in
    let more = lines_said partial_statements c.next_line.new.lines in
    let taken : left ≡ line ∷ more =
    subst (λ (next : Option PartialLine). IsNextPartialLine next left more) c.in-Ok-Some.field-0-is
    c.in-Ok-Some.ensures in
    let pair_of = g.H.PairHash.pair_of in
    let so_far = c.loop-line.invariant in
    let exit = err_from_is_err_and c.from_residual.result c.from_residual.ensures.1 in
    let breaks : Breaks (partial_step pair_of t mid.known line) exit.0 mid after =
    subst (λ (ended : Status).
    Breaks (partial_step pair_of t mid.known line) ended mid after)
    (sym exit.2)
    (subst (λ id. RunsTurn (partial_step pair_of (type_of c.args.schema.now id) mid.known line)
    (Err c.in_err-ran-in-Ok-Some.field-0.0) mid after) so_far.same
    c.in_err-ran-in-Ok-Some.ensures.runs) in
    subst (λ (r : Result (Unit {0}) Status).
    RunsAll (partial_play pair_of t before.known lines) r before
    after) (sym exit.1)
    (breaks_off pair_of t lines left before mid so_far.comes line more taken after exit.0 breaks
    c.in_err-ran-in-Ok-Some.ensures.pairs)
