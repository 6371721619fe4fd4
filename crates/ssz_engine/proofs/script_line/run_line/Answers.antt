use Rattle.std.proofs.Common.{◌≡◌, ◌∷◌, ◌++◌, ◌∙◌, [], Bool, List, false, ℕ, refl, sym, ap, ap₂, subst}
use Rattle.std.specs.Prelude.{Result, Ok, Err, OnOk, is_err, ◌||◌}
use Rattle.ssz_outside.specs.declared.status.Status.{Status}
use Rattle.ssz_machine.specs.Machine.{Line}
use Rattle.ssz_machine.specs.Plays.{line_prefix, says}
use Rattle.ssz_outside.specs.Printed.{PrintsLine}
use Rattle.ssz_engine.specs.Points.{Runs}
use Rattle.ssz_engine.specs.Steps.{is_refusal}
use Rattle.ssz_engine.specs.Scripts.{Scene, scene}
use Rattle.ssz_engine.proofs.Going.{runs_memory}
use Rattle.ssz_engine.proofs.LineSteps.{print_runs, stop_runs}
use Rattle.ssz_engine.proofs.script_line.run_line.Goals as goal

-- what is so of an answer that is no error
ok_says : {T E : Type 0} (r : Result T E) (P : Type 0) → OnOk r P → is_err r ≡ false → P
ok_says (Ok x) P holds no_err = holds
ok_says (Err e) P holds no_err = cc

pub returns-then-is_err-clause-runs : goal.returns-then-is_err-clause-runs
returns-then-is_err-clause-runs g c = runs_memory

pub returns-in-Ok-clause-runs : goal.returns-in-Ok-clause-runs
returns-in-Ok-clause-runs g c =
    let before : Scene = scene g.F.Files g.S.Sink g.H.PairHash c.args.engine.now c.args.files.now
    c.args.out.now c.args.hasher.now in
    let after : Scene = scene g.F.Files g.S.Sink g.H.PairHash c.reply_to.new.engine
    c.reply_to.new.files c.print_line.new.out c.reply_to.new.hasher in
    let line : Line = (c.args.line.now.line, c.args.line.now.statement) in
    let was : Bool = c.args.replies.now.refused in
    let prints = subst (λ (piece : List ℕ).
    PrintsLine c.print_line.result piece before.pieces after.pieces)
    c.as_slice.ensures.value c.print_line.ensures.pieces in
    let made = ok_says c.push_front.result
    (c.push_front.new.out.items
    ≡ c.begin.new.self.text.items ++ line_prefix c.args.place c.args.writer.0)
    c.push_front.ensures (sym c.is_err.ensures.value ∙ c.if-is_err.false) in
    let fronted : c.push_front.new.out.items ≡ line_prefix c.args.place c.args.writer.0 =
    made ∙ ap (λ text. text ++ line_prefix c.args.place c.args.writer.0) c.begin.ensures.text in
    let now : (c.is_refusal.result || c.begin.new.self.refused)
    ≡ (is_refusal c.in-Ok.made || was) =
    ap₂ (λ a b. a || b) c.is_refusal.ensures c.begin.ensures.refused in
    subst (λ (b : Bool). Runs g.H.PairHash.pair_of c.args.place (says c.args.writer.0 line ∷ [])
    c.print_line.result was b before after) (sym now)
    (print_runs g.H.PairHash.pair_of c.args.place c.args.writer.0 line was before
    after c.push_front.new.out.items c.reply_to.new.out.items c.print_line.result c.in-Ok.made
    c.in-Ok.ensures.tries c.in-Ok.ensures.does c.in-Ok.ensures.each_once
    fronted prints c.print_line.ensures.counts
    c.print_line.ensures.stops c.print_line.ensures.memory c.print_line.ensures.ample)

pub returns-in-Err-clause-runs : goal.returns-in-Err-clause-runs
returns-in-Err-clause-runs g c =
    let before : Scene = scene g.F.Files g.S.Sink g.H.PairHash c.args.engine.now c.args.files.now
    c.args.out.now c.args.hasher.now in
    let after : Scene = scene g.F.Files g.S.Sink g.H.PairHash c.reply_to.new.engine
    c.reply_to.new.files c.args.out.now c.reply_to.new.hasher in
    let line : Line = (c.args.line.now.line, c.args.line.now.statement) in
    let was : Bool = c.args.replies.now.refused in
    subst (λ (ended : Status). Runs g.H.PairHash.pair_of c.args.place
    (says c.args.writer.0 line ∷ []) (Err ended) was c.begin.new.self.refused before after)
    (sym c.status_of.ensures.value)
    (stop_runs g.H.PairHash.pair_of c.args.place c.args.writer.0 line was before
    after c.push_front.new.out.items c.reply_to.new.out.items c.in-Err.fault c.in-Err.ensures.tries
    c.in-Err.ensures.does c.in-Err.ensures.each_once
    refl refl c.reply_to.ensures.hashed c.in-Err.ensures.stays)
