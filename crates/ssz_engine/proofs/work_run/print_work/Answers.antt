use Rattle.std.proofs.Common.{◌∷◌, List, ℕ, [], ◌∙◌, subst}
use Rattle.std.specs.Prelude.{Err, Ok, codes, decimal}
use Rattle.ssz_script.specs.Texts.{line}
use Rattle.ssz_outside.specs.Printed.{PrintsLine}
use Rattle.ssz_engine.proofs.WorkEnds.{lines_first, lines_second}
use Rattle.ssz_engine.proofs.work_run.print_work.Goals as goal

pub returns-in-Err-clause-ends : goal.returns-in-Err-clause-ends
returns-in-Err-clause-ends g c = λ held.
    let first : List ℕ = line (codes "work" ∷ decimal c.args.count ∷ decimal c.args.edits ∷ []) in
    lines_first (g.S.Sink.ample c.args.out.now) held first c.args.root.now c.in-Err.ended _ _
    (subst (λ (text : List ℕ). PrintsLine {T = Unit {0}} (Err c.in-Err.ended) text
    (g.S.Sink.pieces c.args.out.now) (g.S.Sink.pieces c.print_line.new.out))
    (c.as_bytes.ensures.value ∙ c.in-Ok.ensures) c.in-Err.ensures.pieces)

pub returns-clause-ends : goal.returns-clause-ends
returns-clause-ends g c = λ held.
    let first : List ℕ = line (codes "work" ∷ decimal c.args.count ∷ decimal c.args.edits ∷ []) in
    lines_second (g.S.Sink.ample c.args.out.now) held first c.args.root.now
    (g.S.Sink.pieces c.args.out.now)
    (g.S.Sink.pieces c.print_line.new.out) (g.S.Sink.pieces c.print_line-2.new.out)
    (subst (λ (text : List ℕ). PrintsLine {T = Unit {0}} (Ok tt) text
    (g.S.Sink.pieces c.args.out.now) (g.S.Sink.pieces c.print_line.new.out))
    (c.as_bytes.ensures.value ∙ c.in-Ok.ensures) c.in-Ok-print_line.ensures.pieces)
    c.in-Err-print_line.ended c.in-Err-print_line.ensures.pieces
