use Rattle.std.proofs.Common.{Some, ap, ◌∙◌, sym, subst, arith}
use Rattle.ssz_handles.specs.Leaving.{LineLeaves}
use Rattle.ssz_handles.specs.Scene.{LineScene}
use Rattle.ssz_handles.proofs.LineSteps.{said-does}
use Rattle.ssz_handles.proofs.running.run_text.Goals as goal

pub returns-in-Ok-Some-clause-does : goal.returns-in-Ok-Some-clause-does
returns-in-Ok-Some-clause-does c =
    let scene : LineScene = record {
      engine = c.args.engine.now;
      hashed = c.args.hasher.now;
      line = c.args.line;
    } in
    said-does c.run_statement.result c.args.text.now scene c.run_statement.new.engine
    c.run_statement.new.reply.items (omega arith) (
      c.in-Ok-Some.statement,
      c.in-Ok-Some.ensures ∙ ap Some c.in-Ok-Some.field-0-is,
      c.run_statement.ensures.does,
    )

pub returns-in-Ok-Some-clause-leaves : goal.returns-in-Ok-Some-clause-leaves
returns-in-Ok-Some-clause-leaves c =
    let scene : LineScene = record {
      engine = c.args.engine.now;
      hashed = c.args.hasher.now;
      line = c.args.line;
    } in
    subst (λ said. LineLeaves said c.run_statement.result scene c.run_statement.new.engine
    c.run_statement.new.hasher c.run_statement.new.reply.items)
    (sym (c.in-Ok-Some.ensures ∙ ap Some c.in-Ok-Some.field-0-is))
    c.run_statement.ensures.leaves
