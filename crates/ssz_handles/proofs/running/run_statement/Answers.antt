use Rattle.std.proofs.Common.{◌≡◌, List, ℕ, Some, sym, subst}
use Rattle.std.specs.Prelude.{IfOk}
use Rattle.ssz_chunk.specs.Chunk.{sha_pair}
use Rattle.ssz_machine.specs.declared.place.Place.TheVariants as place
use Rattle.ssz_engine.specs.Steps.{DoesStep}
use Rattle.ssz_handles.specs.Leaving.{SaidLeaves}
use Rattle.ssz_handles.specs.Scene.{LineScene, no_files}
use Rattle.ssz_handles.specs.Session.{StatementDoes}
use Rattle.ssz_handles.proofs.LineLeaving.{effects-of, entries-kept, none-compacted, step-leaves}
use Rattle.ssz_handles.proofs.LineSteps.{step-does}
use Rattle.ssz_handles.proofs.running.run_statement.Goals as goal

pub returns-clause-does : goal.returns-clause-does
returns-clause-does c =
    let scene : LineScene = record {
      engine = c.args.engine.now;
      hashed = c.args.hasher.now;
      line = c.args.line;
    } in
    let step = c.step-stepped.ensures in
    subst (λ it. StatementDoes it c.args.statement.now scene c.step-stepped.new.self
    c.step-stepped.new.out.items)
    (sym c.ran_of.ensures)
    (step-does scene c.args.statement.now c.step-stepped.new.self c.step-stepped.new.hasher
    c.args.reply.now.items c.step-stepped.new.out.items c.requires c.step-stepped.result step.ok
    step.stops
    step.err step.keeps step.nodes)

pub returns-clause-leaves : goal.returns-clause-leaves
returns-clause-leaves c =
    let scene : LineScene = record {
      engine = c.args.engine.now;
      hashed = c.args.hasher.now;
      line = c.args.line;
    } in
    let step = c.step-stepped.ensures in
    let statement = c.args.statement.now in
    let result = c.step-stepped.result in
    let new = c.step-stepped.new.self in
    let after = c.step-stepped.new.hasher in
    let reply = c.step-stepped.new.out.items in
    let before = c.args.reply.now.items in
    subst (λ it. SaidLeaves it statement scene new after reply)
    (sym c.ran_of.ensures)
    (step-leaves statement result scene new after reply (record {
      each = record {
        nodes = λ is. step.nodes (none-compacted statement result is);
        whole = step.whole;
        entries = entries-kept result scene.engine new (reply ≡ before) step.err;
        intact = step.intact;
        finds = step.found;
        rises = step.rises;
        most = step.hashed;
        due = step.due;
        some = step.some;
        still = step.still;
      };
      compacts = step.compacted;
      does = subst (λ (front : List ℕ). IfOk result (DoesStep sha_pair place.Run 0 scene.line
          statement scene.engine new scene.hashed after (Some no_files) (Some no_files) front
          reply)) c.requires step.ok;
      effects = effects-of statement scene.engine new result step.entries step.forks step.upgrades
          step.roots step.tops;
      refused = step.refused;
    }))
