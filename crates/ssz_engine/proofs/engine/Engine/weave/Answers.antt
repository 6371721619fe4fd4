use Rattle.std.proofs.Common.{map, sym, ap, subst}
use Rattle.std.specs.Prelude.{Err}
use Rattle.ssz_outside.specs.declared.status.Status.{Status}
use Rattle.ssz_script.specs.Lines.{statements_in}
use Rattle.ssz_engine.specs.Compacting.{NoneCompacts}
use Rattle.ssz_outside.specs.Printed.{finished_status}
use Rattle.ssz_engine.specs.Scripts.{AreNamedReadable, Scene, scene}
use Rattle.ssz_engine.specs.Weaves.{EndsWeave, IsolatesWriters}
use Rattle.ssz_engine.proofs.Going.{runs_from}
use Rattle.ssz_engine.proofs.Isolating.{ends_isolated}
use Rattle.ssz_engine.proofs.LinesDone.{named_of_each, none_of_each, of_weaving}
use Rattle.ssz_engine.proofs.Weaving.{weave_done, weave_stopped}
use Rattle.ssz_engine.proofs.engine.Engine.weave.Goals as goal

pub returns-in-Ok-clause-ends : goal.returns-in-Ok-clause-ends
returns-in-Ok-clause-ends g c =
    let before : Scene = scene g.F.Files g.S.Sink g.H.PairHash c.args.self.now c.args.files.now
    c.args.out.now c.args.hasher.now in
    let after : Scene = scene g.F.Files g.S.Sink g.H.PairHash c.run_weave.new.engine
    c.run_weave.new.files c.run_weave.new.out c.run_weave.new.hasher in
    subst (λ (ended : Status). EndsWeave g.H.PairHash.pair_of c.args.base.now c.args.order.now
    c.args.scripts.now ended before after) (sym c.status.ensures)
    (weave_done g.H.PairHash.pair_of c.args.base.now c.args.order.now c.args.scripts.now before
    after c.run_weave.new.replies.refused (runs_from c.new-replies.ensures.refused c.in-Ok.ensures).goes)

pub returns-in-Ok-clause-isolated : goal.returns-in-Ok-clause-isolated
returns-in-Ok-clause-isolated g c =
    let before : Scene = scene g.F.Files g.S.Sink g.H.PairHash c.args.self.now c.args.files.now
    c.args.out.now c.args.hasher.now in
    let after : Scene = scene g.F.Files g.S.Sink g.H.PairHash c.run_weave.new.engine
    c.run_weave.new.files c.run_weave.new.out c.run_weave.new.hasher in
    subst (λ (ended : Status). IsolatesWriters g.H.PairHash.pair_of c.args.base.now
    c.args.scripts.now ended before after) (sym c.status.ensures)
    (ends_isolated g.H.PairHash.pair_of c.args.base.now c.args.order.now c.args.scripts.now
    (finished_status c.run_weave.new.replies.refused) before after c.requires.few
    (weave_done g.H.PairHash.pair_of c.args.base.now c.args.order.now c.args.scripts.now before
    after c.run_weave.new.replies.refused (runs_from c.new-replies.ensures.refused c.in-Ok.ensures).goes))

pub returns-clause-ends : goal.returns-clause-ends
returns-clause-ends g c =
    let before : Scene = scene g.F.Files g.S.Sink g.H.PairHash c.args.self.now c.args.files.now
    c.args.out.now c.args.hasher.now in
    let after : Scene = scene g.F.Files g.S.Sink g.H.PairHash c.run_weave.new.engine
    c.run_weave.new.files c.run_weave.new.out c.run_weave.new.hasher in
    weave_stopped g.H.PairHash.pair_of c.args.base.now c.args.order.now c.args.scripts.now before
    after c.run_weave.new.replies.refused c.in-Err.ended (runs_from c.new-replies.ensures.refused c.in-Err.ensures).goes

pub returns-clause-isolated : goal.returns-clause-isolated
returns-clause-isolated g c =
    let before : Scene = scene g.F.Files g.S.Sink g.H.PairHash c.args.self.now c.args.files.now
    c.args.out.now c.args.hasher.now in
    let after : Scene = scene g.F.Files g.S.Sink g.H.PairHash c.run_weave.new.engine
    c.run_weave.new.files c.run_weave.new.out c.run_weave.new.hasher in
    ends_isolated g.H.PairHash.pair_of c.args.base.now c.args.order.now c.args.scripts.now
    c.in-Err.ended before after c.requires.few
    (weave_stopped g.H.PairHash.pair_of c.args.base.now c.args.order.now c.args.scripts.now
    before after c.run_weave.new.replies.refused c.in-Err.ended (runs_from c.new-replies.ensures.refused c.in-Err.ensures).goes)

pub returns-in-Ok-clause-nodes : goal.returns-in-Ok-clause-nodes
returns-in-Ok-clause-nodes g c = λ none.
    c.in-Ok.ensures.nodes (of_weaving NoneCompacts none_of_each (statements_in c.args.base.now)
    c.args.order.now (map statements_in c.args.scripts.now) none)

pub returns-clause-nodes : goal.returns-clause-nodes
returns-clause-nodes g c = λ none.
    c.in-Err.ensures.nodes (of_weaving NoneCompacts none_of_each (statements_in c.args.base.now)
    c.args.order.now (map statements_in c.args.scripts.now) none)

pub returns-clause-fails : goal.returns-clause-fails
returns-clause-fails g c = λ all same.
    let readable = g.F.Files.readable c.args.files.now in
    c.in-Err.ensures.fails (of_weaving (AreNamedReadable readable) (named_of_each readable)
    (statements_in c.args.base.now) c.args.order.now (map statements_in c.args.scripts.now) all)
    (ap Err same)
