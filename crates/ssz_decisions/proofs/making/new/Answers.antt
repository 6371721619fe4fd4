use Rattle.std.proofs.Common.{sym, subst, arith}
use Rattle.ssz_schema.specs.Unfolding.{type_of}
use Rattle.ssz_value.specs.Defaults.{default_of}
use Rattle.ssz_value.specs.Pairs.{pairs}
use Rattle.ssz_value.proofs.SizeLaw.{default_fits}
use Rattle.ssz_tree.proofs.Sharing.{shared_few}
use Rattle.ssz_machine.specs.Making.{new}
use Rattle.ssz_machine.specs.Rules.{makes}
use Rattle.ssz_machine.specs.Changes.{puts}
use Rattle.ssz_decisions.specs.Content.{EngineContent}
use Rattle.ssz_decisions.specs.Decisions.{AnswersAnew}
use Rattle.ssz_decisions.specs.Loading.{IsFree}
use Rattle.ssz_decisions.specs.declared.decision.Decision.TheVariants.{Made}
use Rattle.ssz_decisions.proofs.Brought.{made-answers, refused-anew, free-row, taken-row, over}
use Rattle.ssz_decisions.proofs.making.new.Goals as goal

pub returns-clause-answers : goal.returns-clause-answers
returns-clause-answers g c =
    let pair_of = g.H.PairHash.pair_of in
    let schema = c.store.inside.schema in
    let entries = c.store.inside.versions.entries in
    let id = c.in-Ok.id in
    let type = type_of schema id in
    let v = c.args.v in
    let w = c.args.writer.0 in
    let arena = c.build_default.new.arena in
    let node = c.in_ok-node.node in
    let seen : EngineContent = over schema c.store.inside.max entries c.store.inside.base
    c.store.inside.arena in
    let free : IsFree seen w v.now c.args.t.now id
    = subst (λ (s : EngineContent). IsFree s w v.now c.args.t.now id) (sym c.store.view_is)
    c.in-Ok.ensures.ok in
    subst (λ (s : EngineContent). AnswersAnew pair_of
    (λ rules versions. new rules versions v.now c.args.t.now) (puts v.now) w s
    (over schema c.store.inside.max entries c.store.inside.base arena)
    (Made v id node c.in_ok-room.room))
    c.store.view_is
    (made-answers pair_of schema c.store.inside.max entries c.store.inside.base
    c.store.inside.arena arena (λ rules versions. new rules versions v.now c.args.t.now) w v
    id node c.in_ok-room.room (default_of type) _ _ free.known
    (default_fits schema.format type c.ty-legal.ensures.legal)
    c.in_ok-node.ensures.part c.in_ok-node.ensures.adds (omega arith)
    (let few = shared_few schema.format type c.ty-legal.ensures.legal in omega arith) free.free
    (λ versions stand. free-row pair_of seen w v.now c.args.t.now versions stand id
    (λ t. makes versions v.now t (default_of t) (pairs t (default_of t))) free))

pub returns-in-Err-clause-answers : goal.returns-in-Err-clause-answers
returns-in-Err-clause-answers g c =
    refused-anew g.H.PairHash.pair_of (λ rules versions. new rules versions c.args.v.now
    c.args.t.now)
    (puts c.args.v.now) c.args.writer.0 c.args.store.now c.in-Err.code
    (λ versions stand. taken-row g.H.PairHash.pair_of c.args.store.now c.args.writer.0
    c.args.v.now c.args.t.now versions stand c.in-Err.code
    (λ t. makes versions c.args.v.now t (default_of t) (pairs t (default_of t)))
    c.in-Err.ensures.err)
