use Rattle.std.proofs.Common.{◌≡◌, ◌<◌, None, length, sym, subst, ◌∙◌, arith}
use Rattle.ssz_schema.specs.Unfolding.{type_of}
use Rattle.ssz_value.specs.Faults.{first_fault}
use Rattle.ssz_value.specs.Reading.{value_in}
use Rattle.ssz_value.proofs.ExactLaw.{faultless_is_read}
use Rattle.ssz_tree.proofs.FewNodes.{few_nodes}
use Rattle.ssz_versions.specs.Content.{held_at}
use Rattle.ssz_machine.specs.Changes.{puts}
use Rattle.ssz_decisions.specs.Content.{EngineContent}
use Rattle.ssz_decisions.specs.Decisions.{AnswersAnew}
use Rattle.ssz_decisions.specs.Loading.{loaded_row}
use Rattle.ssz_decisions.specs.declared.decision.Decision.TheVariants.{Made}
use Rattle.ssz_decisions.proofs.Brought.{made-answers, brought-row, over}
use Rattle.ssz_decisions.proofs.making.bring.Goals as goal

pub returns-in_ok-node-in-None-clause-answers : goal.returns-in_ok-node-in-None-clause-answers
returns-in_ok-node-in-None-clause-answers g c =
    let schema = c.store.inside.schema in
    let entries = c.store.inside.versions.entries in
    let t = type_of schema c.args.id in
    let bytes = c.args.bytes.now in
    let v = c.args.v in
    let w = c.args.writer.0 in
    let arena = c.build_bytes.new.arena in
    let node = c.in_ok-node-in-None.node in
    let room = c.in_ok-room-in-None.room in
    let none : first_fault t 0 bytes ≡ None = sym c.check.ensures ∙ c.in-None.is in
    let fits = (faultless_is_read schema.format t bytes c.ty-legal.ensures.legal
    c.as_bytes-bytes.ensures.bytes c.requires.short none).fits in
    let known : c.args.id < length schema.trees
    = subst (λ (s : EngineContent). c.args.id < length s.types.trees) (sym c.store.view_is)
    c.requires.known in
    let free : held_at entries w v.now ≡ None
    = subst (λ (s : EngineContent). held_at s.entries w v.now ≡ None) (sym c.store.view_is)
    c.requires.free in
    subst (λ (seen : EngineContent). AnswersAnew g.H.PairHash.pair_of
    (λ rules versions. loaded_row versions v.now (type_of seen.types c.args.id) bytes)
    (puts v.now) w seen
    (over schema c.store.inside.max entries c.store.inside.base arena)
    (Made v c.args.id node room)) c.store.view_is
    (made-answers g.H.PairHash.pair_of schema c.store.inside.max entries c.store.inside.base
    c.store.inside.arena arena (λ rules versions. loaded_row versions v.now t bytes) w v
    c.args.id node room (value_in t bytes) _ _ known fits c.in_ok-node-in-None.ensures.part
    c.in_ok-node-in-None.ensures.adds (omega arith) (few_nodes t (value_in t bytes) fits) free
    (λ versions free. brought-row versions v.now t bytes none))
