use Rattle.std.proofs.Common.{◌≡◌, ◌<◌, ◌∙◌, None, length, sym, ap, subst, arith}
use Rattle.ssz_schema.specs.Unfolding.{type_of}
use Rattle.ssz_value.specs.Pairs.{pairs}
use Rattle.ssz_value.specs.Standing.{value_of}
use Rattle.ssz_value_json.specs.Faults.{value_spelled}
use Rattle.ssz_tree.proofs.FewNodes.{few_nodes}
use Rattle.ssz_value_json.proofs.Exact.{spelled_is}
use Rattle.ssz_versions.specs.Content.{held_at}
use Rattle.ssz_machine.specs.Changes.{puts}
use Rattle.ssz_machine.specs.Rules.{makes}
use Rattle.ssz_decisions.specs.Content.{EngineContent}
use Rattle.ssz_decisions.specs.Decisions.{AnswersAnew}
use Rattle.ssz_decisions.specs.Loading.{brought_as}
use Rattle.ssz_decisions.specs.declared.decision.Decision.TheVariants.{Made}
use Rattle.ssz_decisions.specs.declared.load_form.Form.TheVariants.{Json}
use Rattle.ssz_decisions.proofs.Brought.{made-answers, json-row, over}
use Rattle.ssz_decisions.proofs.loading.bring_json.Goals as goal

pub returns-clause-answers : goal.returns-clause-answers
returns-clause-answers g c = λ writer none.
    let schema = c.store.inside.schema in
    let entries = c.store.inside.versions.entries in
    let t = type_of schema c.args.id in
    let text = c.args.text.now in
    let v = c.args.v in
    let arena = c.build.new.arena in
    let node = c.in_ok-node.node in
    let room = c.in_ok-room.room in
    let value = value_of c.in-Ok.value in
    let answer = c.in-Ok.ensures.answer in
    let fits = c.in-Ok.ensures.fits.fits in
    let is : value_spelled t text ≡ value
    = spelled_is schema.format t text value c.ty-legal.ensures.legal answer.0
    (record { fits = fits; text = answer.1 }) in
    let known : c.args.id < length schema.trees
    = subst (λ (s : EngineContent). c.args.id < length s.types.trees) (sym c.store.view_is)
    c.requires in
    let free : held_at entries writer v.now ≡ None
    = subst (λ (s : EngineContent). held_at s.entries writer v.now ≡ None)
    (sym c.store.view_is) none in
    subst (λ (seen : EngineContent). AnswersAnew g.H.PairHash.pair_of
    (λ rules versions. brought_as Json versions v.now (type_of seen.types c.args.id) text)
    (puts v.now) writer seen
    (over schema c.store.inside.max entries c.store.inside.base arena)
    (Made v c.args.id node room)) c.store.view_is
    (made-answers g.H.PairHash.pair_of schema c.store.inside.max entries c.store.inside.base
    c.store.inside.arena arena (λ rules versions. brought_as Json versions v.now t text) writer v
    c.args.id node room value _ _ known fits c.in_ok-node.ensures.part
    c.in_ok-node.ensures.adds (omega arith) (few_nodes t value fits) free
    (λ versions free. json-row versions v.now t text answer.0
    ∙ ap (λ x. makes versions v.now t x (pairs t x)) is))
