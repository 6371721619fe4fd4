use Rattle.std.proofs.Common.{◌≡◌, ◌∙◌, Some, None, Err, Result, is_some, refl, sym, ap, subst}
use Rattle.std.specs.Prelude.{OnErr}
use Rattle.ssz_schema.specs.Unfolding.{type_number, type_of}
use Rattle.ssz_value.specs.Values.{SszValue}
use Rattle.ssz_arena.specs.declared.node.NodeId.{NodeId}
use Rattle.ssz_arena.specs.Content.{tree_of}
use Rattle.ssz_places.specs.PlaceLaws.{IsTreeOf}
use Rattle.ssz_forms.specs.declared.upgrade_fault.UpgradeFault.{UpgradeFault}
use Rattle.ssz_forms.specs.declared.upgrade_fault.UpgradeFault.TheVariants.{NotContainer}
use Rattle.ssz_forms.specs.Upgrades.{upgraded}
use Rattle.ssz_upgrade.specs.Upgraded.{AnswersUpgrade}
use Rattle.ssz_script.specs.declared.reply.TheConstants.Reply.{NOT_CONTAINER}
use Rattle.ssz_versions.specs.Content.{Held, held_at}
use Rattle.ssz_machine.specs.Making.{upgrade}
use Rattle.ssz_machine.specs.Changes.{puts}
use Rattle.ssz_decisions.specs.Content.{EngineContent}
use Rattle.ssz_decisions.specs.Decisions.{AnswersWith}
use Rattle.ssz_engine.specs.Steps.{IsUpgradeOf}
use Rattle.ssz_decisions.specs.declared.decision.Decision.TheVariants.{Made, Refused}
use Rattle.ssz_decisions.proofs.Brought.{over}
use Rattle.ssz_engine.proofs.UpgradeRows.{none-there, refused, refused-room, upgrade-answers, upgrade-due}
use Rattle.ssz_engine.proofs.upgrading.upgrade.Goals as goal

pub returns-in-NotContainer-clause-answers : goal.returns-in-NotContainer-clause-answers
returns-in-NotContainer-clause-answers g c =
    let pair_of = g.H.PairHash.pair_of in
    let schema = c.store.inside.schema in
    let most = c.store.inside.max in
    let entries = c.store.inside.versions.entries in
    let base = c.store.inside.base in
    let old = c.store.inside.arena in
    let new = c.upgrade-made.new.arena in
    let v = c.args.v.now in
    let w = c.args.w.now in
    let t = c.args.t.now in
    let writer = c.args.writer.0 in
    let id = c.in-Some.id in
    let held : Held = c.in-Some-get.held in
    let known : type_number schema t ≡ Some id =
    ap (type_number schema) (sym c.as_name.ensures.text)
    ∙ sym c.find_name.ensures.exact ∙ c.in-Some.is in
    let there : held_at entries writer v ≡ Some held
    = ap (λ n. held_at entries writer n) (sym c.as_name-2.ensures.text) ∙ sym c.get.ensures
    ∙ c.in-Some-get.is in
    let free : held_at entries writer w ≡ None
    = none-there _ (sym (c.is_some.ensures
    ∙ ap is_some (c.get-2.ensures ∙ ap (λ n. held_at entries writer n) c.as_name-3.ensures.text))
    ∙ c.if-is_some.false) in
    let fault : c.upgrade-made.result ≡ Err NotContainer =
    c.in-Err.is ∙ ap (λ (f : UpgradeFault). Err f) c.in-NotContainer.is in
    let fails : (x : SszValue) → IsTreeOf (type_of schema held.0) x (tree_of old held.1)
    → upgraded (type_of schema held.0) x (type_of schema id) ≡ Err NotContainer = λ x of.
    subst (λ (r : Result NodeId UpgradeFault). AnswersUpgrade (type_of schema held.0)
    (type_of schema id) old new held.1 (upgraded (type_of schema held.0) x (type_of schema id)) r)
    fault (c.upgrade-made.ensures.answers x of) in
    subst (λ (seen : EngineContent). AnswersWith pair_of
    (λ rules versions. upgrade rules versions v w t) (puts w) writer seen
    (over schema most entries base new) (Refused NOT_CONTAINER)) c.store.view_is
    (refused-room pair_of schema most entries base old new
    (λ rules versions. upgrade rules versions v w t) writer w NOT_CONTAINER
    (subst (λ (r : Result NodeId UpgradeFault). OnErr r (new.nodes ≡ old.nodes)) fault
    c.upgrade-made.ensures.refused)
    (refused pair_of schema most entries base old writer v w t id known held there free fails))

pub returns-clause-answers : goal.returns-clause-answers
returns-clause-answers g c =
    let pair_of = g.H.PairHash.pair_of in
    let schema = c.store.inside.schema in
    let most = c.store.inside.max in
    let entries = c.store.inside.versions.entries in
    let base = c.store.inside.base in
    let old = c.store.inside.arena in
    let new = c.upgrade-made.new.arena in
    let v = c.args.v.now in
    let w = c.args.w in
    let t = c.args.t.now in
    let writer = c.args.writer.0 in
    let id = c.in-Some.id in
    let held : Held = c.in-Some-get.held in
    let known : type_number schema t ≡ Some id =
    ap (type_number schema) (sym c.as_name.ensures.text)
    ∙ sym c.find_name.ensures.exact ∙ c.in-Some.is in
    let there : held_at entries writer v ≡ Some held
    = ap (λ n. held_at entries writer n) (sym c.as_name-2.ensures.text) ∙ sym c.get.ensures
    ∙ c.in-Some-get.is in
    let free : held_at entries writer w.now ≡ None
    = none-there _ (sym (c.is_some.ensures
    ∙ ap is_some (c.get-2.ensures ∙ ap (λ n. held_at entries writer n) c.as_name-3.ensures.text))
    ∙ c.if-is_some.false) in
    subst (λ (seen : EngineContent). AnswersWith pair_of
    (λ rules versions. upgrade rules versions v w.now t) (puts w.now) writer seen
    (over schema most entries base new) (Made w id c.in-Ok.node c.in_ok-room.room)) c.store.view_is
    (upgrade-answers pair_of schema most entries base old new writer v w t id held c.in-Ok.node
    c.in_ok-room.room (c.in-Some.ensures.known id refl) known c.store.invariant there free
    c.in-Ok.ensures.answers)

pub returns-clause-upgrades : goal.returns-clause-upgrades
returns-clause-upgrades g c =
    let schema = c.store.inside.schema in
    let entries = c.store.inside.versions.entries in
    let held : Held = c.in-Some-get.held in
    let there : held_at entries c.args.writer.0 c.args.v.now ≡ Some held
    = ap (λ n. held_at entries c.args.writer.0 n) (sym c.as_name-2.ensures.text)
    ∙ sym c.get.ensures ∙ c.in-Some-get.is in
    subst (λ (seen : EngineContent). IsUpgradeOf c.args.v.now c.args.w.now c.args.writer.0 seen
    (over schema c.store.inside.max entries c.store.inside.base c.upgrade-made.new.arena)
    c.args.w.now c.in-Some.id c.in-Ok.node) c.store.view_is
    (upgrade-due schema c.store.inside.max entries c.store.inside.base c.store.inside.arena
    c.upgrade-made.new.arena c.args.writer.0 c.args.v.now c.args.w.now c.in-Some.id held
    c.in-Ok.node c.store.invariant there c.in-Ok.ensures.answers)
