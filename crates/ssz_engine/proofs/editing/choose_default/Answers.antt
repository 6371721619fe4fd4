use Rattle.std.proofs.Common.{◌≡◌, ◌∙◌, [], ◌∷◌, Option, Some, None, Ok, refl, sym, ap, subst}
use Rattle.ssz_schema.specs.Unfolding.{type_of, options_over}
use Rattle.ssz_value.specs.Edits.{choose_at}
use Rattle.ssz_places.specs.Charges.{choose_charge}
use Rattle.ssz_versions.specs.Content.{Held, held_at}
use Rattle.ssz_value.specs.declared.value.Value.{Value}
use Rattle.ssz_edit.specs.declared.given.Given.{Given}
use Rattle.ssz_edit.specs.Inner.{IsDefault}
use Rattle.ssz_edit.specs.Given.{option_value, IsOfOption}
use Rattle.ssz_edit.specs.Targets.{ChoosesAt, HasUnion}
use Rattle.ssz_machine.specs.Editing.{choose}
use Rattle.ssz_machine.specs.Changes.{puts}
use Rattle.ssz_decisions.specs.Content.{EngineContent}
use Rattle.ssz_decisions.specs.Decisions.{AnswersWith}
use Rattle.ssz_decisions.specs.declared.decision.Decision.TheVariants.{Edited}
use Rattle.ssz_decisions.proofs.Brought.{are-kept, over}
use Rattle.ssz_engine.proofs.EditRows.{choose_read}
use Rattle.ssz_engine.proofs.Edited.{edited-answers}
use Rattle.ssz_engine.proofs.Tested.{can_choose}
use Rattle.ssz_engine.proofs.Chosen.{default_read}
use Rattle.ssz_engine.proofs.editing.choose_default.Goals as goal

pub put_choice-requires-clause-choice : goal.put_choice-requires-clause-choice
put_choice-requires-clause-choice g c =
    subst (λ (s : EngineContent). HasUnion s.types s.arena c.args.node c.args.choice.now)
    (sym c.store.view_is) c.requires

pub put_choice-requires-clause-inner : goal.put_choice-requires-clause-inner
put_choice-requires-clause-inner g c =
    let schema = c.store.inside.schema in
    let option = c.args.choice.now.option in
    subst (λ (inner : Option Given). IsOfOption schema option inner) (sym c.given_of-inner.ensures)
    (default_read schema (option ∷ []) 0 option c.as_ref.result refl
    (subst (λ (d : Option Value). IsDefault schema option d) (sym c.as_ref.ensures.value)
    c.in_ok-default.ensures)).0

pub returns-clause-answers : goal.returns-clause-answers
returns-clause-answers g c w id k path is_there is_at =
    let pair_of = g.H.PairHash.pair_of in
    let schema = c.store.inside.schema in
    let most = c.store.inside.max in
    let entries = c.store.inside.versions.entries in
    let base = c.store.inside.base in
    let v = c.args.v.now in
    let choice = c.args.choice.now in
    let held : Held = (id, c.args.node) in
    let t = type_of schema id in
    let old = c.store.inside.arena in
    let there : held_at entries w v ≡ Some held
    = subst (λ (s : EngineContent). held_at s.entries w v ≡ Some held)
    (sym c.store.view_is) is_there in
    let at : ChoosesAt schema old id c.args.node path k choice
    = subst (λ (s : EngineContent). ChoosesAt s.types s.arena id c.args.node path k choice)
    (sym c.store.view_is) is_at in
    let os = options_over schema.trees at.options in
    let x = option_value schema choice.option c.given_of-inner.result in
    let new = c.put_choice.new.arena in
    let node = c.in_ok-made.made in
    subst (λ (seen : EngineContent). AnswersWith pair_of
    (λ rules versions. choose versions v path k None) (puts v) w seen
    (over schema most entries base new) (Edited c.args.v node)) c.store.view_is
    (edited-answers pair_of schema most entries base old new w c.args.v held
    (λ rules versions. choose versions v path k None)
    (λ value. choose_at t value path k x) (λ value. choose_charge t path k x)
    (λ versions value found of. choose_read versions v (record { type = t; value = value }) path
    found k None os (Ok x)
    (can_choose schema old id c.args.node path k choice at value of)
    ((default_read schema at.options k choice.option c.as_ref.result (sym at.option_there)
    (subst (λ (d : Option Value). IsDefault schema choice.option d) (sym c.as_ref.ensures.value)
    c.in_ok-default.ensures)).1
    ∙ ap (λ (i : Option Given). Ok (option_value schema choice.option i))
    (sym c.given_of-inner.ensures)))
    c.store.invariant there node
    (λ value of. c.in_ok-made.ensures.edits id path k value at of))

pub invariant_of-store : goal.invariant_of-store
invariant_of-store g c =
    are-kept c.store.inside.schema c.store.inside.arena c.put_choice.new.arena
    c.store.inside.versions.entries c.put_choice.ensures.adds.keeps c.store.invariant
