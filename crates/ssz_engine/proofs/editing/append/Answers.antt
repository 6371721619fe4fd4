use Rattle.std.proofs.Common.{◌≡◌, ◌∙◌, ℕ, Some, None, sym, subst}
use Rattle.ssz_schema.specs.Paths.{Path}
use Rattle.ssz_schema.specs.Unfolding.{type_of}
use Rattle.ssz_value.specs.Reading.{value_in}
use Rattle.ssz_value.specs.Edits.{append_at}
use Rattle.ssz_places.specs.Charges.{append_charge}
use Rattle.ssz_versions.specs.Content.{Held, held_at}
use Rattle.ssz_machine.specs.Rules.{edit_code, coded}
use Rattle.ssz_machine.specs.Editing.{append}
use Rattle.ssz_machine.specs.Changes.{puts}
use Rattle.ssz_decisions.specs.Content.{EngineContent}
use Rattle.ssz_decisions.specs.Decisions.{AnswersWith}
use Rattle.ssz_decisions.specs.declared.decision.Decision.TheVariants.{BadBytes, Edited, Refused}
use Rattle.ssz_decisions.proofs.Brought.{are-kept, over}
use Rattle.ssz_engine.proofs.EditRows.{append_read, append_refused}
use Rattle.ssz_engine.proofs.Edited.{bad-answers, code-answers, edited-answers}
use Rattle.ssz_engine.proofs.EditsAstray.{append-astray}
use Rattle.ssz_engine.proofs.Tested.{can_append, cannot_append}
use Rattle.ssz_engine.proofs.editing.append.Goals as goal

pub returns-in-Err-clause-answers : goal.returns-in-Err-clause-answers
returns-in-Err-clause-answers g c =
    append-astray g.H.PairHash.pair_of c.args.store.now c.args.writer.0 c.args.v.now c.args.path.now
    c.in-Err.code (rw c.in-Err.is at c.in_ok-way.ensures.err) c.args.literal.now

pub returns-in-Err-open_end-clause-answers : goal.returns-in-Err-open_end-clause-answers
returns-in-Err-open_end-clause-answers g c =
    let pair_of = g.H.PairHash.pair_of in
    let schema = c.store.inside.schema in
    let most = c.store.inside.max in
    let entries = c.store.inside.versions.entries in
    let base = c.store.inside.base in
    let v = c.args.v.now in
    let w = c.args.writer.0 in
    let way = rw c.in-Ok.is at c.in_ok-way.ensures.ok in
    let path : Path = c.as_slice-steps.result.now in
    let is : path ≡ c.args.path.now = c.as_slice-steps.ensures.value ∙ way.all in
    let literal = c.args.literal.now in
    let held : Held = (c.in-Ok.way.id, c.in-Ok.way.node) in
    let t = type_of schema held.0 in
    let old = c.store.inside.arena in
    let there : held_at entries w v ≡ Some held
    = subst (λ (s : EngineContent). held_at s.entries w v ≡ Some held)
    (sym c.store.view_is) way.there in
    let fault = c.in-Err-open_end.fault in
    subst (λ (p : Path). AnswersWith pair_of (λ rules versions. append versions v p literal)
    (puts v) w c.args.store.now c.args.store.now (Refused c.code_of_edit.result)) is
    (subst (λ (code : ℕ). AnswersWith pair_of (λ rules versions. append versions v path literal)
    (puts v) w c.args.store.now c.args.store.now (Refused code)) (sym c.code_of_edit.ensures)
    (subst (λ (seen : EngineContent).
    AnswersWith pair_of (λ rules versions. append versions v path literal)
    (puts v) w seen seen (Refused (edit_code fault))) c.store.view_is
    (code-answers pair_of schema most entries base old old w c.args.v held
    (λ rules versions. append versions v path literal) there (edit_code fault)
    (λ versions value found of. append_refused versions v (record { type = t; value = value }) path
    found literal (coded (edit_code fault))
    (cannot_append schema old held.0 held.1 path fault c.in-Err-open_end.ensures.err value of)))))

pub returns-in-Some-clause-answers : goal.returns-in-Some-clause-answers
returns-in-Some-clause-answers g c =
    let pair_of = g.H.PairHash.pair_of in
    let schema = c.store.inside.schema in
    let most = c.store.inside.max in
    let entries = c.store.inside.versions.entries in
    let base = c.store.inside.base in
    let v = c.args.v.now in
    let w = c.args.writer.0 in
    let way = rw c.in-Ok.is at c.in_ok-way.ensures.ok in
    let path : Path = c.as_slice-steps.result.now in
    let is : path ≡ c.args.path.now = c.as_slice-steps.ensures.value ∙ way.all in
    let literal = c.args.literal.now in
    let held : Held = (c.in-Ok.way.id, c.in-Ok.way.node) in
    let t = type_of schema held.0 in
    let old = c.store.inside.arena in
    let there : held_at entries w v ≡ Some held
    = subst (λ (s : EngineContent). held_at s.entries w v ≡ Some held)
    (sym c.store.view_is) way.there in
    let place = c.in-Ok-open_end.end in
    let u = type_of schema place.slot.element.id in
    subst (λ (p : Path). AnswersWith pair_of (λ rules versions. append versions v p literal)
    (puts v) w c.args.store.now c.args.store.now (BadBytes c.in-Some.fault)) is
    (subst (λ (seen : EngineContent).
    AnswersWith pair_of (λ rules versions. append versions v path literal)
    (puts v) w seen seen (BadBytes c.in-Some.fault)) c.store.view_is
    (bad-answers pair_of schema most entries base old old w c.args.v held
    (λ rules versions. append versions v path literal) there c.in-Some.fault
    (λ versions value found of. append_read versions v (record { type = t; value = value }) path
    found literal u (Some c.in-Some.fault)
    (can_append schema old held.0 held.1 path place c.in-Ok-open_end.ensures.at value of)
    (sym c.check.ensures ∙ c.in-Some.is))))

pub returns-clause-answers : goal.returns-clause-answers
returns-clause-answers g c =
    let pair_of = g.H.PairHash.pair_of in
    let schema = c.store.inside.schema in
    let most = c.store.inside.max in
    let entries = c.store.inside.versions.entries in
    let base = c.store.inside.base in
    let v = c.args.v.now in
    let w = c.args.writer.0 in
    let way = rw c.in-Ok.is at c.in_ok-way.ensures.ok in
    let path : Path = c.as_slice-steps.result.now in
    let is : path ≡ c.args.path.now = c.as_slice-steps.ensures.value ∙ way.all in
    let literal = c.args.literal.now in
    let held : Held = (c.in-Ok.way.id, c.in-Ok.way.node) in
    let t = type_of schema held.0 in
    let old = c.store.inside.arena in
    let there : held_at entries w v ≡ Some held
    = subst (λ (s : EngineContent). held_at s.entries w v ≡ Some held)
    (sym c.store.view_is) way.there in
    let place = c.in-Ok-open_end.end in
    let u = type_of schema place.slot.element.id in
    let x = value_in u literal in
    let new = c.put_element.new.arena in
    let node = c.in_ok-node.node in
    subst (λ (p : Path). AnswersWith pair_of (λ rules versions. append versions v p literal)
    (puts v) w c.args.store.now (over schema most entries base new) (Edited c.args.v node)) is
    (subst (λ (seen : EngineContent).
    AnswersWith pair_of (λ rules versions. append versions v path literal)
    (puts v) w seen (over schema most entries base new) (Edited c.args.v node)) c.store.view_is
    (edited-answers pair_of schema most entries base old new w c.args.v held
    (λ rules versions. append versions v path literal)
    (λ value. append_at t value path x) (λ value. append_charge t value path x)
    (λ versions value found of. append_read versions v (record { type = t; value = value }) path
    found literal u None
    (can_append schema old held.0 held.1 path place c.in-Ok-open_end.ensures.at value of)
    (sym c.check.ensures ∙ c.in_default.is))
    c.store.invariant there node
    (λ value of. c.in_ok-node.ensures.edits held.0 path value c.in-Ok-open_end.ensures.at of)))

pub invariant_of-store : goal.invariant_of-store
invariant_of-store g c =
    are-kept c.store.inside.schema c.store.inside.arena c.put_element.new.arena
    c.store.inside.versions.entries c.put_element.ensures.adds.keeps c.store.invariant

pub invariant_of-store-2 : goal.invariant_of-store-2
invariant_of-store-2 g c =
    are-kept c.store.inside.schema c.store.inside.arena c.put_element.new.arena
    c.store.inside.versions.entries c.put_element.ensures.adds.keeps c.store.invariant
