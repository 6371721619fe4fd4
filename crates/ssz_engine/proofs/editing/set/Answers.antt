use Rattle.std.proofs.Common.{◌≡◌, ◌≤◌, ◌∙◌, ℕ, Some, None, sym, subst}
use Rattle.ssz_schema.specs.Paths.{Path}
use Rattle.ssz_schema.specs.Unfolding.{type_of}
use Rattle.ssz_value.specs.Reading.{value_in}
use Rattle.ssz_value.specs.Edits.{set_at}
use Rattle.ssz_places.specs.Charges.{set_charge}
use Rattle.ssz_versions.specs.Content.{Held, held_at}
use Rattle.ssz_machine.specs.Rules.{edit_code, coded}
use Rattle.ssz_machine.specs.Editing.{set}
use Rattle.ssz_machine.specs.Changes.{puts}
use Rattle.ssz_decisions.specs.Content.{EngineContent}
use Rattle.ssz_decisions.specs.Decisions.{AnswersWith}
use Rattle.ssz_decisions.specs.declared.decision.Decision.TheVariants.{BadBytes, Edited, Refused}
use Rattle.ssz_decisions.proofs.Brought.{are-kept, over}
use Rattle.ssz_engine.proofs.EditRows.{set_read, set_refused}
use Rattle.ssz_engine.proofs.Edited.{bad-answers, code-answers, edited-answers}
use Rattle.ssz_engine.proofs.EditsAstray.{set-astray}
use Rattle.ssz_engine.proofs.Tested.{can_set, cannot_set}
use Rattle.ssz_edit.proofs.Landing.{levels_there}
use Rattle.ssz_arena.specs.Content.{todo}
use Rattle.ssz_engine.specs.Tops.{SetsTop}
use Rattle.ssz_engine.proofs.TopSteps.{made-set}
use Rattle.ssz_engine.proofs.editing.set.Goals as goal

pub returns-in-Err-clause-answers : goal.returns-in-Err-clause-answers
returns-in-Err-clause-answers g c =
    set-astray g.H.PairHash.pair_of c.args.store.now c.args.writer.0 c.args.v.now c.args.path.now
    c.in-Err.code (rw c.in-Err.is at c.in_ok-way.ensures.err) c.args.literal.now

pub returns-in-Err-open_part-clause-answers : goal.returns-in-Err-open_part-clause-answers
returns-in-Err-open_part-clause-answers g c =
    let pair_of = g.H.PairHash.pair_of in
    let schema = c.store.inside.schema in
    let most = c.store.inside.max in
    let entries = c.store.inside.versions.entries in
    let base = c.store.inside.base in
    let v = c.args.v.now in
    let w = c.args.writer.0 in
    let way = rw c.in-Ok.is at c.in_ok-way.ensures.ok in
    let path : Path = c.as_slice-steps.result.now in
    let is : path ≡ c.args.path.now = c.as_slice-steps.ensures.value ∙ way.all in
    let literal = c.args.literal.now in
    let held : Held = (c.in-Ok.way.id, c.in-Ok.way.node) in
    let t = type_of schema held.0 in
    let old = c.store.inside.arena in
    let there : held_at entries w v ≡ Some held
    = subst (λ (s : EngineContent). held_at s.entries w v ≡ Some held)
    (sym c.store.view_is) way.there in
    let fault = c.in-Err-open_part.fault in
    subst (λ (p : Path). AnswersWith pair_of (λ rules versions. set versions v p literal)
    (puts v) w c.args.store.now c.args.store.now (Refused c.code_of_edit.result)) is
    (subst (λ (code : ℕ). AnswersWith pair_of (λ rules versions. set versions v path literal)
    (puts v) w c.args.store.now c.args.store.now (Refused code)) (sym c.code_of_edit.ensures)
    (subst (λ (seen : EngineContent).
    AnswersWith pair_of (λ rules versions. set versions v path literal)
    (puts v) w seen seen (Refused (edit_code fault))) c.store.view_is
    (code-answers pair_of schema most entries base old old w c.args.v held
    (λ rules versions. set versions v path literal) there (edit_code fault)
    (λ versions value found of. set_refused versions v (record { type = t; value = value }) path
    found literal (coded (edit_code fault))
    (cannot_set schema old held.0 held.1 path fault c.in-Err-open_part.ensures.err value of)))))

pub returns-in-Some-clause-answers : goal.returns-in-Some-clause-answers
returns-in-Some-clause-answers g c =
    let pair_of = g.H.PairHash.pair_of in
    let schema = c.store.inside.schema in
    let most = c.store.inside.max in
    let entries = c.store.inside.versions.entries in
    let base = c.store.inside.base in
    let v = c.args.v.now in
    let w = c.args.writer.0 in
    let way = rw c.in-Ok.is at c.in_ok-way.ensures.ok in
    let path : Path = c.as_slice-steps.result.now in
    let is : path ≡ c.args.path.now = c.as_slice-steps.ensures.value ∙ way.all in
    let literal = c.args.literal.now in
    let held : Held = (c.in-Ok.way.id, c.in-Ok.way.node) in
    let t = type_of schema held.0 in
    let old = c.store.inside.arena in
    let there : held_at entries w v ≡ Some held
    = subst (λ (s : EngineContent). held_at s.entries w v ≡ Some held)
    (sym c.store.view_is) way.there in
    let place = c.in-Ok-open_part.place in
    let u = type_of schema place.id in
    subst (λ (p : Path). AnswersWith pair_of (λ rules versions. set versions v p literal)
    (puts v) w c.args.store.now c.args.store.now (BadBytes c.in-Some.fault)) is
    (subst (λ (seen : EngineContent).
    AnswersWith pair_of (λ rules versions. set versions v path literal)
    (puts v) w seen seen (BadBytes c.in-Some.fault)) c.store.view_is
    (bad-answers pair_of schema most entries base old old w c.args.v held
    (λ rules versions. set versions v path literal) there c.in-Some.fault
    (λ versions value found of. set_read versions v (record { type = t; value = value }) path
    found literal u (Some c.in-Some.fault)
    (can_set schema old held.0 held.1 path place c.in-Ok-open_part.ensures.at value of)
    (sym c.check.ensures ∙ c.in-Some.is))))

pub returns-clause-answers : goal.returns-clause-answers
returns-clause-answers g c =
    let pair_of = g.H.PairHash.pair_of in
    let schema = c.store.inside.schema in
    let most = c.store.inside.max in
    let entries = c.store.inside.versions.entries in
    let base = c.store.inside.base in
    let v = c.args.v.now in
    let w = c.args.writer.0 in
    let way = rw c.in-Ok.is at c.in_ok-way.ensures.ok in
    let path : Path = c.as_slice-steps.result.now in
    let is : path ≡ c.args.path.now = c.as_slice-steps.ensures.value ∙ way.all in
    let literal = c.args.literal.now in
    let held : Held = (c.in-Ok.way.id, c.in-Ok.way.node) in
    let t = type_of schema held.0 in
    let old = c.store.inside.arena in
    let there : held_at entries w v ≡ Some held
    = subst (λ (s : EngineContent). held_at s.entries w v ≡ Some held)
    (sym c.store.view_is) way.there in
    let place = c.in-Ok-open_part.place in
    let u = type_of schema place.id in
    let x = value_in u literal in
    let new = c.put_part.new.arena in
    let node = c.in_ok-node.node in
    subst (λ (p : Path). AnswersWith pair_of (λ rules versions. set versions v p literal)
    (puts v) w c.args.store.now (over schema most entries base new) (Edited c.args.v node)) is
    (subst (λ (seen : EngineContent).
    AnswersWith pair_of (λ rules versions. set versions v path literal)
    (puts v) w seen (over schema most entries base new) (Edited c.args.v node)) c.store.view_is
    (edited-answers pair_of schema most entries base old new w c.args.v held
    (λ rules versions. set versions v path literal)
    (λ value. set_at t value path x) (λ value. set_charge t path x)
    (λ versions value found of. set_read versions v (record { type = t; value = value }) path
    found literal u None
    (can_set schema old held.0 held.1 path place c.in-Ok-open_part.ensures.at value of)
    (sym c.check.ensures ∙ c.in_default.is))
    c.store.invariant there node
    (λ value of. c.in_ok-node.ensures.edits held.0 path value c.in-Ok-open_part.ensures.at of)))

pub invariant_of-store : goal.invariant_of-store
invariant_of-store g c =
    are-kept c.store.inside.schema c.store.inside.arena c.put_part.new.arena
    c.store.inside.versions.entries c.put_part.ensures.adds.keeps c.store.invariant

pub returns-clause-tops : goal.returns-clause-tops
returns-clause-tops g c =
    let schema = c.store.inside.schema in
    let most = c.store.inside.max in
    let entries = c.store.inside.versions.entries in
    let base = c.store.inside.base in
    let v = c.args.v.now in
    let w = c.args.writer.0 in
    let way = rw c.in-Ok.is at c.in_ok-way.ensures.ok in
    let path : Path = c.as_slice-steps.result.now in
    let is : path ≡ c.args.path.now = c.as_slice-steps.ensures.value ∙ way.all in
    let held : Held = (c.in-Ok.way.id, c.in-Ok.way.node) in
    let t = type_of schema held.0 in
    let old = c.store.inside.arena in
    let there : held_at entries w v ≡ Some held
    = subst (λ (s : EngineContent). held_at s.entries w v ≡ Some held)
    (sym c.store.view_is) way.there in
    let place = c.in-Ok-open_part.place in
    let at = c.in-Ok-open_part.ensures.at in
    let new = c.put_part.new.arena in
    let node = c.in_ok-node.node in
    subst (λ (p : Path). SetsTop v p w c.args.store.now (over schema most entries base new)
    (Edited c.args.v node)) is
    (subst (λ (seen : EngineContent). SetsTop v path w seen (over schema most entries base new)
    (Edited c.args.v node)) c.store.view_is
    (made-set schema new entries w v path held there node
    (subst (λ (n : ℕ). n ≤ todo new node)
    (sym (levels_there schema.format schema old held.0 held.1 path place at.legal at.found))
    c.in_ok-node.ensures.least) c.args.v))
