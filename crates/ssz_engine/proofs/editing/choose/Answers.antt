use Rattle.std.proofs.Common.{◌≡◌, ◌∙◌, ℕ, List, Option, Some, None, IfOk, sym, ap, subst}
use Rattle.ssz_schema.specs.Paths.{Path}
use Rattle.ssz_schema.specs.Unfolding.{type_of}
use Rattle.ssz_versions.specs.Content.{Held, held_at}
use Rattle.ssz_edit.specs.Targets.{ChoosesAt}
use Rattle.ssz_machine.specs.Rules.{edit_code, coded}
use Rattle.ssz_machine.specs.Editing.{choose}
use Rattle.ssz_machine.specs.Changes.{puts}
use Rattle.ssz_decisions.specs.Content.{EngineContent}
use Rattle.ssz_decisions.specs.Decisions.{AnswersWith}
use Rattle.ssz_decisions.specs.declared.decision.Decision.TheVariants.{Refused}
use Rattle.ssz_engine.proofs.EditRows.{choose_refused}
use Rattle.ssz_engine.proofs.Edited.{code-answers}
use Rattle.ssz_engine.proofs.EditsAstray.{choose-astray}
use Rattle.ssz_engine.proofs.Tested.{cannot_choose}
use Rattle.ssz_engine.proofs.editing.choose.Goals as goal

pub returns-in-Err-clause-answers : goal.returns-in-Err-clause-answers
returns-in-Err-clause-answers g c =
    choose-astray g.H.PairHash.pair_of c.args.store.now c.args.writer.0 c.args.v.now
    c.args.path.now c.in-Err.code (rw c.in-Err.is at c.in_ok-way.ensures.err) c.args.selector
    c.args.literal.now

pub returns-in-Err-open_choice-clause-answers : goal.returns-in-Err-open_choice-clause-answers
returns-in-Err-open_choice-clause-answers g c =
    let pair_of = g.H.PairHash.pair_of in
    let schema = c.store.inside.schema in
    let most = c.store.inside.max in
    let entries = c.store.inside.versions.entries in
    let base = c.store.inside.base in
    let v = c.args.v.now in
    let w = c.args.writer.0 in
    let k = c.args.selector in
    let way = rw c.in-Ok.is at c.in_ok-way.ensures.ok in
    let path : Path = c.as_slice-steps.result.now in
    let is : path ≡ c.args.path.now = c.as_slice-steps.ensures.value ∙ way.all in
    let literal = c.args.literal.now in
    let held : Held = (c.in-Ok.way.id, c.in-Ok.way.node) in
    let t = type_of schema held.0 in
    let old = c.store.inside.arena in
    let there : held_at entries w v ≡ Some held
    = subst (λ (s : EngineContent). held_at s.entries w v ≡ Some held)
    (sym c.store.view_is) way.there in
    let fault = c.in-Err-open_choice.fault in
    subst (λ (p : Path). AnswersWith pair_of (λ rules versions. choose versions v p k literal)
    (puts v) w c.args.store.now c.args.store.now (Refused c.code_of_edit.result)) is
    (subst (λ (code : ℕ). AnswersWith pair_of
    (λ rules versions. choose versions v path k literal) (puts v) w c.args.store.now
    c.args.store.now (Refused code)) (sym c.code_of_edit.ensures)
    (subst (λ (seen : EngineContent). AnswersWith pair_of
    (λ rules versions. choose versions v path k literal) (puts v) w seen seen
    (Refused (edit_code fault))) c.store.view_is
    (code-answers pair_of schema most entries base old old w c.args.v held
    (λ rules versions. choose versions v path k literal) there (edit_code fault)
    (λ versions value found of. choose_refused versions v (record { type = t; value = value }) path
    found k literal (coded (edit_code fault))
    (cannot_choose schema old held.0 held.1 path k fault c.in-Err-open_choice.ensures.err value
    of)))))

pub returns-in-Some-clause-answers : goal.returns-in-Some-clause-answers
returns-in-Some-clause-answers g c =
    let pair_of = g.H.PairHash.pair_of in
    let v = c.args.v.now in
    let w = c.args.writer.0 in
    let k = c.args.selector in
    let way = rw c.in-Ok.is at c.in_ok-way.ensures.ok in
    let path : Path = c.as_slice-steps.result.now in
    let is : path ≡ c.args.path.now = c.as_slice-steps.ensures.value ∙ way.all in
    let held : Held = (c.in-Ok.way.id, c.in-Ok.way.node) in
    let choice = c.in-Ok-open_choice.choice in
    let at : ChoosesAt c.args.store.now.types c.args.store.now.arena held.0 held.1 path k choice
    = subst (λ (s : EngineContent). ChoosesAt s.types s.arena held.0 held.1 path k choice)
    c.store.view_is c.in-Ok-open_choice.ensures.at in
    let result = c.choose_literal.result in
    let new = c.choose_literal.new.store in
    let literal : Some c.as_slice.result.now ≡ c.args.literal.now
    = ap Some c.as_slice.ensures.value ∙ sym c.in-Some.is in
    subst (λ (l : Option (List ℕ)). IfOk result (AnswersWith pair_of
    (λ rules versions. choose versions v c.args.path.now k l) (puts v) w c.args.store.now new))
    literal
    (subst (λ (p : Path). IfOk result (AnswersWith pair_of
    (λ rules versions. choose versions v p k (Some c.as_slice.result.now)) (puts v) w
    c.args.store.now new)) is
    (c.choose_literal.ensures.answers w held.0 k path way.there at))

pub returns-clause-answers : goal.returns-clause-answers
returns-clause-answers g c =
    let pair_of = g.H.PairHash.pair_of in
    let v = c.args.v.now in
    let w = c.args.writer.0 in
    let k = c.args.selector in
    let way = rw c.in-Ok.is at c.in_ok-way.ensures.ok in
    let path : Path = c.as_slice-steps.result.now in
    let is : path ≡ c.args.path.now = c.as_slice-steps.ensures.value ∙ way.all in
    let held : Held = (c.in-Ok.way.id, c.in-Ok.way.node) in
    let choice = c.in-Ok-open_choice.choice in
    let at : ChoosesAt c.args.store.now.types c.args.store.now.arena held.0 held.1 path k choice
    = subst (λ (s : EngineContent). ChoosesAt s.types s.arena held.0 held.1 path k choice)
    c.store.view_is c.in-Ok-open_choice.ensures.at in
    let result = c.choose_default.result in
    let new = c.choose_default.new.store in
    let literal : None ≡ c.args.literal.now = sym c.in-None.is in
    subst (λ (l : Option (List ℕ)). IfOk result (AnswersWith pair_of
    (λ rules versions. choose versions v c.args.path.now k l) (puts v) w c.args.store.now new))
    literal
    (subst (λ (p : Path). IfOk result (AnswersWith pair_of
    (λ rules versions. choose versions v p k (None)) (puts v) w c.args.store.now new)) is
    (c.choose_default.ensures.answers w held.0 k path way.there at))
