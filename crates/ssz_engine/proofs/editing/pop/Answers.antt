use Rattle.std.proofs.Common.{◌≡◌, ◌∙◌, Some, IfOk, sym, subst}
use Rattle.std.specs.Prelude.{OnErr}
use Rattle.ssz_schema.specs.Paths.{Path}
use Rattle.ssz_schema.specs.Unfolding.{type_of}
use Rattle.ssz_value.specs.Edits.{pop_at}
use Rattle.ssz_places.specs.Charges.{pop_charge}
use Rattle.ssz_versions.specs.Content.{Held, held_at}
use Rattle.ssz_machine.specs.Editing.{pop}
use Rattle.ssz_machine.specs.Changes.{puts}
use Rattle.ssz_decisions.specs.Content.{EngineContent}
use Rattle.ssz_decisions.specs.Decisions.{AnswersWith}
use Rattle.ssz_decisions.proofs.Brought.{over}
use Rattle.ssz_engine.proofs.EditRows.{pop_row}
use Rattle.ssz_engine.proofs.Edited.{finished-answers}
use Rattle.ssz_engine.proofs.TopSteps.{finishes-due}
use Rattle.ssz_engine.proofs.Wholes.{edit-whole}
use Rattle.ssz_engine.proofs.EditsAstray.{pop-astray}
use Rattle.ssz_engine.proofs.editing.pop.Goals as goal

pub returns-in-Err-clause-answers : goal.returns-in-Err-clause-answers
returns-in-Err-clause-answers g c =
    pop-astray g.H.PairHash.pair_of c.args.store.now c.args.writer.0 c.args.v.now c.args.path.now
    c.in-Err.code (rw c.in-Err.is at c.in_ok-way.ensures.err)

pub returns-clause-answers : goal.returns-clause-answers
returns-clause-answers g c =
    let pair_of = g.H.PairHash.pair_of in
    let schema = c.store.inside.schema in
    let most = c.store.inside.max in
    let entries = c.store.inside.versions.entries in
    let base = c.store.inside.base in
    let v = c.args.v.now in
    let w = c.args.writer.0 in
    let way = rw c.in-Ok.is at c.in_ok-way.ensures.ok in
    let path : Path = c.as_slice-steps.result.now in
    let is : path ≡ c.args.path.now = c.as_slice-steps.ensures.value ∙ way.all in
    let held : Held = (c.in-Ok.way.id, c.in-Ok.way.node) in
    let t = type_of schema held.0 in
    let old = c.store.inside.arena in
    let new = c.pop-made.new.arena in
    let there : held_at entries w v ≡ Some held
    = subst (λ (s : EngineContent). held_at s.entries w v ≡ Some held)
    (sym c.store.view_is) way.there in
    subst (λ (p : Path). IfOk c.finish.result (AnswersWith pair_of
    (λ rules versions. pop versions v p) (puts v) w c.args.store.now
    (over schema most entries base new))) is
    (subst (λ (seen : EngineContent). IfOk c.finish.result (AnswersWith pair_of
    (λ rules versions. pop versions v path) (puts v) w seen (over schema most entries base new)))
    c.store.view_is
    (finished-answers pair_of schema most entries base old new w v held
    (λ name rules versions. pop versions name path)
    (λ value. pop_at t value path) (λ value. pop_charge t value path)
    (λ versions value found of. pop_row schema.format versions v
    (record { type = t; value = value }) path c.ty-legal.ensures.legal of.fits found)
    c.store.invariant there c.pop-made.result c.pop-made.ensures.refused c.pop-made.ensures.answers
    c.finish.result c.finish.ensures))

pub returns-clause-whole : goal.returns-clause-whole
returns-clause-whole g c =
    edit-whole c.args.store.now c.pop-made.new.arena c.args.v.now c.pop-made.result c.finish.result
    c.finish.ensures
    (subst (λ (seen : EngineContent). OnErr c.pop-made.result
    (c.pop-made.new.arena.nodes ≡ seen.arena.nodes)) c.store.view_is c.pop-made.ensures.refused)

pub returns-clause-tops : goal.returns-clause-tops
returns-clause-tops g c =
    finishes-due c.pop-made.new.arena c.args.v.now c.pop-made.result c.finish.result
    c.pop-made.ensures.fresh c.finish.ensures
