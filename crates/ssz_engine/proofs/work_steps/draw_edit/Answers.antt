use Rattle.std.proofs.Common.{◌≡◌, ◌∙◌, Option, Some, sym, ap, subst}
use Rattle.ssz_versions.specs.Content.{Held, held_at}
use Rattle.ssz_machine.specs.Drawing.{worked}
use Rattle.ssz_machine.specs.State.{version_of}
use Rattle.ssz_decisions.specs.Content.{EngineContent}
use Rattle.ssz_decisions.specs.Standing.{Match, StandsForWriter}
use Rattle.ssz_decisions.proofs.Brought.{over}
use Rattle.ssz_decisions.proofs.Results.{ok-of}
use Rattle.ssz_engine.proofs.WorkDraws.{draws_none, draws_there, some_edits_work}
use Rattle.ssz_engine.proofs.work_steps.draw_edit.Goals as goal

pub returns-clause-drawn : goal.returns-clause-drawn
returns-clause-drawn g c = λ versions stands.
    let held : Held = c.in-Some.held in
    let seen : EngineContent = over c.store.inside.schema c.store.inside.max
    c.store.inside.versions.entries c.store.inside.base c.store.inside.arena in
    let stand : StandsForWriter seen 0 versions =
    subst (λ (s : EngineContent). StandsForWriter s 0 versions) (sym c.store.view_is) stands in
    let there : held_at seen.entries 0 worked ≡ Some held =
    ap (λ n. held_at seen.entries 0 n) (sym (c.as_name.ensures.text ∙ c.in_ok-name.ensures))
    ∙ sym c.get.ensures ∙ c.in-Some.is in
    ok-of _ _ c.walk.result
    (λ edit walked. draws_there seen.types seen.arena held (version_of worked versions) _ _ edit
    (subst (λ (h : Option Held). Match seen.types seen.arena h (version_of worked versions)) there
    (stand.each worked)) walked) c.walk.ensures.walked

pub returns-clause-edits : goal.returns-clause-edits
returns-clause-edits g c = ok-of _ _ c.walk.result some_edits_work c.walk.ensures.edits

pub returns-in_default-clause-drawn : goal.returns-in_default-clause-drawn
returns-in_default-clause-drawn g c = λ versions stands.
    let seen : EngineContent = over c.store.inside.schema c.store.inside.max
    c.store.inside.versions.entries c.store.inside.base c.store.inside.arena in
    let stand : StandsForWriter seen 0 versions =
    subst (λ (s : EngineContent). StandsForWriter s 0 versions) (sym c.store.view_is) stands in
    let there : held_at seen.entries 0 worked ≡ c.get.result =
    ap (λ n. held_at seen.entries 0 n) (sym (c.as_name.ensures.text ∙ c.in_ok-name.ensures))
    ∙ sym c.get.ensures in
    draws_none seen.types seen.arena (version_of worked versions) _
    (subst (λ (h : Option Held). Match seen.types seen.arena h (version_of worked versions))
    (there ∙ c.in_default.is) (stand.each worked))
