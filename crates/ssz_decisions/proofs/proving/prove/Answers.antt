use Rattle.std.proofs.Common.{◌≡◌, ◌∙◌, ℕ, List, Some, Ok, IfOk, sym, ap, subst}
use Rattle.ssz_schema.specs.Unfolding.{type_of}
use Rattle.ssz_line.specs.declared.index.Index.{Index}
use Rattle.ssz_arena.specs.Content.{tree_of}
use Rattle.ssz_versions.specs.Content.{Held, held_at}
use Rattle.ssz_machine.specs.Asking.{asked_indices, prove}
use Rattle.ssz_machine.specs.Changes.{nothing}
use Rattle.ssz_decisions.specs.Content.{EngineContent}
use Rattle.ssz_decisions.specs.Decisions.{AnswersRow}
use Rattle.ssz_decisions.specs.Proving.{IsNowhere, Proves}
use Rattle.ssz_decisions.specs.declared.decision.Decision.TheVariants.{Refused}
use Rattle.ssz_decisions.proofs.Brought.{over}
use Rattle.ssz_decisions.specs.Roots.{HashesFor}
use Rattle.ssz_decisions.proofs.ProofRows.{nowhere-answers, proves-ok}
use Rattle.ssz_decisions.proofs.Owing.{hashed-for}
use Rattle.ssz_decisions.proofs.proving.prove.Goals as goal

pub returns-in-Ok-clause-answers : goal.returns-in-Ok-clause-answers
returns-in-Ok-clause-answers g c =
    let pair_of = g.H.PairHash.pair_of in
    let w = c.args.writer.0 in
    let v = c.args.v.now in
    let indices : List Index = c.args.indices.now in
    let held : Held = c.in-Some.held in
    let inside = c.store.inside in
    let seen : EngineContent = over inside.schema inside.max inside.versions.entries inside.base
    inside.arena in
    let new : EngineContent = over inside.schema inside.max inside.versions.entries inside.base
    c.prove_places.new.arena in
    let there : held_at seen.entries w v ≡ Some held
    = ap (λ n. held_at seen.entries w n) (sym c.as_name.ensures.text)
    ∙ sym c.get.ensures ∙ c.in-Some.is in
    let placed = rw c.in-Ok.is at c.in_ok-asked.ensures.ok in
    let found : Ok c.in-Ok.asked.items ≡ asked_indices (type_of seen.types held.0) indices
    = placed ∙ ap (asked_indices (type_of seen.types held.0)) c.as_slice.ensures.indices in
    let proves : IfOk c.prove_places.result
    (Proves pair_of (tree_of seen.arena held.1) c.in-Ok.asked.items)
    = subst (λ (ns : List ℕ). IfOk c.prove_places.result
    (Proves pair_of (tree_of seen.arena held.1) ns)) c.as_slice-in-Ok.ensures.value
    c.prove_places.ensures.proves in
    subst (λ (s : EngineContent). IfOk c.prove_places.result (AnswersRow pair_of
    (λ rules versions. prove rules versions v indices) nothing w s new
    (g.H.PairHash.pairs c.args.hasher.now) (g.H.PairHash.pairs c.prove_places.new.hasher)))
    c.store.view_is
    (proves-ok pair_of seen w v indices held there new c.in-Ok.asked.items
    (g.H.PairHash.pairs c.args.hasher.now) (g.H.PairHash.pairs c.prove_places.new.hasher)
    c.prove_places.result found proves c.prove_places.ensures.takes)

pub returns-in-Err-clause-answers : goal.returns-in-Err-clause-answers
returns-in-Err-clause-answers g c =
    let pair_of = g.H.PairHash.pair_of in
    let w = c.args.writer.0 in
    let v = c.args.v.now in
    let indices : List Index = c.args.indices.now in
    let held : Held = c.in-Some.held in
    let inside = c.store.inside in
    let seen : EngineContent = over inside.schema inside.max inside.versions.entries inside.base
    inside.arena in
    let there : held_at seen.entries w v ≡ Some held
    = ap (λ n. held_at seen.entries w n) (sym c.as_name.ensures.text)
    ∙ sym c.get.ensures ∙ c.in-Some.is in
    let is : IsNowhere (type_of seen.types held.0) indices c.in-Err.code
    = subst (λ (is : List Index). IsNowhere (type_of seen.types held.0) is c.in-Err.code)
    c.as_slice.ensures.indices (rw c.in-Err.is at c.in_ok-asked.ensures.err) in
    subst (λ (s : EngineContent).
    AnswersRow pair_of (λ rules versions. prove rules versions v indices)
    nothing w s s (g.H.PairHash.pairs c.args.hasher.now) (g.H.PairHash.pairs c.args.hasher.now)
    (Refused c.in-Err.code)) c.store.view_is
    (nowhere-answers pair_of seen w v indices held there c.in-Err.code is
    (g.H.PairHash.pairs c.args.hasher.now))

pub returns-in-Ok-clause-due : goal.returns-in-Ok-clause-due
returns-in-Ok-clause-due g c =
    let w = c.args.writer.0 in
    let v = c.args.v.now in
    let held : Held = c.in-Some.held in
    let inside = c.store.inside in
    let seen : EngineContent = over inside.schema inside.max inside.versions.entries inside.base
    inside.arena in
    let before = g.H.PairHash.pairs c.args.hasher.now in
    let after = g.H.PairHash.pairs c.prove_places.new.hasher in
    let there : held_at seen.entries w v ≡ Some held
    = ap (λ n. held_at seen.entries w n) (sym c.as_name.ensures.text)
    ∙ sym c.get.ensures ∙ c.in-Some.is in
    subst (λ (s : EngineContent). HashesFor v w s before after) c.store.view_is
    (hashed-for seen w v held before after there c.prove_places.ensures.due)
