use Rattle.std.proofs.Common.{◌≡◌, ◌∙◌, Some, refl, sym, ap, subst}
use Rattle.ssz_versions.specs.Content.{Held, held_at}
use Rattle.ssz_decisions.specs.Content.{EngineContent}
use Rattle.ssz_decisions.specs.Carried.{Edits}
use Rattle.ssz_decisions.specs.Standing.{IsSomeVersion}
use Rattle.ssz_decisions.proofs.Entries.{are-made, some_held}
use Rattle.ssz_decisions.proofs.carrying.edit.Goals as goal

pub invariant_of-store : goal.invariant_of-store
invariant_of-store g c =
    let h = rw c.in-Some.is at (c.edit.follows.holds c.args.node) in
    let s : IsSomeVersion c.store.inside.schema c.store.inside.arena
    (c.requires.held.0, c.args.node)
    = subst (λ (v : EngineContent). IsSomeVersion v.types v.arena (c.requires.held.0, c.args.node))
    (sym c.store.view_is) c.requires.stands in
    let t : held_at c.store.inside.versions.entries c.args.writer.0 c.as_name.result.now
    ≡ Some c.requires.held
    = ap (λ n. held_at c.store.inside.versions.entries c.args.writer.0 n)
    c.as_name.ensures.text
    ∙ ap (λ (v : EngineContent). held_at v.entries c.args.writer.0 c.args.name.now)
    c.store.view_is ∙ c.requires.there in
    let made : Held = (h.0.0, c.args.node) in
    are-made _ _ _ c.store.invariant c.args.writer.0 c.as_name.result.now _ _
    made refl h.2
    (subst (λ (x : Held). IsSomeVersion c.store.inside.schema c.store.inside.arena
    (x.0, c.args.node)) (some_held _ _ (sym t ∙ h.1)) s)

pub returns-clause-entries : goal.returns-clause-entries
returns-clause-entries g c =
    let h = rw c.in-Some.is at (c.edit.follows.holds c.args.node) in
    let new = (c.edit.follows.lender c.args.node).entries in
    let w = c.args.writer.0 in
    let e : Edits c.store.inside.versions.entries new w c.as_name.result.now c.args.node
    = (h.0, h.1, h.2) in
    let f : Edits c.store.inside.versions.entries new w c.args.name.now c.args.node
    = subst (λ n. Edits c.store.inside.versions.entries new w n c.args.node)
    c.as_name.ensures.text e in
    subst (λ (v : EngineContent). Edits v.entries new w c.args.name.now c.args.node) c.store.view_is
    f
