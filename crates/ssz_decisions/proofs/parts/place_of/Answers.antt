use Rattle.std.proofs.Common.{◌≡◌, ◌∙◌, Some, sym, subst}
use Rattle.ssz_schema.specs.Paths.{Path}
use Rattle.ssz_versions.specs.Content.{Held, held_at}
use Rattle.ssz_decisions.specs.Content.{EngineContent}
use Rattle.ssz_decisions.specs.Shown.{LeadsToPart}
use Rattle.ssz_decisions.proofs.Brought.{over}
use Rattle.ssz_decisions.proofs.Showing.{leads-there}
use Rattle.ssz_decisions.proofs.Straying.{shows-astray}
use Rattle.ssz_decisions.proofs.parts.place_of.Goals as goal

pub returns-in-Err-clause-err : goal.returns-in-Err-clause-err
returns-in-Err-clause-err g c =
    shows-astray g.H.PairHash.pair_of c.args.store.now c.args.writer.0 c.args.v.now c.args.path.now
    c.in-Err.code (rw c.in-Err.is at c.in_ok-way.ensures.err)

pub returns-in-Ok-find-clause-ok : goal.returns-in-Ok-find-clause-ok
returns-in-Ok-find-clause-ok g c =
    let w = c.args.writer.0 in
    let v = c.args.v.now in
    let way = rw c.in-Ok.is at c.in_ok-way.ensures.ok in
    let path : Path = c.as_slice-steps.result.now in
    let is : path ≡ c.args.path.now = c.as_slice-steps.ensures.value ∙ way.all in
    let held : Held = (c.in-Ok.way.id, c.in-Ok.way.node) in
    let seen : EngineContent = over c.store.inside.schema c.store.inside.max
    c.store.inside.versions.entries c.store.inside.base c.store.inside.arena in
    let there : held_at seen.entries w v ≡ Some held
    = subst (λ (s : EngineContent). held_at s.entries w v ≡ Some held)
    (sym c.store.view_is) way.there in
    subst (λ (p : Path). LeadsToPart c.args.store.now w v p c.in-Ok-find.place) is
    (subst (λ (s : EngineContent). LeadsToPart s w v path c.in-Ok-find.place) c.store.view_is
    (leads-there seen.types.format seen w v path held c.in-Ok-find.place c.store.invariant
    c.ty-legal.ensures.legal there c.in-Ok-find.ensures.found))
