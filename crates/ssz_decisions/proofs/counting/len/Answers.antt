use Rattle.std.proofs.Common.{◌≡◌, ◌∙◌, Some, sym, subst}
use Rattle.ssz_schema.specs.Paths.{Path}
use Rattle.ssz_script.specs.declared.reply.Reply.TheVariants.{Len}
use Rattle.ssz_versions.specs.Content.{Held, held_at}
use Rattle.ssz_views.specs.Looking.{Looking, ForPart, type_seen}
use Rattle.ssz_machine.specs.Asking.{len}
use Rattle.ssz_machine.specs.Changes.{nothing}
use Rattle.ssz_decisions.specs.Content.{EngineContent}
use Rattle.ssz_decisions.specs.Counted.{HasCount, HasNoCount}
use Rattle.ssz_decisions.specs.Decisions.{AnswersWith}
use Rattle.ssz_decisions.specs.declared.decision.Decision.TheVariants.{Said, Refused}
use Rattle.ssz_decisions.proofs.Brought.{over}
use Rattle.ssz_decisions.proofs.Numbers.{len-said, len-refused}
use Rattle.ssz_decisions.proofs.Straying.{len-astray}
use Rattle.ssz_decisions.proofs.counting.len.Goals as goal

pub returns-in-Err : goal.returns-in-Err
returns-in-Err g c =
    len-astray g.H.PairHash.pair_of c.args.store.now c.args.writer.0 c.args.v.now c.args.path.now
    c.in-Err.code (rw c.in-Err.is at c.in_ok-way.ensures.err)

pub returns-in-Ok-count_at : goal.returns-in-Ok-count_at
returns-in-Ok-count_at g c =
    let pair_of = g.H.PairHash.pair_of in
    let w = c.args.writer.0 in
    let v = c.args.v.now in
    let way = rw c.in-Ok.is at c.in_ok-way.ensures.ok in
    let path : Path = c.as_slice-steps.result.now in
    let is : path ≡ c.args.path.now = c.as_slice-steps.ensures.value ∙ way.all in
    let held : Held = (c.in-Ok.way.id, c.in-Ok.way.node) in
    let seen : EngineContent = over c.store.inside.schema c.store.inside.max
    c.store.inside.versions.entries c.store.inside.base c.store.inside.arena in
    let there : held_at seen.entries w v ≡ Some held
    = subst (λ (s : EngineContent). held_at s.entries w v ≡ Some held)
    (sym c.store.view_is) way.there in
    subst (λ (p : Path). AnswersWith pair_of (λ rules versions. len versions v p) nothing w
    c.args.store.now c.args.store.now (Said (Len c.in-Ok-count_at.count))) is
    (subst (λ (s : EngineContent).
    AnswersWith pair_of (λ rules versions. len versions v path) nothing w s
    s
    (Said (Len c.in-Ok-count_at.count))) c.store.view_is
    (len-said pair_of seen w v path held there c.in-Ok-count_at.count
    (subst (λ (view : Looking). ForPart view (HasCount (type_seen view) path
    c.in-Ok-count_at.count))
    c.new-view.ensures c.in-Ok-count_at.ensures.ok)))

pub returns : goal.returns
returns g c =
    let pair_of = g.H.PairHash.pair_of in
    let w = c.args.writer.0 in
    let v = c.args.v.now in
    let way = rw c.in-Ok.is at c.in_ok-way.ensures.ok in
    let path : Path = c.as_slice-steps.result.now in
    let is : path ≡ c.args.path.now = c.as_slice-steps.ensures.value ∙ way.all in
    let held : Held = (c.in-Ok.way.id, c.in-Ok.way.node) in
    let seen : EngineContent = over c.store.inside.schema c.store.inside.max
    c.store.inside.versions.entries c.store.inside.base c.store.inside.arena in
    let there : held_at seen.entries w v ≡ Some held
    = subst (λ (s : EngineContent). held_at s.entries w v ≡ Some held)
    (sym c.store.view_is) way.there in
    subst (λ (p : Path). AnswersWith pair_of (λ rules versions. len versions v p) nothing w
    c.args.store.now c.args.store.now (Refused c.in-Err-count_at.code)) is
    (subst (λ (s : EngineContent).
    AnswersWith pair_of (λ rules versions. len versions v path) nothing w s
    s
    (Refused c.in-Err-count_at.code)) c.store.view_is
    (len-refused pair_of seen w v path held there c.in-Err-count_at.code
    (subst (λ (view : Looking). ForPart view (HasNoCount (type_seen view) path
    c.in-Err-count_at.code))
    c.new-view.ensures c.in-Err-count_at.ensures.err)))
