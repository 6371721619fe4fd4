use Rattle.std.proofs.Common.{◌∙◌, ◌++◌, List, ℕ, Ok, Err, ap, subst, sym}
use Rattle.ssz_schema.specs.Unfolding.{type_of}
use Rattle.ssz_value.specs.Encoding.{serialize}
use Rattle.ssz_script.specs.declared.reply.TheConstants.Reply.{TOO_LONG}
use Rattle.ssz_machine.specs.Rules.{coded}
use Rattle.ssz_decisions.specs.Content.{EngineContent}
use Rattle.ssz_decisions.specs.Shown.{LeadsToPart, PartIsShown}
use Rattle.ssz_decisions.proofs.Brought.{over}
use Rattle.ssz_decisions.proofs.Showing.{shows-long, shows-short}
use Rattle.ssz_decisions.proofs.print_part.encoded.Goals as goal

pub returns-in-Ok-append_part-clause-ok : goal.returns-in-Ok-append_part-clause-ok
returns-in-Ok-append_part-clause-ok g c =
    let w = c.args.writer.0 in
    let v = c.args.v.now in
    let path = c.args.path.now in
    let place = c.in-Ok.place in
    let seen : EngineContent = over c.store.inside.schema c.store.inside.max
    c.store.inside.versions.entries c.store.inside.base c.store.inside.arena in
    let leads : LeadsToPart seen w v path place
    = subst (λ (s : EngineContent). LeadsToPart s w v path place) (sym c.store.view_is)
    (rw c.in-Ok.is at c.in_ok-place.ensures.ok) in
    subst (λ (s : EngineContent). PartIsShown serialize s w v path (Ok c.append_part.new.out.items))
    c.store.view_is
    (shows-short serialize seen w v path place c.append_part.new.out.items leads
    (λ value has. let a = c.in-Ok-append_part.ensures value has.fits has.has in (
      a.0,
      a.1 ∙ ap (λ (old : List ℕ). old ++ serialize (type_of seen.types place.id) value)
          c.new-text.ensures.items,
    )))

pub returns-in-Err-TooLong-clause-err : goal.returns-in-Err-TooLong-clause-err
returns-in-Err-TooLong-clause-err g c =
    let w = c.args.writer.0 in
    let v = c.args.v.now in
    let path = c.args.path.now in
    let place = c.in-Ok.place in
    let seen : EngineContent = over c.store.inside.schema c.store.inside.max
    c.store.inside.versions.entries c.store.inside.base c.store.inside.arena in
    let leads : LeadsToPart seen w v path place
    = subst (λ (s : EngineContent). LeadsToPart s w v path place) (sym c.store.view_is)
    (rw c.in-Ok.is at c.in_ok-place.ensures.ok) in
    let long = rw c.in-Err-TooLong.field-0-is at c.in-Err-TooLong.ensures in
    subst (λ (s : EngineContent). PartIsShown serialize s w v path (Err (coded TOO_LONG)))
    c.store.view_is
    (shows-long serialize seen w v path place leads
    (λ value has. (long value has.fits has.has).0))
