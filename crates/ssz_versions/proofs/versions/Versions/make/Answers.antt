use Rattle.std.proofs.Common.{◌∙◌, refl, sym, ap, subst}
use Rattle.std.specs.FinMap as finite
use Rattle.std.specs.FinMap.Entries.{put}
use Rattle.ssz_versions.specs.Keys.{key_cmp}
use Rattle.ssz_versions.proofs.Changes.{shows, none_there, some_there, put_there, put_ordered}
use Rattle.ssz_versions.proofs.Ordered.{IsOrdered}
use Rattle.ssz_versions.proofs.versions.Versions.make.Goals as goal

pub returns-then-is_some-clause-made : goal.returns-then-is_some-clause-made
returns-then-is_some-clause-made c =
    let shown = shows c.self.inside.held c.args.self.now.entries c.self.invariant
    (ap (λ versions. versions.entries) c.self.view_is) c.new-key.ensures c.as_bytes.ensures in
    (some_there shown _ c.find.ensures (sym c.if-is_some.ensures), refl)

pub invariant_of-self : goal.invariant_of-self
invariant_of-self c =
    subst IsOrdered
    (sym (c.insert.ensures
    ∙ ap (put key_cmp c.new-key.result (c.args.id, c.args.node)) c.replace-held.ensures.value))
    (put_ordered c.self.inside.held c.new-key.result (c.args.id, c.args.node) c.self.invariant)

pub returns-in-Ok-clause-made : goal.returns-in-Ok-clause-made
returns-in-Ok-clause-made c =
    let shown = shows c.self.inside.held c.args.self.now.entries c.self.invariant
    (ap (λ versions. versions.entries) c.self.view_is) c.new-key.ensures c.as_bytes.ensures in (
      none_there shown _ c.find.ensures (sym c.is_some.ensures ∙ c.if-is_some.false),
      ap (λ row. finite.from_sorted {R = key_cmp} row)
          (c.insert.ensures
          ∙ ap (put key_cmp c.new-key.result (c.args.id, c.args.node)) c.replace-held.ensures.value)
          ∙ put_there shown (c.args.id, c.args.node),
    )

pub returns-in-Err-clause-made : goal.returns-in-Err-clause-made
returns-in-Err-clause-made c =
    let shown = shows c.self.inside.held c.args.self.now.entries c.self.invariant
    (ap (λ versions. versions.entries) c.self.view_is) c.new-key.ensures c.as_bytes.ensures in (
      none_there shown _ c.find.ensures (sym c.is_some.ensures ∙ c.if-is_some.false),
      sym (ap (λ versions. versions.spare) c.self.view_is) ∙ c.in-Err.ensures.err,
      shown.view,
    )
