use Rattle.std.proofs.Common.{◌∙◌, refl, sym, ap, subst}
use Rattle.std.specs.FinMap as finite
use Rattle.ssz_versions.specs.Keys.{key_cmp}
use Rattle.ssz_versions.specs.Trees.{without}
use Rattle.ssz_versions.proofs.Changes.{shows, none_there, some_there, removed_there, without_ordered}
use Rattle.ssz_versions.proofs.Ordered.{IsOrdered}
use Rattle.ssz_versions.proofs.versions.Versions.drop_version.Goals as goal

pub returns-then-is_none-clause-dropped : goal.returns-then-is_none-clause-dropped
returns-then-is_none-clause-dropped c =
    let shown = shows c.self.inside.held c.args.self.now.entries c.self.invariant
    (ap (λ versions. versions.entries) c.self.view_is) c.new-key.ensures c.as_bytes.ensures in
    (none_there shown _ c.find.ensures c.if-is_none.ensures, refl)

pub invariant_of-self : goal.invariant_of-self
invariant_of-self c =
    subst IsOrdered
    (sym (c.remove.ensures ∙ ap (without c.new-key.result) c.replace-held.ensures.value))
    (without_ordered c.self.inside.held c.new-key.result c.self.invariant)

pub returns-clause-dropped : goal.returns-clause-dropped
returns-clause-dropped c =
    let shown = shows c.self.inside.held c.args.self.now.entries c.self.invariant
    (ap (λ versions. versions.entries) c.self.view_is) c.new-key.ensures c.as_bytes.ensures in (
      some_there shown _ c.find.ensures c.if-is_none.ensures,
      ap (λ row. finite.from_sorted {R = key_cmp} row)
          (c.remove.ensures ∙ ap (without c.new-key.result) c.replace-held.ensures.value)
          ∙ removed_there shown,
    )
