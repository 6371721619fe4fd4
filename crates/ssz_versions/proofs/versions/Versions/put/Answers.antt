use Rattle.std.proofs.Common.{◌∙◌, sym, ap, subst}
use Rattle.std.specs.FinMap as finite
use Rattle.std.specs.FinMap.Entries.{put}
use Rattle.ssz_versions.specs.Keys.{key_cmp}
use Rattle.ssz_versions.proofs.Changes.{shows, put_there, put_ordered}
use Rattle.ssz_versions.proofs.Ordered.{IsOrdered}
use Rattle.ssz_versions.proofs.versions.Versions.put.Goals as goal

pub invariant_of-self : goal.invariant_of-self
invariant_of-self c =
    subst IsOrdered
    (sym (c.insert.ensures
    ∙ ap (put key_cmp c.new-key.result (c.args.id, c.args.node)) c.replace-held.ensures.value))
    (put_ordered c.self.inside.held c.new-key.result (c.args.id, c.args.node) c.self.invariant)

pub returns-clause-entries : goal.returns-clause-entries
returns-clause-entries c =
    let shown = shows c.self.inside.held c.args.self.now.entries c.self.invariant
    (ap (λ versions. versions.entries) c.self.view_is) c.new-key.ensures c.as_bytes.ensures in
    ap (λ row. finite.from_sorted {R = key_cmp} row)
    (c.insert.ensures
    ∙ ap (put key_cmp c.new-key.result (c.args.id, c.args.node)) c.replace-held.ensures.value)
    ∙ put_there shown (c.args.id, c.args.node)
