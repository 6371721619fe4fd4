use Rattle.std.proofs.Common.{ap, ◌∙◌}
use Rattle.ssz_versions.proofs.Changes.{shows, held_there}
use Rattle.ssz_versions.proofs.versions.Versions.get.Goals as goal

pub returns : goal.returns
returns c =
    let shown = shows c.self.inside.held c.args.self.now.entries c.self.invariant
    (ap (λ versions. versions.entries) c.self.view_is) c.new.ensures c.as_bytes.ensures in
    c.find.ensures ∙ held_there shown
