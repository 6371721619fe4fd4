use Rattle.std.proofs.Common.{◌++◌, map, ◌∙◌, ap}
use Rattle.ssz_versions.specs.Lists.{relabelled}
use Rattle.ssz_versions.proofs.Relabelled.{names_are}
use Rattle.ssz_versions.proofs.versions.Versions.names.Goals as goal

pub returns : goal.returns
returns c =
    let writer = c.args.writer.0 in
    c.from_vec.ensures ∙ c.in_ok-names.ensures
    ∙ ap (λ row. row ++ map (λ entry. entry.0.1) (relabelled writer writer c.self.inside.held))
    c.new-names.ensures.items
    ∙ names_are c.self.inside.held c.args.self.now.entries writer c.self.invariant
    (ap (λ versions. versions.entries) c.self.view_is)
