use Rattle.std.proofs.Common.{◌≡◌, ◌++◌, length, ap, ◌∙◌, arith}
use Rattle.std.specs.FinMap.Entries.{find}
use Rattle.ssz_versions.specs.Content.{entry_names}
use Rattle.ssz_versions.specs.Keys.{key_cmp}
use Rattle.ssz_versions.specs.Lists.{relabelled}
use Rattle.ssz_versions.proofs.Inserting.{adopted}
use Rattle.ssz_versions.proofs.Ordered.{Row}
use Rattle.ssz_versions.proofs.Relabelled.{as_many_names}
use Rattle.ssz_versions.proofs.versions.Versions.adopt.Goals as goal

pub returns-clause-ok : goal.returns-clause-ok
returns-clause-ok c =
    let added = c.relabelled.new.own.items in
    adopted c.self.inside.held c.with_all.result added c.args.self.now.entries c.args.from.0
    c.args.to.0 c.self.invariant (ap (λ versions. versions.entries) c.self.view_is)
    c.with_all.ensures.ordered
    (c.in_ok-relabelled.ensures
    ∙ ap (λ row. row ++ relabelled c.args.from.0 c.args.to.0 c.self.inside.held)
    c.new-added.ensures.items)
    (λ q. c.with_all.ensures.entries q
    ∙ ap (λ row. find key_cmp q (added ++ row)) c.replace-held.ensures.value)
    c.requires

pub returns-clause-spare : goal.returns-clause-spare
returns-clause-spare c =
    let added : length c.relabelled.new.own.items
    ≡ length (entry_names c.args.self.now.entries c.args.from.0) =
    ap (λ (row : Row). length row)
    (c.in_ok-relabelled.ensures
    ∙ ap (λ row. row ++ relabelled c.args.from.0 c.args.to.0 c.self.inside.held)
    c.new-added.ensures.items)
    ∙ as_many_names c.self.inside.held c.args.self.now.entries c.args.from.0 c.args.to.0
    c.self.invariant (ap (λ versions. versions.entries) c.self.view_is) in
    omega (
      arith,
      added,
      c.relabelled.new.own.ok,
      c.with_all.ensures.spare,
      c.reserve.ensures.more,
      ap (λ versions. versions.spare) c.self.view_is,
    )
