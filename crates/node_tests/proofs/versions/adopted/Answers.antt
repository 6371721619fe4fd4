use Rattle.std.proofs.Common.{◌∙◌, ap}
use Rattle.std.specs.FinMap as finite
use Rattle.ssz_versions.specs.Content.{held_at}
use Rattle.ssz_versions.specs.Keys.{key_cmp}
use Rattle.ssz_versions.proofs.Beside.{held_made}
use Rattle.node_tests.proofs.versions.adopted.Goals as goal

pub adopt-requires : goal.adopt-requires
adopt-requires c = λ name.
    ap (λ m. held_at m 0 name) c.in_ok-make.ensures.made.1
    ∙ held_made _ 255 0 _ name _
    ∙ ap (λ m. held_at m 0 name) c.in_ok-reserve.ensures.entries
    ∙ ap (λ m. held_at m 0 name) c.in_ok-versions.ensures
    ∙ finite.get-empty key_cmp (0, name)
