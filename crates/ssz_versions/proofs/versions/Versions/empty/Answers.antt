use Rattle.std.proofs.Common.{◌∙◌, ap}
use Rattle.std.specs.FinMap as finite
use Rattle.ssz_versions.specs.Keys.{key_cmp}
use Rattle.ssz_versions.proofs.Changes.{empty_is}
use Rattle.ssz_versions.proofs.versions.Versions.empty.Goals as goal

pub returns : goal.returns
returns c = ap (λ row. finite.from_sorted {R = key_cmp} row) c.empty.ensures ∙ empty_is
