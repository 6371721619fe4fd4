use Rattle.std.proofs.Common.{◌∙◌}
use Rattle.std.specs.List.{each_same}
use Rattle.ssz_types.proofs.NameLemmas.{named-copied}
use Rattle.ssz_types.proofs.name_table.NameTable.copied.Goals as goal

pub returns : goal.returns
returns c =
    named-copied _ (λ e f same. (each_same e.0.items f.0.items same.0.0, same.1))
    c.self.inside.map.entries c.in_ok-clone.field-0.entries c.in_ok-clone.ensures.cases
    ∙ c.self.view_is
