use Rattle.std.proofs.Common.{ap, ◌∙◌}
use Rattle.ssz_types.specs.Lookup.{lookup_name}
use Rattle.ssz_types.proofs.NameLemmas.{lookup-named}
use Rattle.ssz_types.proofs.name_table.NameTable.find.Goals as goal

pub returns : goal.returns
returns c =
    c.copied.ensures ∙ c.get.ensures.value ∙ lookup-named c.self.inside.map.entries c.args.name.now
    ∙ ap (λ ns. lookup_name ns c.args.name.now) c.self.view_is
