use Rattle.std.proofs.Common.{List, refl, subst, ◌∙◌}
use Rattle.std.specs.List.{AllZip}
use Rattle.ssz_types.specs.declared.entry.Entry.{Entry}
use Rattle.ssz_schema.specs.declared.schema.Schema.TheInside.{Inside}
use Rattle.ssz_types.specs.Copies.{IsSameEntry}
use Rattle.ssz_schema.proofs.CopyLemmas.{IsSchema-copied, types_of-copied}
use Rattle.ssz_schema.proofs.schema.Schema.copied.Goals as goal

pub invariant_of-result : goal.invariant_of-result
invariant_of-result c =
    IsSchema-copied c.self.inside _ c.self.invariant refl c.in_ok-copied.ensures
    (subst (λ (es : List Entry). AllZip IsSameEntry es c.in_ok-copied_entries.field-0.items)
    c.as_slice.ensures.value c.in_ok-copied_entries.ensures)

pub returns : goal.returns
returns c =
    let copy : Inside = record {
      format = c.self.inside.format;
      entries = c.in_ok-copied_entries.field-0;
      names = c.in_ok-copied.field-0;
    } in
    types_of-copied c.self.inside copy refl c.in_ok-copied.ensures
    (subst (λ (es : List Entry). AllZip IsSameEntry es c.in_ok-copied_entries.field-0.items)
    c.as_slice.ensures.value c.in_ok-copied_entries.ensures)
    ∙ c.self.view_is
