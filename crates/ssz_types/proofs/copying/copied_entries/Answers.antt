use Rattle.std.proofs.Common.{List, subst, sym, take, ◌+◌}
use Rattle.std.specs.List.{AllZip}
use Rattle.std.proofs.lemmas.List.Elements.{all_zip_more}
use Rattle.ssz_types.specs.declared.entry.Entry.{Entry}
use Rattle.ssz_types.specs.Copies.{IsSameEntry}
use Rattle.ssz_types.proofs.copying.copied_entries.Goals as goal

pub loop-entry-preserved : goal.loop-entry-preserved
loop-entry-preserved c =
    subst (λ (copies : List Entry). AllZip IsSameEntry
    (take (c.loop-entry.entry-index + 1) c.args.entries.now) copies)
    (sym c.in_ok-push.ensures.items)
    (all_zip_more IsSameEntry c.args.entries.now c.loop-entry.copies.items c.loop-entry.entry-index
    c.entry-item.result c.in_ok-copied.field-0 c.loop-entry-test.true c.entry-item.is
    c.loop-entry.invariant c.in_ok-copied.ensures)
