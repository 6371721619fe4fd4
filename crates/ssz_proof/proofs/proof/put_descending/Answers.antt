use Rattle.std.proofs.Common.{◌<◌, set, sym, ap, ◌∙◌}
use Rattle.ssz_proof.specs.declared.entry.Entry.{Entry}
use Rattle.ssz_proof.proofs.Searching.{more-apart}
use Rattle.ssz_proof.proofs.Located.{set_there, none_there}
use Rattle.ssz_proof.proofs.proof.put_descending.Goals as goal

pub returns-in-Some : goal.returns-in-Some
returns-in-Some c =
    let place = rw (c.deref.ensures.value, c.get.ensures.number) at c.in-Some.ensures in
    ap (λ (entry : Entry). set c.args.entries.now.items c.in-Some.place
    (record entry { chunk = c.args.chunk })) c.index_mut.ensures.value
    ∙ set_there (λ one later. later < one) more-apart c.args.entries.now.items c.args.index
    c.in-Some.place c.args.chunk c.index_mut.result.now c.requires place

pub returns-in_default : goal.returns-in_default
returns-in_default c =
    let none = rw (c.deref.ensures.value, c.get.ensures.number) at c.in_default.ensures in
    sym (none_there c.args.entries.now.items c.args.index c.args.chunk none)
