use Rattle.ssz_parts.proofs.HeadLemmas.{HeadFrom-start}
use Rattle.ssz_parts.proofs.field_heads.fields_offsets_fault.Goals as goal

pub loop-field-init : goal.loop-field-init
loop-field-init c =
    HeadFrom-start c.args.schema.now.trees c.args.fields.now c.args.start c.args.bytes.now
    c.args.heads c.requires.heads c.requires.room
