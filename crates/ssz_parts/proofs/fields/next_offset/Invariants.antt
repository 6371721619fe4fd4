use Rattle.ssz_parts.proofs.FieldLemmas.{NextFrom}
use Rattle.ssz_parts.proofs.fields.next_offset.Given as goal

abbrev pub invariant-loop-field : goal.invariant-loop-field
invariant-loop-field l = NextFrom l.schema.trees l.fn.fields l.fn.place l.fn.bytes l.field-index
    l.place
