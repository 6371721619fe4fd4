use Rattle.ssz_parts.proofs.HeadLemmas.{HeadFrom}
use Rattle.ssz_parts.proofs.field_heads.fields_offsets_fault.Given as goal

abbrev pub invariant-loop-field : goal.invariant-loop-field
invariant-loop-field l =
    HeadFrom l.schema.trees l.fields l.start l.bytes l.heads l.field-index l.place l.before
