use Rattle.ssz_parts.proofs.HeadLemmas.{HeadSum}
use Rattle.ssz_parts.proofs.field_heads.heads_len.Given as goal

abbrev pub invariant-loop-field : goal.invariant-loop-field
invariant-loop-field l = HeadSum l.schema.trees l.fields l.field-index l.len
