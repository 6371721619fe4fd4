use Rattle.std.proofs.Common.{◌≤◌}
use Rattle.ssz_schema.proofs.SumLemmas.{SumsFrom}
use Rattle.ssz_schema.proofs.schema.Schema.sums.Given as goal

abbrev pub invariant-loop-field : goal.invariant-loop-field
invariant-loop-field l = record {
  told : SumsFrom l.self.trees l.fields l.field-index l.all_fixed l.default_len l.levels l.nesting;
  levels : l.levels ≤ 126;
  nesting : l.nesting ≤ 32;
}
