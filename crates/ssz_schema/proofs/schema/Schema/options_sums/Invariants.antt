use Rattle.std.proofs.Common.{◌≤◌}
use Rattle.ssz_schema.proofs.OptionLemmas.{OptionsFrom}
use Rattle.ssz_schema.proofs.schema.Schema.options_sums.Given as goal

abbrev pub invariant-loop-option : goal.invariant-loop-option
invariant-loop-option l = record {
  told : OptionsFrom l.self.trees l.options l.option-index l.levels l.nesting;
  levels : l.levels ≤ 126;
  nesting : l.nesting ≤ 32;
}
