use Rattle.std.proofs.Common.{◌≡◌, ◌<◌, length, drop}
use Rattle.ssz_schema.specs.Paths.{path_type}
use Rattle.ssz_types.specs.Unfolding.{type_of}
use Rattle.ssz_schema.proofs.schema.Schema.path_type.Given as goal

abbrev pub invariant-loop-step : goal.invariant-loop-step
invariant-loop-step l = record {
  known : l.part < length l.self.trees;
  same : path_type (type_of l.self l.fn.id) l.path
      ≡ path_type (type_of l.self l.part) (drop l.step-index l.path);
}
