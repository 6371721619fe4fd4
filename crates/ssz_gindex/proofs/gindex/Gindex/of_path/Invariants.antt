use Rattle.std.proofs.Common.{◌<◌, length, drop}
use Rattle.ssz_schema.specs.Unfolding.{type_of}
use Rattle.ssz_gindex.proofs.PathWalk.{IsAlong}
use Rattle.ssz_gindex.proofs.gindex.Gindex.of_path.Given as goal

abbrev pub invariant-loop-step : goal.invariant-loop-step
invariant-loop-step l = record {
  known : l.part < length l.schema.trees;
  along : IsAlong (type_of l.schema l.fn.id) l.path l.index (type_of l.schema l.part)
      (drop l.step-index l.path);
}
