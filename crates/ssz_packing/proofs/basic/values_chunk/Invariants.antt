use Rattle.std.proofs.Common.{◌≡◌, ◌*◌, ◌/◌, drop, length, map, Some}
use Rattle.std.specs.List.{AllByRecursion}
use Rattle.ssz_schema.specs.Types.{SszType}
use Rattle.ssz_schema.specs.Sizes.{basic_size}
use Rattle.ssz_value.specs.Values.{Fits}
use Rattle.ssz_value.specs.Standing.{value_of}
use Rattle.ssz_packing.specs.Elements.{encodings_of}
use Rattle.ssz_packing.proofs.Filling.{IsFilled}
use Rattle.ssz_packing.proofs.basic.values_chunk.Given as goal

abbrev pub invariant-loop-k : goal.invariant-loop-k
invariant-loop-k l = record {
  count : length l.bytes ≡ 32;
  filled : (t : SszType) → basic_size t ≡ Some l.size
      → AllByRecursion (Fits t) (map value_of l.fn.parts)
      → IsFilled l.size (drop (32 / l.size * l.fn.i) (encodings_of t l.fn.parts)) l.k l.bytes;
}
