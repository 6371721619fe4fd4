use Rattle.std.proofs.Common.{◌≡◌, ◌+◌, ◌*◌, ◌/◌, length, map, Some}
use Rattle.std.specs.List.{concat, AllByRecursion}
use Rattle.ssz_schema.specs.Types.{SszType}
use Rattle.ssz_schema.specs.Sizes.{basic_size}
use Rattle.ssz_value.specs.Values.{Fits}
use Rattle.ssz_value.specs.Standing.{value_of}
use Rattle.ssz_value.specs.Trees.{chunks}
use Rattle.ssz_packing.specs.Elements.{encodings_of}
use Rattle.ssz_making.specs.Parts.{chunk_part}
use Rattle.ssz_tree.proofs.Gathering.{First}
use Rattle.ssz_tree.proofs.packed_values.packed_values_node.Given as goal

abbrev pub invariant-loop-i : goal.invariant-loop-i
invariant-loop-i g l = record {
  first : (t : SszType) → basic_size t ≡ Some l.size
      → AllByRecursion (Fits t) (map value_of l.parts)
      → First l.initial.arena l.arena l.depth l.leaves
      (map chunk_part (chunks ((length l.parts * l.size + 31) / 32)
      (concat (encodings_of t l.parts)))) l.i;
}
