use Rattle.std.proofs.Common.{◌+◌, ◌/◌, length, map}
use Rattle.ssz_value.specs.Trees.{chunks}
use Rattle.ssz_packing.proofs.BitValues.{bytes_of_bits}
use Rattle.ssz_making.specs.Parts.{chunk_part}
use Rattle.ssz_tree.proofs.Gathering.{First}
use Rattle.ssz_tree.proofs.packed_values.bit_values_node.Given as goal

abbrev pub invariant-loop-i : goal.invariant-loop-i
invariant-loop-i g l = First l.initial.arena l.arena l.depth l.leaves
    (map chunk_part (chunks ((length l.bits + 255) / 256) (bytes_of_bits l.bits))) l.i
