use Rattle.std.proofs.Common.{◌+◌, ◌/◌, map}
use Rattle.ssz_value.specs.Trees.{chunks}
use Rattle.ssz_packing.specs.Bits.{undelimited}
use Rattle.ssz_making.specs.Parts.{chunk_part}
use Rattle.ssz_tree.proofs.Gathering.{First}
use Rattle.ssz_tree.proofs.packed.bits_node.Given as goal

abbrev pub invariant-loop-i : goal.invariant-loop-i
invariant-loop-i g l = First l.initial.arena l.arena l.depth l.leaves
    (map chunk_part (chunks ((l.len + 255) / 256) (undelimited l.bytes))) l.i
