use Rattle.std.proofs.Common.{◌+◌, ◌≤◌, List, map, vec_len, vec_capacity}
use Rattle.ssz_value.specs.Values.{SszValue}
use Rattle.ssz_value.specs.Standing.{value_of}
use Rattle.ssz_arena.specs.Content.{tree_of}
use Rattle.ssz_nodes.specs.Ahead.{AheadAreNodes}
use Rattle.ssz_nodes.specs.Shown.{AreElements, basic_type}
use Rattle.ssz_reading.proofs.PackedParts.{ValuesLeft}
use Rattle.ssz_reading.proofs.packed.read_each.Given as goal

abbrev pub invariant-loop-left : goal.invariant-loop-left
invariant-loop-left g l = record {
  nodes : AheadAreNodes l.arena l.places;
  values : (vs : List SszValue)
      → AreElements (basic_type l.basic) l.fn.top.depth l.count vs (tree_of l.arena l.fn.top.node)
      → ValuesLeft l.arena (basic_type l.basic) l.per_chunk vs l.left (map value_of l.parts.items)
      l.places;
  room : vec_len l.parts + l.left ≤ vec_capacity l.parts;
}

abbrev pub decreases-loop-left : goal.decreases-loop-left
decreases-loop-left g l = l.left
