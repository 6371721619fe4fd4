use Rattle.std.proofs.Common.{ℕ, ◌≡◌, ◌+◌, ◌*◌, ◌≤◌, ◌++◌, List, length, map, take, drop, vec_len, vec_capacity}
use Rattle.std.specs.List.{AllByRecursion, concat}
use Rattle.ssz_value.specs.Values.{SszValue, Fits}
use Rattle.ssz_value.specs.Encoding.{serialize}
use Rattle.ssz_value.specs.Standing.{value_of}
use Rattle.ssz_nodes.specs.Shown.{AreChunksFrom, basic_type}
use Rattle.ssz_reading.proofs.packed.append_row.Given as goal

abbrev pub invariant-loop-node : goal.invariant-loop-node
invariant-loop-node g l = record {
  values : (vs : List SszValue) (j : ℕ) → AllByRecursion (Fits (basic_type l.basic)) vs
      → AreChunksFrom l.arena (concat (map (serialize (basic_type l.basic)) vs)) j l.row
      → l.per_chunk * (j + length l.row) ≤ length vs
      → map value_of l.parts.items ≡ map value_of l.initial.parts.items
      ++ take (l.per_chunk * l.node-index) (drop (l.per_chunk * j) vs);
  len : vec_len l.parts ≡ vec_len l.initial.parts + l.per_chunk * l.node-index;
  capacity : vec_capacity l.parts ≡ vec_capacity l.initial.parts;
}
