use Rattle.std.proofs.Common.{◌≡◌, ◌≤◌, ◌++◌, List, length, map, take}
use Rattle.ssz_schema.specs.Sizes.{depth}
use Rattle.ssz_schema.specs.Unfolding.{type_of}
use Rattle.ssz_value.specs.Values.{SszValue}
use Rattle.ssz_value.specs.Encoding.{serialize}
use Rattle.ssz_arena.specs.Content.{tree_of}
use Rattle.ssz_nodes.specs.Beside.{FieldsAreNodes}
use Rattle.ssz_nodes.specs.Shown.{AreElements, ExtendsBytes}
use Rattle.ssz_writing.specs.Offsets.{rooms}
use Rattle.ssz_writing.proofs.Written.{alike}
use Rattle.ssz_writing.proofs.RowsWritten.{RowsSoFar}
use Rattle.ssz_writing.proofs.writer.Writer.append_gathered.Given as goal

abbrev pub invariant-loop-i : goal.invariant-loop-i
invariant-loop-i g l = record {
  nodes : FieldsAreNodes l.self.arena.now l.rows;
  depth : l.rows.depth ≡ depth (type_of l.self.schema.now l.few.id);
  kept : ExtendsBytes l.initial.out.items l.out.items;
  long : length l.heads ≡ 1024;
  within : l.len ≤ 1024;
  value : (vs : List SszValue)
      → AreElements (type_of l.self.schema.now l.few.id) l.fn.top.depth l.count vs
      (tree_of l.self.arena.now l.fn.top.node)
      → RowsSoFar l.self.arena.now (type_of l.self.schema.now l.few.id) vs l._i
      (l.initial.out.items ++ rooms (alike (type_of l.self.schema.now l.few.id) vs)
      (map (serialize (type_of l.self.schema.now l.few.id)) vs)) (l.out.items ++ take l.len l.heads)
      l.rows;
}
