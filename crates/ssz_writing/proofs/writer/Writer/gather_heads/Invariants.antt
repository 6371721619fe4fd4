use Rattle.std.proofs.Common.{◌≡◌, ◌+◌, ◌*◌, ◌≤◌, ◌++◌, List, length, take}
use Rattle.ssz_chunk.specs.Tree.{Tree}
use Rattle.ssz_schema.specs.Sizes.{depth, part_sizes}
use Rattle.ssz_schema.specs.Unfolding.{type_of, fields_over}
use Rattle.ssz_value.specs.Values.{SszValue}
use Rattle.ssz_value.specs.Encoding.{field_encodings}
use Rattle.ssz_nodes.specs.Ahead.{IsRowOf}
use Rattle.ssz_nodes.specs.Shown.{AreFieldsIn}
use Rattle.ssz_writing.specs.Offsets.{rooms}
use Rattle.ssz_writing.proofs.FieldsWritten.{FieldHeads}
use Rattle.ssz_writing.proofs.writer.Writer.gather_heads.Given as goal

abbrev pub invariant-loop-i : goal.invariant-loop-i
invariant-loop-i g l = record {
  long : length l.heads ≡ length l.initial.heads;
  within : l.end ≤ l.at + 32 * l.i;
  value : (node : Tree)
      → IsRowOf l.self.arena.now (depth (type_of l.self.schema.now l.few.id)) node l.row
      → (vs : List SszValue)
      → AreFieldsIn (fields_over l.self.schema.now.trees l.few.fields.now)
      (depth (type_of l.self.schema.now l.few.id)) vs node
      → FieldHeads l.self.schema.now.trees l.few.fields.now l.i
      (depth (type_of l.self.schema.now l.few.id))
      (take l.at l.initial.heads
      ++ rooms (part_sizes (fields_over l.self.schema.now.trees l.few.fields.now))
      (field_encodings (fields_over l.self.schema.now.trees l.few.fields.now) vs))
      (take l.end l.heads) node;
}
