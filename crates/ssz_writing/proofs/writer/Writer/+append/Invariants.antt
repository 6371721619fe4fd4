use Rattle.std.proofs.Common.{ℕ, ◌≡◌, ◌≤◌, ◌+◌, ◌-◌, ◌*◌, ◌++◌, List, length, map}
use Rattle.ssz_chunk.specs.Tree.{Tree}
use Rattle.ssz_schema.specs.Sizes.{depth, part_sizes}
use Rattle.ssz_schema.specs.Unfolding.{type_of, fields_over}
use Rattle.ssz_schema.specs.format.Format.{Format}
use Rattle.ssz_schema.specs.Legal.{AreLegalFields}
use Rattle.ssz_value.specs.Values.{SszValue}
use Rattle.ssz_value.specs.Encoding.{serialize, heads, bodies, field_encodings}
use Rattle.ssz_arena.specs.Content.{tree_of}
use Rattle.ssz_nodes.specs.Ahead.{AheadAreNodes}
use Rattle.ssz_nodes.specs.Ahead.{IsRowOf}
use Rattle.ssz_nodes.specs.Beside.{FieldsAreNodes}
use Rattle.ssz_nodes.specs.Shown.{AreElements, AreFieldsIn, ExtendsBytes}
use Rattle.ssz_writing.specs.Offsets.{KeepsUpTo, rooms}
use Rattle.ssz_writing.proofs.Written.{alike, HeadsSoFar, BodiesSoFar}
use Rattle.ssz_writing.proofs.RowsWritten.{RowsSoFar, RowBodiesSoFar}
use Rattle.ssz_writing.proofs.FieldsWritten.{FieldHeads, FieldBodies}
use Rattle.ssz_writing.proofs.writer.Writer.+append.Given as goal

abbrev pub decreases-append_value : goal.decreases-append_value
decreases-append_value g l = 16 * l.id + 4

abbrev pub decreases-append_chosen : goal.decreases-append_chosen
decreases-append_chosen g l = 16 * l.id + 1

abbrev pub decreases-append_fields : goal.decreases-append_fields
decreases-append_fields g l = 16 * l.id + 3

abbrev pub decreases-append_field_heads : goal.decreases-append_field_heads
decreases-append_field_heads g l = 16 * l.id + 2

abbrev pub decreases-append_field_bodies : goal.decreases-append_field_bodies
decreases-append_field_bodies g l = 16 * l.id + 2

abbrev pub decreases-append_field_head : goal.decreases-append_field_head
decreases-append_field_head g l = 16 * l.id + 5

abbrev pub decreases-append_field_body : goal.decreases-append_field_body
decreases-append_field_body g l = 16 * l.id + 6

abbrev pub decreases-append_body : goal.decreases-append_body
decreases-append_body g l = 16 * l.id + 5

abbrev pub decreases-append_part : goal.decreases-append_part
decreases-append_part g l = 16 * l.id + 5

abbrev pub decreases-append_heads : goal.decreases-append_heads
decreases-append_heads g l = 16 * l.elem + 8

abbrev pub decreases-append_containers : goal.decreases-append_containers
decreases-append_containers g l = 16 * l.few.now.id + 7

abbrev pub decreases-append_row : goal.decreases-append_row
decreases-append_row g l = 16 * l.few.now.id + 6

abbrev pub decreases-append_row_heads : goal.decreases-append_row_heads
decreases-append_row_heads g l = 16 * l.few.now.id + 5

abbrev pub decreases-append_row_parts : goal.decreases-append_row_parts
decreases-append_row_parts g l = 16 * l.few.now.id + 4

abbrev pub decreases-append_row_bodies : goal.decreases-append_row_bodies
decreases-append_row_bodies g l = 16 * l.few.now.id + 5

abbrev pub decreases-append_row_body : goal.decreases-append_row_body
decreases-append_row_body g l = 16 * l.few.now.id + 7

abbrev pub decreases-append_part_body : goal.decreases-append_part_body
decreases-append_part_body g l = 16 * l.id + 6

abbrev pub decreases-append_variable : goal.decreases-append_variable
decreases-append_variable g l = 16 * l.id + 5

abbrev pub decreases-append_rows : goal.decreases-append_rows
decreases-append_rows g l = 16 * l.few.now.id + 8

abbrev pub decreases-append_bodies : goal.decreases-append_bodies
decreases-append_bodies g l = 16 * l.elem + 9

abbrev pub decreases-append_sequence : goal.decreases-append_sequence
decreases-append_sequence g l = 16 * l.elem + 10

abbrev pub invariant-append_heads-loop-i : goal.invariant-append_heads-loop-i
invariant-append_heads-loop-i g l =
    AheadAreNodes l.self.arena.now l.places
    × ExtendsBytes l.initial.out.items l.out.items
    × ((vs : List SszValue)
    → AreElements (type_of l.self.schema.now l.elem) l.fn.top.depth l.count vs
    (tree_of l.self.arena.now l.fn.top.node)
    → HeadsSoFar l.self.arena.now (type_of l.self.schema.now l.elem) vs l._i
    (l.initial.out.items ++ rooms (alike (type_of l.self.schema.now l.elem) vs)
    (map (serialize (type_of l.self.schema.now l.elem)) vs)) l.out.items l.places)

abbrev pub invariant-append_bodies-loop-i : goal.invariant-append_bodies-loop-i
invariant-append_bodies-loop-i g l =
    AheadAreNodes l.self.arena.now l.places
    × (l.start ≤ l.room)
    × KeepsUpTo l.start l.initial.out.items l.out.items
    × ((vs : List SszValue)
    → AreElements (type_of l.self.schema.now l.elem) l.fn.top.depth l.count vs
    (tree_of l.self.arena.now l.fn.top.node)
    → (front : List ℕ) → length front ≡ l.start
    → l.initial.out.items ≡ front ++ rooms (alike (type_of l.self.schema.now l.elem) vs)
    (map (serialize (type_of l.self.schema.now l.elem)) vs)
    → BodiesSoFar l.self.arena.now (type_of l.self.schema.now l.elem) vs l._i l.start l.room
    (front ++ heads (alike (type_of l.self.schema.now l.elem) vs)
    (map (serialize (type_of l.self.schema.now l.elem)) vs) (length l.initial.out.items - l.start)
    ++ bodies (alike (type_of l.self.schema.now l.elem) vs)
    (map (serialize (type_of l.self.schema.now l.elem)) vs))
    l.out.items l.places)

abbrev pub invariant-append_field_heads-loop-i : goal.invariant-append_field_heads-loop-i
invariant-append_field_heads-loop-i g l =
    ExtendsBytes l.initial.out.items l.out.items
    × ((vs : List SszValue)
    → AreFieldsIn (fields_over l.self.schema.now.trees l.fields) l.fn.top.depth vs
    (tree_of l.self.arena.now l.fn.top.node)
    → FieldHeads l.self.schema.now.trees l.fields l.i l.fn.top.depth
    (l.initial.out.items ++ rooms (part_sizes (fields_over l.self.schema.now.trees l.fields))
    (field_encodings (fields_over l.self.schema.now.trees l.fields) vs)) l.out.items
    (tree_of l.self.arena.now l.fn.top.node))

abbrev pub invariant-append_field_bodies-loop-i : goal.invariant-append_field_bodies-loop-i
invariant-append_field_bodies-loop-i g l =
    (l.start ≤ l.room)
    × KeepsUpTo l.start l.initial.out.items l.out.items
    × ((format : Format) → AreLegalFields format (fields_over l.self.schema.now.trees l.fields)
    → (vs : List SszValue)
    → AreFieldsIn (fields_over l.self.schema.now.trees l.fields) l.fn.top.depth vs
    (tree_of l.self.arena.now l.fn.top.node)
    → (front : List ℕ) → length front ≡ l.start
    → l.initial.out.items ≡ front ++ rooms (part_sizes
    (fields_over l.self.schema.now.trees l.fields))
    (field_encodings (fields_over l.self.schema.now.trees l.fields) vs)
    → FieldBodies l.self.schema.now.trees l.fields l.i l.fn.top.depth l.start l.room
    (front ++ heads (part_sizes (fields_over l.self.schema.now.trees l.fields))
    (field_encodings (fields_over l.self.schema.now.trees l.fields) vs)
    (length l.initial.out.items - l.start)
    ++ bodies (part_sizes (fields_over l.self.schema.now.trees l.fields))
    (field_encodings (fields_over l.self.schema.now.trees l.fields) vs)) l.out.items
    (tree_of l.self.arena.now l.fn.top.node))

abbrev pub invariant-append_containers-loop-i : goal.invariant-append_containers-loop-i
invariant-append_containers-loop-i g l =
    FieldsAreNodes l.self.arena.now l.rows
    × (l.rows.depth ≡ depth (type_of l.self.schema.now l.few.id))
    × ExtendsBytes l.initial.out.items l.out.items
    × ((vs : List SszValue)
    → AreElements (type_of l.self.schema.now l.few.id) l.fn.top.depth l.count vs
    (tree_of l.self.arena.now l.fn.top.node)
    → RowsSoFar l.self.arena.now (type_of l.self.schema.now l.few.id) vs l._i
    (l.initial.out.items ++ rooms (alike (type_of l.self.schema.now l.few.id) vs)
    (map (serialize (type_of l.self.schema.now l.few.id)) vs)) l.out.items l.rows)

abbrev pub invariant-append_row_parts-loop-i : goal.invariant-append_row_parts-loop-i
invariant-append_row_parts-loop-i g l =
    ExtendsBytes l.initial.out.items l.out.items
    × ((node : Tree) → IsRowOf l.self.arena.now (depth (type_of l.self.schema.now l.few.id)) node
    l.row
    → (vs : List SszValue)
    → AreFieldsIn (fields_over l.self.schema.now.trees l.few.fields.now)
    (depth (type_of l.self.schema.now l.few.id)) vs node
    → FieldHeads l.self.schema.now.trees l.few.fields.now l.i
    (depth (type_of l.self.schema.now l.few.id))
    (l.initial.out.items ++ rooms (part_sizes (fields_over l.self.schema.now.trees
    l.few.fields.now))
    (field_encodings (fields_over l.self.schema.now.trees l.few.fields.now) vs)) l.out.items node)

abbrev pub invariant-append_row_bodies-loop-i : goal.invariant-append_row_bodies-loop-i
invariant-append_row_bodies-loop-i g l =
    (l.start ≤ l.room)
    × KeepsUpTo l.start l.initial.out.items l.out.items
    × ((format : Format) → AreLegalFields format (fields_over l.self.schema.now.trees
    l.few.fields.now)
    → (node : Tree) → IsRowOf l.self.arena.now (depth (type_of l.self.schema.now l.few.id)) node
    l.row
    → (vs : List SszValue)
    → AreFieldsIn (fields_over l.self.schema.now.trees l.few.fields.now)
    (depth (type_of l.self.schema.now l.few.id)) vs node
    → (front : List ℕ) → length front ≡ l.start
    → l.initial.out.items ≡ front ++ rooms (part_sizes
    (fields_over l.self.schema.now.trees l.few.fields.now))
    (field_encodings (fields_over l.self.schema.now.trees l.few.fields.now) vs)
    → FieldBodies l.self.schema.now.trees l.few.fields.now l.i
    (depth (type_of l.self.schema.now l.few.id)) l.start l.room
    (front ++ heads (part_sizes (fields_over l.self.schema.now.trees l.few.fields.now))
    (field_encodings (fields_over l.self.schema.now.trees l.few.fields.now) vs)
    (length l.initial.out.items - l.start)
    ++ bodies (part_sizes (fields_over l.self.schema.now.trees l.few.fields.now))
    (field_encodings (fields_over l.self.schema.now.trees l.few.fields.now) vs)) l.out.items node)

abbrev pub invariant-append_rows-loop-i : goal.invariant-append_rows-loop-i
invariant-append_rows-loop-i g l =
    FieldsAreNodes l.self.arena.now l.rows
    × (l.rows.depth ≡ depth (type_of l.self.schema.now l.few.id))
    × (l.start ≤ l.room)
    × KeepsUpTo l.start l.initial.out.items l.out.items
    × ((vs : List SszValue)
    → AreElements (type_of l.self.schema.now l.few.id) l.fn.top.depth l.count vs
    (tree_of l.self.arena.now l.fn.top.node)
    → (front : List ℕ) → length front ≡ l.start
    → l.initial.out.items ≡ front ++ rooms (alike (type_of l.self.schema.now l.few.id) vs)
    (map (serialize (type_of l.self.schema.now l.few.id)) vs)
    → RowBodiesSoFar l.self.arena.now (type_of l.self.schema.now l.few.id) vs l._i l.start l.room
    (front ++ heads (alike (type_of l.self.schema.now l.few.id) vs)
    (map (serialize (type_of l.self.schema.now l.few.id)) vs) (length l.initial.out.items - l.start)
    ++ bodies (alike (type_of l.self.schema.now l.few.id) vs)
    (map (serialize (type_of l.self.schema.now l.few.id)) vs))
    l.out.items l.rows)
