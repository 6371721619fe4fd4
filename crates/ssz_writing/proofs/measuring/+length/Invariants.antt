use Rattle.std.proofs.Common.{◌+◌, ◌*◌, List}
use Rattle.ssz_schema.specs.Unfolding.{type_of, fields_over}
use Rattle.ssz_value.specs.Values.{SszValue}
use Rattle.ssz_arena.specs.Content.{tree_of}
use Rattle.ssz_nodes.specs.Ahead.{AheadAreNodes}
use Rattle.ssz_nodes.specs.Shown.{AreElements, AreFieldsIn}
use Rattle.ssz_nodes.proofs.Walked.{Sums, FieldSums}
use Rattle.ssz_writing.proofs.measuring.+length.Given as goal

abbrev pub decreases-node_len : goal.decreases-node_len
decreases-node_len g l = 6 * l.id + 3

abbrev pub decreases-variable_len : goal.decreases-variable_len
decreases-variable_len g l = 6 * l.id + 2

abbrev pub decreases-chosen_len : goal.decreases-chosen_len
decreases-chosen_len g l = 6 * l.id + 1

abbrev pub decreases-fields_len : goal.decreases-fields_len
decreases-fields_len g l = 6 * l.id + 1

abbrev pub decreases-elements_len : goal.decreases-elements_len
decreases-elements_len g l = 6 * l.elem + 4

abbrev pub decreases-field_len : goal.decreases-field_len
decreases-field_len g l = 6 * l.id + 4

abbrev pub invariant-elements_len-loop-i : goal.invariant-elements_len-loop-i
invariant-elements_len-loop-i g l =
    AheadAreNodes l.arena l.places
    × ((vs : List SszValue)
    → AreElements (type_of l.schema l.elem) l.fn.top.depth l.count vs
    (tree_of l.arena l.fn.top.node)
    → Sums l.arena (type_of l.schema l.elem) vs l._i l.total l.places)

abbrev pub invariant-fields_len-loop-i : goal.invariant-fields_len-loop-i
invariant-fields_len-loop-i g l =
    (vs : List SszValue)
    → AreFieldsIn (fields_over l.schema.trees l.fields) l.fn.top.depth vs
    (tree_of l.arena l.fn.top.node)
    → FieldSums l.schema.trees l.fields vs l.i l.total l.fn.top.depth
    (tree_of l.arena l.fn.top.node)
