use Rattle.std.proofs.Common.{◌+◌, ◌-◌, ◌*◌, length, map, take}
use Rattle.ssz_schema.specs.Unfolding.{type_of, fields_over}
use Rattle.ssz_value.specs.Standing.{value_of}
use Rattle.ssz_making.specs.Parts.{part_of_value, field_parts}
use Rattle.ssz_making.proofs.values.+value.Given as goal

abbrev pub decreases-value_part : goal.decreases-value_part
decreases-value_part g l = 4 * l.id + 2

abbrev pub decreases-sequence_made : goal.decreases-sequence_made
decreases-sequence_made g l = 4 * l.elem + 5

abbrev pub decreases-values_made : goal.decreases-values_made
decreases-values_made g l = 4 * l.elem + 4

abbrev pub decreases-container_made : goal.decreases-container_made
decreases-container_made g l = 4 * l.id + 1

abbrev pub decreases-field_values_made : goal.decreases-field_values_made
decreases-field_values_made g l = 4 * l.id

abbrev pub decreases-chosen_made : goal.decreases-chosen_made
decreases-chosen_made g l = 4 * l.id

abbrev pub decreases-values_made-elements : goal.decreases-values_made-elements
decreases-values_made-elements g l = length l.parts - l.i

abbrev pub invariant-values_made-elements : goal.invariant-values_made-elements
invariant-values_made-elements g l =
    g.M.Maker.gathered l.fn.maker l.maker l.depth (length l.parts)
    (take l.i (map (part_of_value (type_of l.schema l.elem)) (map value_of l.parts))) l.rows

abbrev pub invariant-field_values_made-loop-i : goal.invariant-field_values_made-loop-i
invariant-field_values_made-loop-i g l =
    g.M.Maker.gathered l.initial.maker l.maker l.depth (length l.fields)
    (take l.i (field_parts (fields_over l.schema.trees l.fields) (map value_of l.parts))) l.rows
