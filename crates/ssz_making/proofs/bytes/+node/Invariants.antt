use Rattle.std.proofs.Common.{◌+◌, ◌-◌, ◌*◌, map, take}
use Rattle.ssz_schema.specs.Unfolding.{type_of}
use Rattle.ssz_parts.specs.PartValues.{element_values}
use Rattle.ssz_making.specs.Parts.{part_of_value}
use Rattle.ssz_making.proofs.FieldGathering.{FirstFields}
use Rattle.ssz_making.proofs.bytes.+node.Given as goal

abbrev pub decreases-bytes_part : goal.decreases-bytes_part
decreases-bytes_part g l = 3 * l.id + 2

abbrev pub decreases-elements_made : goal.decreases-elements_made
decreases-elements_made g l = 3 * l.elem + 4

abbrev pub decreases-parts_made : goal.decreases-parts_made
decreases-parts_made g l = 3 * l.elem + 3

abbrev pub decreases-fields_made : goal.decreases-fields_made
decreases-fields_made g l = 3 * l.id + 1

abbrev pub decreases-union_made : goal.decreases-union_made
decreases-union_made g l = 3 * l.id + 1

abbrev pub decreases-option_made : goal.decreases-option_made
decreases-option_made g l = 3 * l.id

abbrev pub decreases-parts_made-elements : goal.decreases-parts_made-elements
decreases-parts_made-elements g l = l.count - l.i

abbrev pub invariant-parts_made-elements : goal.invariant-parts_made-elements
invariant-parts_made-elements g l =
    g.M.Maker.gathered l.fn.maker l.maker l.depth l.count
    (take l.i (map (part_of_value (type_of l.schema l.elem))
    (element_values (type_of l.schema l.elem) l.count l.bytes))) l.rows

abbrev pub invariant-fields_made-loop-i : goal.invariant-fields_made-loop-i
invariant-fields_made-loop-i g l =
    FirstFields g.M.Maker.gathered l.initial.maker l.maker l.depth l.rows l.schema.trees l.fields
    l.bytes l.i l.place
