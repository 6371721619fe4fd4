use Rattle.std.proofs.Common.{◌+◌, ◌*◌, ◌≡◌, ◌++◌, drop, map, nat_lt}
use Rattle.serde_json.specs.Data.{array, object}
use Rattle.serde_json.specs.View.{items_of}
use Rattle.serde_json.specs.Written.{compact_text, members_text}
use Rattle.ssz_schema.specs.Unfolding.{type_of, fields_over}
use Rattle.ssz_value.specs.Standing.{value_of}
use Rattle.ssz_json_text.specs.Text.{json_of, members_json}
use Rattle.ssz_json_text.specs.Order.{in_order}
use Rattle.ssz_json_text.proofs.NameOrder.{members_over}
use Rattle.ssz_json_text.specs.Keeping.{Keeps}
use Rattle.ssz_json_text.proofs.Pieces.{elements_left, part_json}
use Rattle.ssz_json_text.proofs.appending.+append.Given as goal

abbrev pub decreases-append_fields : goal.decreases-append_fields
decreases-append_fields l = 8 * l.id

abbrev pub decreases-append_row : goal.decreases-append_row
decreases-append_row l = 8 * l.id + 1

abbrev pub decreases-append_container : goal.decreases-append_container
decreases-append_container l = 8 * l.id + 2

abbrev pub decreases-append_chosen : goal.decreases-append_chosen
decreases-append_chosen l = 8 * l.id + 2

abbrev pub decreases-append_value : goal.decreases-append_value
decreases-append_value l = 8 * l.id + 3

abbrev pub decreases-append_elements : goal.decreases-append_elements
decreases-append_elements l = 8 * l.elem + 4

abbrev pub decreases-append_sequence : goal.decreases-append_sequence
decreases-append_sequence l = 8 * l.elem + 5

abbrev pub invariant-append_elements-loop-i : goal.invariant-append_elements-loop-i
invariant-append_elements-loop-i l = record {
  text : l.out.items ++ elements_left (type_of l.schema l.elem) l.parts l.i
      ≡ l.fn.out.items ++ compact_text
      (array (items_of (map (json_of (type_of l.schema l.elem)) (map value_of l.parts))));
  front : Keeps l.fn.out.items l.out.items;
}

abbrev pub invariant-append_fields-loop-i : goal.invariant-append_fields-loop-i
invariant-append_fields-loop-i l = record {
  text : l.out.items ++ members_text (nat_lt 0 l.i) (members_over
      (part_json l.schema.trees l.row.fields.now l.parts) (drop l.i (in_order l.row.fields.now)))
      ≡ l.fn.out.items ++ compact_text
      (object (members_json (fields_over l.schema.trees l.row.fields.now) (map value_of l.parts)));
  front : Keeps l.fn.out.items l.out.items;
}
