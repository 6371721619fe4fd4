use Rattle.std.proofs.Common.{List, ℕ, ◌+◌, ◌*◌, ◌≡◌, ◌++◌, drop, map, nat_lt}
use Rattle.serde_json.specs.Data.{array, object}
use Rattle.serde_json.specs.View.{items_of}
use Rattle.serde_json.specs.Written.{compact_text, members_text}
use Rattle.ssz_schema.specs.Unfolding.{type_of, fields_over}
use Rattle.ssz_value.specs.Standing.{value_of}
use Rattle.ssz_json_text.specs.Text.{json_of, members_json}
use Rattle.ssz_json_text.specs.Order.{in_order}
use Rattle.ssz_json_text.proofs.NameOrder.{members_over}
use Rattle.ssz_json_text.proofs.Pieces.{elements_left, part_json}
use Rattle.ssz_json_text.proofs.comparing.+after.Given as goal

abbrev pub decreases-after_fields : goal.decreases-after_fields
decreases-after_fields l = 8 * l.id

abbrev pub decreases-after_row : goal.decreases-after_row
decreases-after_row l = 8 * l.id + 1

abbrev pub decreases-after_container : goal.decreases-after_container
decreases-after_container l = 8 * l.id + 2

abbrev pub decreases-after_value : goal.decreases-after_value
decreases-after_value l = 8 * l.id + 3

abbrev pub decreases-after_elements : goal.decreases-after_elements
decreases-after_elements l = 8 * l.elem + 4

abbrev pub decreases-after_sequence : goal.decreases-after_sequence
decreases-after_sequence l = 8 * l.elem + 5

-- what the bytes are, where those that are left begin with what is left of the text
abbrev pub invariant-after_elements-loop-i : goal.invariant-after_elements-loop-i
invariant-after_elements-loop-i l = (z : List ℕ)
    → l.rest ≡ elements_left (type_of l.schema l.elem) l.parts l.i ++ z
    → l.bytes ≡ compact_text
    (array (items_of (map (json_of (type_of l.schema l.elem)) (map value_of l.parts)))) ++ z

abbrev pub invariant-after_fields-loop-i : goal.invariant-after_fields-loop-i
invariant-after_fields-loop-i l = (z : List ℕ)
    → l.rest ≡ members_text (nat_lt 0 l.i) (members_over
    (part_json l.schema.trees l.row.fields.now l.parts) (drop l.i (in_order l.row.fields.now))) ++ z
    → l.bytes ≡ compact_text (object (members_json
    (fields_over l.schema.trees l.row.fields.now) (map value_of l.parts))) ++ z
