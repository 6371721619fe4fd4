use Rattle.std.proofs.Common.{◌+◌, ◌*◌}
use Rattle.ssz_schema.specs.Unfolding.{type_of}
use Rattle.ssz_codec.proofs.WritingLemmas.{ElementsLeft, FieldsLeft}
use Rattle.ssz_codec.proofs.encoding.+write.Given as goal

abbrev pub decreases-write_value : goal.decreases-write_value
decreases-write_value l = 6 * l.id + 3

abbrev pub decreases-write_chosen : goal.decreases-write_chosen
decreases-write_chosen l = 6 * l.id + 2

abbrev pub decreases-write_container : goal.decreases-write_container
decreases-write_container l = 6 * l.id + 2

abbrev pub decreases-write_fields : goal.decreases-write_fields
decreases-write_fields l = 6 * l.id + 1

abbrev pub decreases-put_fields : goal.decreases-put_fields
decreases-put_fields l = 6 * l.id

abbrev pub decreases-put_part : goal.decreases-put_part
decreases-put_part l = 6 * l.id + 4

abbrev pub decreases-put_elements : goal.decreases-put_elements
decreases-put_elements l = 6 * l.elem + 5

abbrev pub decreases-write_elements : goal.decreases-write_elements
decreases-write_elements l = 6 * l.elem + 6

abbrev pub decreases-write_sequence : goal.decreases-write_sequence
decreases-write_sequence l = 6 * l.elem + 7

abbrev pub invariant-put_elements-loop-part : goal.invariant-put_elements-loop-part
invariant-put_elements-loop-part l =
    ElementsLeft (type_of l.schema l.elem) l.parts l.part-index l.at l.front l.back

abbrev pub invariant-put_fields-loop-i : goal.invariant-put_fields-loop-i
invariant-put_fields-loop-i l = FieldsLeft l.schema.trees l.fields l.parts l.i l.at l.front l.back
