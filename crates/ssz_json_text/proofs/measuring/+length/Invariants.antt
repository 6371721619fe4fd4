use Rattle.std.proofs.Common.{◌+◌, ◌*◌}
use Rattle.ssz_schema.specs.Unfolding.{type_of}
use Rattle.ssz_json_text.proofs.Lengths.{SumFrom, FieldSumFrom}
use Rattle.ssz_json_text.proofs.measuring.+length.Given as goal

abbrev pub decreases-text_len : goal.decreases-text_len
decreases-text_len l = 6 * l.id + 2

abbrev pub decreases-chosen_len : goal.decreases-chosen_len
decreases-chosen_len l = 6 * l.id + 1

abbrev pub decreases-container_len : goal.decreases-container_len
decreases-container_len l = 6 * l.id + 1

abbrev pub decreases-fields_len : goal.decreases-fields_len
decreases-fields_len l = 6 * l.id

abbrev pub decreases-elements_len : goal.decreases-elements_len
decreases-elements_len l = 6 * l.elem + 4

abbrev pub decreases-sequence_len : goal.decreases-sequence_len
decreases-sequence_len l = 6 * l.elem + 5

abbrev pub invariant-elements_len-loop-part : goal.invariant-elements_len-loop-part
invariant-elements_len-loop-part l =
    SumFrom (type_of l.schema l.elem) l.parts l.part-index l.total

abbrev pub invariant-fields_len-loop-i : goal.invariant-fields_len-loop-i
invariant-fields_len-loop-i l = FieldSumFrom l.schema.trees l.fields l.parts l.i l.total
