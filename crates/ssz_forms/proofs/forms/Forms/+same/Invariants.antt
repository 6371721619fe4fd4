use Rattle.std.proofs.Common.{◌+◌, ◌*◌}
use Rattle.ssz_forms.specs.Answers.{AreRight}
use Rattle.ssz_forms.proofs.Comparing.{FieldsFrom, OptionsFrom}
use Rattle.ssz_forms.proofs.forms.Forms.+same.Given as goal

abbrev pub decreases-same : goal.decreases-same
decreases-same l = 5 * l.first + 4

abbrev pub decreases-compare : goal.decreases-compare
decreases-compare l = 5 * l.first + 3

abbrev pub decreases-is_vector : goal.decreases-is_vector
decreases-is_vector l = 5 * l.elem + 5

abbrev pub decreases-is_list : goal.decreases-is_list
decreases-is_list l = 5 * l.elem + 5

abbrev pub decreases-is_container : goal.decreases-is_container
decreases-is_container l = 5 * l.bound + 2

abbrev pub decreases-fields_same : goal.decreases-fields_same
decreases-fields_same l = 5 * l.bound + 1

abbrev pub decreases-is_union : goal.decreases-is_union
decreases-is_union l = 5 * l.bound + 2

abbrev pub decreases-options_same : goal.decreases-options_same
decreases-options_same l = 5 * l.bound + 1

abbrev pub decreases-option_same : goal.decreases-option_same
decreases-option_same l = 5 * l.bound

abbrev pub invariant-fields_same-loop-i : goal.invariant-fields_same-loop-i
invariant-fields_same-loop-i l =
    FieldsFrom l.schema.trees l.fields l.others l.i × AreRight l.schema l.self

abbrev pub invariant-options_same-loop-i : goal.invariant-options_same-loop-i
invariant-options_same-loop-i l =
    OptionsFrom l.schema.trees l.options l.others l.i × AreRight l.schema l.self
