use Rattle.std.proofs.Common.{◌+◌, ◌*◌}
use Rattle.ssz_json_draft.proofs.draft.+draft.Given as goal

abbrev pub decreases-value_of : goal.decreases-value_of
decreases-value_of l = 8 * l.id + 4

abbrev pub decreases-chosen_of : goal.decreases-chosen_of
decreases-chosen_of l = 8 * l.id + 2

abbrev pub decreases-inner_of : goal.decreases-inner_of
decreases-inner_of l = 8 * l.id + 1

abbrev pub decreases-container_of : goal.decreases-container_of
decreases-container_of l = 8 * l.id + 2

abbrev pub decreases-elements_of : goal.decreases-elements_of
decreases-elements_of l = 8 * l.elem + 5

abbrev pub decreases-sequence_of : goal.decreases-sequence_of
decreases-sequence_of l = 8 * l.elem + 6
